use Rattle.mc_json.proofs.found_value.finding_at_lan.Goals as goal

-- The two members are the kind of the finding and the name of its LAN.
pub returns : goal.returns
returns c = c.object.ensures _ (c.lan.ensures _ (c.text.ensures _ c.new.ensures))
