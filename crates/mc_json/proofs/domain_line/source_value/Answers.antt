use Rattle.mc_json.proofs.domain_line.source_value.Goals as goal

-- The two members are added one by one: the text of the address, and the name of the LAN.
pub returns : goal.returns
returns c = rw (← c.source.view_is) (c.object.ensures _ (c.lan.ensures _ (c.string.ensures _ _
    c.new.ensures c.format.ensures.ok)))
