use Rattle.mc_json.proofs.found_value.clean_finding.Goals as goal

-- The one member says that the packet was forwarded as it should be.
pub returns : goal.returns
returns c = c.object.ensures _ (c.text.ensures _ c.new.ensures)
