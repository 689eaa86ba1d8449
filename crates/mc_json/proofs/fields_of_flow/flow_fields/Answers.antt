use Rattle.mc_json.proofs.fields_of_flow.flow_fields.Goals as goal

-- The four members are added one by one: the number, the texts of the two addresses, and the TTL.
pub returns : goal.returns
returns c = c.count-2.ensures _ (c.string-2.ensures _ _ (c.string.ensures _ _ (c.count.ensures _
    c.new.ensures) c.format.ensures.ok) c.format-2.ensures.ok)
