use Rattle.mc_json.proofs.asked_lines.service_value.Goals as goal

-- The three members are added one by one; a group of no service has the empty name.
pub returns : goal.returns
returns c = rw c.service_name_or_empty.ensures at
    (c.object.ensures _ (c.text.ensures _ (c.list.ensures _ _ (c.string.ensures _ _ c.new.ensures
    c.format.ensures.ok) c.lan_names.ensures)))
