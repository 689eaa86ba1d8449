use Rattle.mc_json.proofs.domain_line.domain_value.Goals as goal

-- The three members are added one by one: the parts of the domain, the number of the format, and the words.
pub returns : goal.returns
returns c = c.object.ensures _ (c.list.ensures _ _ (c.count.ensures _ (c.value.ensures _ _
    c.new.ensures c.parts_value.ensures)) c.word_values.ensures)
