use Rattle.mc_json.proofs.end_lines.summary_value.Goals as goal

-- Each call adds the count of its name to those of the calls before it, and the object of the counts is the
-- only member of the line's.
pub returns : goal.returns
returns c = c.object.ensures _ (c.value.ensures _ _ c.new-2.ensures (c.object-inner.ensures _
    (c.count-6.ensures _ (c.count-5.ensures _ (c.count-4.ensures _ (c.count-3.ensures _ (c.count-2.ensures _
    (c.count.ensures _ c.new.ensures))))))))
