use Rattle.mc_json.proofs.end_lines.verdict_value.Goals as goal

-- The one member is the word for this verdict.
pub returns : goal.returns
returns c = rw c.verdict_word-verdict.ensures at (c.object.ensures _ (c.text.ensures _
    c.new.ensures))
