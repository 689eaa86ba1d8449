-- The first sentence is written as it is, and each other one after a line feed.
use Rattle.std.proofs.Common.{append_assoc}
use Rattle.mc_lines.proofs.text_sink.push_sentences.Goals as goal

pub returns : goal.returns
returns c = rw c.in-Some.ensures.cases.0
    (rw (c.in_ok-push_filled.ensures, append_assoc) at c.push_each_after_feed.ensures)
