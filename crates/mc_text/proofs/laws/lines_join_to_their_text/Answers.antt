-- A cut at a line feed keeps the line feed with the line before it.
use Rattle.mc_text.proofs.LineLemmas.{join_lines-lines_of}
use Rattle.mc_text.proofs.laws.lines_join_to_their_text.Goals as goal

pub returns : goal.returns
returns c = join_lines-lines_of
