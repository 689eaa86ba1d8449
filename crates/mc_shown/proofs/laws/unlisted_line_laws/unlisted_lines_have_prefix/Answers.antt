-- The names of a valid topology have no line feed, so each line begins with its own words.
use Rattle.mc_shown.proofs.UnlistedLineLemmas.{are_unlisted_lines-unlisted_text}
use Rattle.mc_shown.proofs.laws.unlisted_line_laws.unlisted_lines_have_prefix.Goals as goal

pub returns : goal.returns
returns c = λ all t summary ok. are_unlisted_lines-unlisted_text all t summary ok
