-- The names of a valid topology have no line feed, so the only one is that at the end of the line.
use Rattle.mc_shown.proofs.NameListLemmas.{are_indented-also_missed_text, are_indented-wanted_text}
use Rattle.mc_shown.proofs.laws.line_laws.wanted_lines_begin_with_two_spaces.Goals as goal

pub returns-clause-wanted : goal.returns-clause-wanted
returns-clause-wanted c = λ t lans ok. are_indented-wanted_text t lans ok

pub returns-clause-missed : goal.returns-clause-missed
returns-clause-missed c = λ t lans ok. are_indented-also_missed_text t lans ok
