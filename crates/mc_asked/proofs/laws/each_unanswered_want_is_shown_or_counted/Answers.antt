use Rattle.mc_asked.proofs.AskedLawLemmas.{asked_lines-from, count_wants-split, further_wants-from}
use Rattle.mc_asked.proofs.AskedLawLemmas.{in-services}
use Rattle.mc_asked.proofs.laws.each_unanswered_want_is_shown_or_counted.Goals as goal

-- Of all wants in order, the 20 lowest are each among the 20 lowest of every LAN that has them, so that the
-- kept wants give the same lines as whole lists.
pub returns-clause-lines : goal.returns-clause-lines
returns-clause-lines c = λ all a lists. asked_lines-from all a 0 lists

-- A LAN's wants are those that are shown and the others, and the lines count the former.
pub returns-clause-further : goal.returns-clause-further
returns-clause-further c = λ all a lists. further_wants-from all a lists

-- A want of the class `Service` passes the filter by which services are kept, and dropping repeats drops no
-- group.
pub returns-clause-services : goal.returns-clause-services
returns-clause-services c = λ all a lan records want h is. in-services all a lan records want h is

-- The further wants are all wants without those of the lines, which are no more than all.
pub returns-clause-count : goal.returns-clause-count
returns-clause-count c = count_wants-split
