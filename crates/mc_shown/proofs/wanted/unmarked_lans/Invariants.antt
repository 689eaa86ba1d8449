use Rattle.std.proofs.Common.{◌≡◌, List, filter}
use Rattle.mc_theory.specs.Lists.{below}
use Rattle.mc_theory.specs.Flights.{Copy}
use Rattle.mc_forward.specs.ListedTables.{facts}
use Rattle.mc_shown.specs.WantedText.{AreMarksOfCopies}
use Rattle.mc_shown.specs.WantedText.{is_also_missed}
use Rattle.mc_shown.proofs.wanted.unmarked_lans.Given as goal

-- the list has the LANs so far that were also missed, whatever copies the marks are of
abbrev pub invariant-loop-number : goal.invariant-loop-number
invariant-loop-number l = (copies : List Copy) → AreMarksOfCopies l.marks copies → l.lans.items
    ≡ filter (is_also_missed (facts l.view.domain) l.view.flow copies l.missed) (below l.number)
