use Rattle.std.proofs.Common.{◌≡◌, List, filter}
use Rattle.mc_theory.specs.Lists.{below}
use Rattle.mc_theory.specs.Flights.{Copy}
use Rattle.mc_forward.specs.FlightsInDomain.{net_in}
use Rattle.mc_forward.specs.PerLan.{HoldsFirstOfEachKey}
use Rattle.mc_explain.specs.Behind.{is_missed}
use Rattle.mc_explain.proofs.causes.behind.lans_without_copy.Given as goal

-- the list has the LANs so far that are missed, of whatever copies the first ones are kept
abbrev pub invariant-loop-number : goal.invariant-loop-number
invariant-loop-number l = (copies : List Copy)
    → HoldsFirstOfEachKey (λ (c : Copy). c.lan) l.fn.first_copies.by_lan copies
    → l.lans.items ≡ filter (is_missed (net_in l.fn.view) copies) (below l.number)
