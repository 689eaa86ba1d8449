use Rattle.std.proofs.Common.{◌≡◌, length}
use Rattle.mc_forward.specs.Assembling.{RelatedAtEachIndex, AreWanted}
use Rattle.mc_forward.proofs.wants.wants_of_lans.Given as goal

-- The answers so far are those of the lists so far.
abbrev pub invariant-loop-list : goal.invariant-loop-list
invariant-loop-list l = record {
  count : length l.wants.items ≡ l.list-index;
  each : RelatedAtEachIndex (AreWanted l.fn.topology.flows) l.fn.reports l.wants.items;
}
