use Rattle.std.proofs.Common.{◌≡◌, ◌++◌, length, map}
use Rattle.std.specs.Vec.Iter.{into_iter_items, into_iter_len}
use Rattle.mc_asked.specs.WantSources.{as_asked}
use Rattle.mc_asked.proofs.unadmitted_sources.UnadmittedSources.into_wants.Given as goal

-- The entries that were yielded are those before the ones to come, and have become wants.
abbrev pub invariant-loop-own : goal.invariant-loop-own
invariant-loop-own l = record {
  yielded : l.yielded ++ into_iter_items l.own-iterator ≡ into_iter_items l.initial.own-iterator;
  count : into_iter_len l.own-iterator ≡ length (into_iter_items l.own-iterator);
  wants : l.wants.items ≡ map as_asked l.yielded;
}
