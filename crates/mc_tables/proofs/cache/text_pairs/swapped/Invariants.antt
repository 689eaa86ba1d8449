-- The pairs before this one are there, each swapped.
use Rattle.std.proofs.Common.{◌≡◌, map, take}
use Rattle.mc_tables.specs.Summary.{group_first}
use Rattle.mc_tables.proofs.cache.text_pairs.swapped.Given as goal

abbrev pub invariant-loop-pair : goal.invariant-loop-pair
invariant-loop-pair l = l.swapped.items ≡ map group_first (take l.pair-index l.fn.pairs)
