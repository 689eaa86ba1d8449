-- The keys of the pairs before this one are there, and that of all groups.
use Rattle.std.proofs.Common.{◌≡◌, take}
use Rattle.mc_tables.specs.Summary.{keys_for_every_source}
use Rattle.mc_tables.proofs.summary.summary_pairs.pairs_for_every_source.Given as goal

abbrev pub invariant-loop-pair : goal.invariant-loop-pair
invariant-loop-pair l = l.keys.items ≡ keys_for_every_source (take l.pair-index l.fn.pairs)
