-- The numbers so far are those of the pairs before this one, and stand for them.
use Rattle.std.proofs.Common.{◌≡◌, map, take}
use Rattle.mc_text.specs.Pair.{pair_number, pair_of}
use Rattle.mc_text.proofs.pair.pair_numbers.Given as goal

abbrev pub invariant-loop-pair : goal.invariant-loop-pair
invariant-loop-pair l = record {
  numbers : l.numbers.items ≡ map pair_number (take l.pair-index l.fn.pairs);
  pairs : map pair_of l.numbers.items ≡ take l.pair-index l.fn.pairs;
}
