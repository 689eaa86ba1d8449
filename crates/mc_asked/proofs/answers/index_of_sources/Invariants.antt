use Rattle.std.proofs.Common.{◌≡◌, map, take}
use Rattle.mc_text.specs.Pair.{pair_number, pair_of}
use Rattle.mc_asked.proofs.answers.index_of_sources.Given as goal

-- The numbers are those of the sources so far, and give these back.
abbrev pub invariant-loop-source : goal.invariant-loop-source
invariant-loop-source l = record {
  numbers : l.numbers.items ≡ map pair_number (take l.source-index l.fn.sources);
  pairs : map pair_of l.numbers.items ≡ take l.source-index l.fn.sources;
}
