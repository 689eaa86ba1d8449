use Rattle.std.proofs.Common.{◌≡◌, ℕ, List, length, map, take}
use Rattle.mc_asked.specs.PairParts.{with_parts}
use Rattle.mc_asked.proofs.SharedPairLemmas.{with_part_so_far}
use Rattle.mc_asked.proofs.shared_pairs.add_lan.Given as goal

-- Each pair has its LANs before, and this one if it is among the LAN's pairs so far.
abbrev pub invariant-loop-pair : goal.invariant-loop-pair
invariant-loop-pair l = record {
  count : length l.shared.items ≡ length l.fn.pairs;
  added : (parts : List (List (ℕ × ℕ))) → length parts ≡ l.fn.lan →
      l.fn.shared.items ≡ map (with_parts parts) l.fn.pairs →
      l.shared.items ≡ map (with_part_so_far parts (take l.pair-index l.fn.own)) l.fn.pairs;
}
