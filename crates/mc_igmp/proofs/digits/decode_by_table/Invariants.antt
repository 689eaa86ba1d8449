-- While all values are those of digits, the bytes so far are
-- decoded; once one isn't, no bytes are what the digits write.
use Rattle.std.proofs.Common.{◌≡◌, ◌≢◌, ℕ, ◌*◌, ◌<◌, ◌≤◌, List, take, drop, Ok}
use Rattle.hex.specs.Hex.{decode_pairs}
use Rattle.hex.proofs.Pairs.{prepend}
use Rattle.mc_igmp.proofs.digits.decode_by_table.Given as goal

abbrev pub invariant-loop-i : goal.invariant-loop-i
invariant-loop-i l = record {
  digits : l.values < 16 → decode_pairs 0 l.digits
      ≡ prepend (take l.i l.bytes) (decode_pairs (2 * l.i) (drop (2 * l.i) l.digits));
  others : 16 ≤ l.values → (out : List ℕ) → decode_pairs 0 l.digits ≢ Ok out;
}
