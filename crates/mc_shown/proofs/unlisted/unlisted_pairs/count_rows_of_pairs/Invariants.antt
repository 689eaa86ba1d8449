use Rattle.std.proofs.Common.{ℕ, List, ◌≡◌, ◌≤◌, ◌*◌, length, sum_by, take}
use Rattle.mc_shown.proofs.unlisted.unlisted_pairs.count_rows_of_pairs.Given as goal

-- the number is that of the rows of the pairs so far; a vector has at most 2^64 routers, so 128 bits hold
-- it
abbrev pub invariant-loop-pair : goal.invariant-loop-pair
invariant-loop-pair l = record {
  so_far : l.rows ≡ sum_by (λ (pair : (ℕ × ℕ) × List ℕ). length pair.1) (take l.pair-index l.shown);
  few : l.rows ≤ l.pair-index * 18446744073709551616;
}
