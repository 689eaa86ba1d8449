-- The numbers so far are the groups of the pairs before this one.
use Rattle.std.proofs.Common.{◌≡◌, ℕ, map, take}
use Rattle.mc_text.proofs.pair.group_numbers.Given as goal

abbrev pub invariant-loop-pair : goal.invariant-loop-pair
invariant-loop-pair l =
    l.numbers.items ≡ map (λ (pair : ℕ × ℕ). pair.1) (take l.pair-index l.fn.pairs)
