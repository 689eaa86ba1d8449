use Rattle.std.proofs.Common.{ℕ, List, ◌≡◌, ◌++◌, drop, flat_map}
use Rattle.std.specs.String.{string_bytes}
use Rattle.mc_shown.specs.UnlistedText.{unlisted_pair_text}
use Rattle.mc_shown.proofs.unlisted.unlisted_text.push_pairs.Given as goal

-- the lines so far, and those that are left, are the lines of all
abbrev pub invariant-loop-pair : goal.invariant-loop-pair
invariant-loop-pair l =
    string_bytes l.text ++ flat_map (λ (pair : (ℕ × ℕ) × List ℕ). unlisted_pair_text l.fn.topology pair.0
    pair.1)
    (drop l.pair-index l.fn.pairs)
    ≡ string_bytes l.initial.text
    ++ flat_map (λ (pair : (ℕ × ℕ) × List ℕ). unlisted_pair_text l.fn.topology pair.0 pair.1) l.fn.pairs
