-- The first 40 lines of a search.
use Rattle.std.proofs.Common.{◌≡◌, ℕ, suc, ◌+◌, ◌-◌, ◌<◌, ◌≤◌, List, ◌∷◌, ◌++◌, take, flat_map}
use Rattle.std.proofs.Common.{ap, sym, ◌∙◌, append_assoc, arith}

-- a line among the first 40 is written
pub first_40_lines-more : {A : Type 0} (f : A → List ℕ) (old : List ℕ) (line : A) (rest : List A) (count : ℕ)
    → count < 40
    → (old ++ f line) ++ flat_map f (take (40 - (count + 1)) rest)
    ≡ old ++ flat_map f (take (40 - count) (line ∷ rest))
first_40_lines-more f old line rest count few =
    let one_less : suc (40 - (count + 1)) ≡ 40 - count = omega arith in
    append_assoc old (f line) (flat_map f (take (40 - (count + 1)) rest))
    ∙ ap (λ (n : ℕ). old ++ flat_map f (take n (line ∷ rest))) one_less

-- a later one isn't
pub first_40_lines-full : {A : Type 0} (f : A → List ℕ) (old : List ℕ) (line : A) (rest : List A) (count : ℕ)
    → 40 ≤ count
    → old ++ flat_map f (take (40 - (count + 1)) rest)
    ≡ old ++ flat_map f (take (40 - count) (line ∷ rest))
first_40_lines-full f old line rest count many =
    let none : 40 - (count + 1) ≡ 0 = omega arith in
    let none_now : 40 - count ≡ 0 = omega arith in
    ap (λ (n : ℕ). old ++ flat_map f (take n rest)) none
    ∙ ap (λ (n : ℕ). old ++ flat_map f (take n (line ∷ rest))) (sym none_now)
