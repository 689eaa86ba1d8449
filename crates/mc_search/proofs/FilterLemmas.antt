-- The numbers below a count that pass a test, as the count grows, and marks by number.
use Rattle.std.proofs.Common.{◌≡◌, ℕ, zero, suc, ◌+◌, Bool, true, false, cond, List, [], ◌∷◌, ◌++◌, filter}
use Rattle.std.proofs.Common.{append-nil, ap, refl, replicate, sym, ◌∙◌}
use Rattle.std.specs.Prelude.{slice_index_or}
use Rattle.std.proofs.lemmas.List.Elements.{filter-append}
use Rattle.mc_theory.specs.Lists.{below}
use Rattle.mc_forward.proofs.BelowLemmas.{below-more}

-- of the numbers up to n those pass that pass below n, and n if it passes
filter-below_more : (p : ℕ → Bool) (n : ℕ)
    → filter p (below (n + 1)) ≡ filter p (below n) ++ filter p (n ∷ [])
filter-below_more p n = ap (filter p) (below-more n) ∙ filter-append p (below n) (n ∷ [])

-- if the next number passes, the list has one more,
pub filter-below_passed : (p : ℕ → Bool) (xs now : List ℕ) (n : ℕ) → xs ≡ filter p (below n) → p n ≡ true
    → now ≡ xs ++ n ∷ [] → now ≡ filter p (below (n + 1))
filter-below_passed p xs now n so_far passes pushed =
    let one : filter p (n ∷ []) ≡ n ∷ [] = ap (λ (b : Bool). cond b (n ∷ []) []) passes in
    pushed ∙ ap (λ ys. ys ++ n ∷ []) so_far
    ∙ sym (filter-below_more p n ∙ ap (λ ys. filter p (below n) ++ ys) one)

-- or else it stays the same
pub filter-below_failed : (p : ℕ → Bool) (xs : List ℕ) (n : ℕ) → xs ≡ filter p (below n) → p n ≡ false
    → xs ≡ filter p (below (n + 1))
filter-below_failed p xs n so_far fails =
    let none : filter p (n ∷ []) ≡ [] = ap (λ (b : Bool). cond b (n ∷ []) []) fails in
    so_far ∙ sym (filter-below_more p n ∙ ap (λ ys. filter p (below n) ++ ys) none
    ∙ append-nil (filter p (below n)))

-- ---- marks

-- at first no LAN is marked
pub slice_index_or-replicate_false : (n lan : ℕ) → slice_index_or (replicate n false) lan false ≡ false
slice_index_or-replicate_false zero lan = refl
slice_index_or-replicate_false (suc n) zero = refl
slice_index_or-replicate_false (suc n) (suc lan) = slice_index_or-replicate_false n lan
