-- Lists of values with one number, interface or source more.
use Rattle.std.proofs.Common.{◌≡◌, ℕ, ◌+◌, List, [], ◌∷◌, ◌++◌, flat_map, map, take, slice_get, Some, ap}
use Rattle.std.proofs.Common.{sym, ◌∙◌, append_assoc, append-nil}
use Rattle.std.proofs.lemmas.Grind.{flat_map-append}
use Rattle.std.proofs.lemmas.List.{map-append}
use Rattle.mc_theory.specs.Lists.{below}
use Rattle.mc_forward.proofs.IndexLemmas.{take-one_more}
use Rattle.mc_search.proofs.BucketLemmas.{flat_map-below_push}
use Rattle.serde_json.specs.Data.{Data}

-- values by one number more
pub flat_map-below_more : (f : ℕ → List Data) (old so_far now : List Data) (n : ℕ)
    → so_far ≡ old ++ flat_map f (below n) → now ≡ so_far ++ f n
    → now ≡ old ++ flat_map f (below (n + 1))
flat_map-below_more f old so_far now n before more =
    more ∙ ap (λ ds. ds ++ f n) before ∙ append_assoc old (flat_map f (below n)) (f n)
    ∙ ap (λ ds. old ++ ds) (sym (flat_map-below_push f n))

-- values of one item more
pub flat_map-take_more : {A B : Type 0} (f : A → List B) (xs : List A) (x : A) (old so_far now : List B)
    (n : ℕ) → slice_get xs n ≡ Some x → so_far ≡ old ++ flat_map f (take n xs) → now ≡ so_far ++ f x
    → now ≡ old ++ flat_map f (take (n + 1) xs)
flat_map-take_more f xs x old so_far now n found before more =
    more ∙ ap (λ ds. ds ++ f x) before ∙ append_assoc old (flat_map f (take n xs)) (f x)
    ∙ ap (λ ds. old ++ ds) (sym (ap (flat_map f) (take-one_more xs n x found)
    ∙ flat_map-append f (take n xs) (x ∷ [])
    ∙ ap (λ ds. flat_map f (take n xs) ++ ds) (append-nil (f x))))

-- the value of one item more
pub map-take_more : {A : Type 0} (f : A → Data) (xs : List A) (x : A) (so_far now : List Data) (n : ℕ)
    → slice_get xs n ≡ Some x → so_far ≡ map f (take n xs) → now ≡ so_far ++ f x ∷ []
    → now ≡ map f (take (n + 1) xs)
map-take_more f xs x so_far now n found before more =
    more ∙ ap (λ ds. ds ++ f x ∷ []) before
    ∙ sym (ap (map f) (take-one_more xs n x found) ∙ map-append f (take n xs) (x ∷ []))
