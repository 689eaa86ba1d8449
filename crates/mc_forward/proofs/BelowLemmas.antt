-- Lists over the numbers below n.
use Rattle.std.proofs.Common.{◌≡◌, ℕ, zero, suc, ◌+◌, ◌<◌, ◌≤◌, ◌⊎◌, inl, inr, List, [], ◌∷◌, ◌++◌, map}
use Rattle.std.proofs.Common.{length, slice_get, Some, option_map, refl, ap, subst, ◌∙◌, arith}
use Rattle.std.proofs.Common.{add-one, length-append}
use Rattle.std.proofs.lemmas.Option.{slice_get-map}
use Rattle.mc_theory.specs.Lists.{In, Distinct, below}
use Rattle.mc_theory.proofs.ListLemmas.{in-below}
use Rattle.mc_theory.proofs.CopyAndStepBounds.{total, total-at_most_of_superset, total-of_ones}

-- they are n
pub length-below : (n : ℕ) → length (below n) ≡ n
unfolding below
length-below zero = refl
length-below (suc n) = length-append (below n) (n ∷ []) ∙ (let e = length-below n in omega arith)

-- a place of the first list
slice_get-append_left : {A : Type 0} (xs ys : List A) (i : ℕ) (x : A) → slice_get xs i ≡ Some x
    → slice_get (xs ++ ys) i ≡ Some x
slice_get-append_left [] ys i x e = absurd cc
slice_get-append_left (z ∷ xs) ys zero x e = e
slice_get-append_left (z ∷ xs) ys (suc i) x e = slice_get-append_left xs ys i x e

-- the place of the new item
slice_get-push : {A : Type 0} (xs : List A) (y : A)
    → slice_get (xs ++ y ∷ []) (length xs) ≡ Some y
slice_get-push [] y = refl
slice_get-push (x ∷ xs) y = slice_get-push xs y

-- a number below n + 1 is below n, or is n
below_or_last : (i n : ℕ) → i < suc n → (i < n) ⊎ (n ≡ i)
below_or_last i n h = grind arith

-- the number at a place is the place
slice_get-below : (n i : ℕ) → i < n → slice_get (below n) i ≡ Some i
unfolding below
slice_get-below zero i h = absurd (omega arith)
slice_get-below (suc n) i h = elim (below_or_last i n h) [
  | inl k ↦ slice_get-append_left (below n) (n ∷ []) i i (slice_get-below n i k)
  | inr e ↦ (
      let here : slice_get (below n ++ n ∷ []) n ≡ Some n =
      subst (λ (k : ℕ). slice_get (below n ++ n ∷ []) k ≡ Some n) (length-below n)
      (slice_get-push (below n) n) in
      subst (λ (k : ℕ). slice_get (below n ++ n ∷ []) k ≡ Some k) e here)
]

-- the place i of a list by numbers
pub slice_get-map_below : {A : Type 0} (f : ℕ → A) (n i : ℕ) → i < n
    → slice_get (map f (below n)) i ≡ Some (f i)
slice_get-map_below f n i h = slice_get-map f (below n) i
    ∙ ap (λ o. option_map f o) (slice_get-below n i h)

-- one number more
pub below-more : (n : ℕ) → below (n + 1) ≡ below n ++ n ∷ []
unfolding below
below-more n = ap below (add-one n)

-- the image of one item more
pub map-push : {A B : Type 0} (f : A → B) (xs : List A) (x : A)
    → map f (xs ++ x ∷ []) ≡ map f xs ++ f x ∷ []
map-push f [] x = refl
map-push f (y ∷ xs) x = ap (λ ys. f y ∷ ys) (map-push f xs x)

-- a list by one number more
pub map_below-more : {A : Type 0} (f : ℕ → A) (n : ℕ)
    → map f (below (n + 1)) ≡ map f (below n) ++ f n ∷ []
map_below-more f n = ap (map f) (below-more n) ∙ map-push f (below n) n

-- different numbers below n are at most n
pub length-of_distinct_below : (xs : List ℕ) (n : ℕ) → Distinct xs → ((x : ℕ) → In x xs → x < n) →
    length xs ≤ n
length-of_distinct_below xs n distinct below_n =
    let within : total {A = ℕ} (λ _. 1) xs ≤ total {A = ℕ} (λ _. 1) (below n) =
    total-at_most_of_superset {A = ℕ} (λ _. 1) xs (below n) distinct (λ x h. in-below x n (below_n x h)) in
    omega (arith, within, total-of_ones xs, total-of_ones (below n), length-below n)
