-- How often a number occurs among the images of a list's elements.
use Rattle.std.proofs.Common.{◌≡◌, ℕ, suc, ◌≤◌, inl, inr, Bool, true, false, cond, ◌==◌, List}
use Rattle.std.proofs.Common.{[], ◌∷◌, map, refl, sym, subst, arith, eqb-true, eq-eqb}
use Rattle.mc_theory.specs.Lists.{In, Distinct, count_of}

-- how many elements have this image
abbrev pub count_with_image : {A : Type 0} → (A → ℕ) → List A → ℕ → ℕ
count_with_image f xs l = count_of (λ x. f x == l) xs

count_none_step : {A : Type 0} (f : A → ℕ) (x : A) (xs : List A) (l : ℕ) (b : Bool) → (f x == l) ≡ b →
    (In l (map f (x ∷ xs)) → ⊥) → count_with_image f xs l ≡ 0 → cond b (suc (count_with_image f xs l))
    (count_with_image f xs l) ≡ 0
count_none_step f x xs l true e apart h = absurd (apart (inl (eqb-true (f x) l e)))
count_none_step f x xs l false e apart h = h

-- the count of a number that isn't among them is 0
count_with_image-none : {A : Type 0} (f : A → ℕ) (xs : List A) (l : ℕ) → (In l (map f xs) → ⊥) →
    count_with_image f xs l ≡ 0
count_with_image-none f [] l apart = refl
count_with_image-none f (x ∷ xs) l apart = count_none_step f x xs l (f x == l) refl apart
    (count_with_image-none f xs l (λ h. apart (inr h)))

count_at_most_one_step : {A : Type 0} (f : A → ℕ) (x : A) (xs : List A) (l : ℕ) (b : Bool) → (f x == l) ≡ b →
    Distinct (map f (x ∷ xs)) → count_with_image f xs l ≤ 1 →
    cond b (suc (count_with_image f xs l)) (count_with_image f xs l)
    ≤ 1
count_at_most_one_step f x xs l true e apart h =
    let none = count_with_image-none f xs l (λ k. apart.0 (subst (λ y. In y (map f xs))
    (sym (eqb-true (f x) l e)) k)) in
    omega (arith, none)
count_at_most_one_step f x xs l false e apart h = h

-- where no image occurs twice, each is counted once at most
pub count_with_image-at_most_one : {A : Type 0} (f : A → ℕ) (xs : List A) (l : ℕ) → Distinct (map f xs) →
    count_with_image f xs l ≤ 1
count_with_image-at_most_one f [] l apart = omega arith
count_with_image-at_most_one f (x ∷ xs) l apart = count_at_most_one_step f x xs l (f x == l) refl apart
    (count_with_image-at_most_one f xs l apart.1)

count_at_least_one_step : {A : Type 0} (f : A → ℕ) (x : A) (xs : List A) (l : ℕ) (b : Bool) → (f x == l) ≡ b →
    In l (map f (x ∷ xs)) → (In l (map f xs) → 1 ≤ count_with_image f xs l) →
    1 ≤ cond b (suc (count_with_image f xs l)) (count_with_image f xs l)
count_at_least_one_step f x xs l true e h ih = omega arith
count_at_least_one_step f x xs l false e (inl q) ih = absurd (let z = eq-eqb (f x) l q in cc)
count_at_least_one_step f x xs l false e (inr k) ih = ih k

-- the count of a number that is among them is at least 1
pub count_with_image-at_least_one : {A : Type 0} (f : A → ℕ) (xs : List A) (l : ℕ) → In l (map f xs) →
    1 ≤ count_with_image f xs l
count_with_image-at_least_one f [] l h = absurd h
count_with_image-at_least_one f (x ∷ xs) l h =
    count_at_least_one_step f x xs l (f x == l) refl h (count_with_image-at_least_one f xs l)

count_in_tail_step : (b : Bool) (k : ℕ) → cond b (suc k) k ≤ 1 → k ≤ 1
count_in_tail_step true k h = omega (arith, h)
count_in_tail_step false k h = h

count_of_repeated_step : (b : Bool) (k : ℕ) → b ≡ true → cond b (suc k) k ≤ 1 → 1 ≤ k → ⊥
count_of_repeated_step true k e h more = omega (arith, h, more)
count_of_repeated_step false k e h more = absurd cc

-- where each is counted once at most, no image occurs twice
pub distinct-from_counts : {A : Type 0} (f : A → ℕ) (xs : List A) → ((l : ℕ) → count_with_image f xs l ≤ 1) →
    Distinct (map f xs)
distinct-from_counts f [] h = tt
distinct-from_counts f (x ∷ xs) h = (
  (λ k. count_of_repeated_step (f x == f x) (count_with_image f xs (f x)) (eq-eqb (f x) (f x) refl) (h (f x))
      (count_with_image-at_least_one f xs (f x) k)),
  distinct-from_counts f xs (λ l. count_in_tail_step (f x == l) (count_with_image f xs l) (h l)),
)
