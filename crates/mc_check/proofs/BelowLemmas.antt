-- The first reason over the numbers below n, as a loop finds it.
use Rattle.std.proofs.Common.{◌≡◌, ℕ, zero, suc, ◌+◌, ◌-◌, ◌<◌, List, [], ◌∷◌, ◌++◌, Option, Some}
use Rattle.std.specs.Prelude.{IsTrue}
use Rattle.std.proofs.Common.{Bool, true, false, ◌&&◌, None, refl, ap, ◌∙◌, subst, arith, add-one}
use Rattle.mc_theory.specs.Lists.{below}
use Rattle.mc_theory.specs.Reasons.{Reason, ◌then◌, first_of}

-- the first reason of a list with one more number is that of the list, or else that of the number
first_of-push : (f : ℕ → Option Reason) (xs : List ℕ) (x : ℕ)
    → first_of f (xs ++ x ∷ []) ≡ (first_of f xs then f x)
first_of-push f [] x = by (f x)
  where
    by : (o : Option Reason) → (o then None) ≡ o
    by None = refl
    by (Some y) = refl
first_of-push f (y ∷ xs) x = ap (λ o. f y then o) (first_of-push f xs x)
    ∙ assoc (f y) (first_of f xs) (f x)
  where
    assoc : (a b c : Option Reason) → (a then (b then c)) ≡ ((a then b) then c)
    assoc None b c = refl
    assoc (Some x) b c = refl

-- where the numbers below k give none, the first reason up to k is that of k
first_of-below_more : (f : ℕ → Option Reason) (k : ℕ) → first_of f (below k) ≡ None
    → first_of f (below (k + 1)) ≡ f k
unfolding below
first_of-below_more f k h = ap (λ n. first_of f (below n)) (add-one k)
    ∙ (first_of-push f (below k) k ∙ ap (λ o. o then f k) h)

-- of no numbers there is no reason
pub first_of-below_none : (f : ℕ → Option Reason) → first_of f (below 0) ≡ None
unfolding below
first_of-below_none f = refl

-- one number more without a reason
pub first_of-none_more : (f : ℕ → Option Reason) (k : ℕ) → first_of f (below k) ≡ None → f k ≡ None
    → first_of f (below (k + 1)) ≡ None
first_of-none_more f k h e = first_of-below_more f k h ∙ e

-- what is found at k stays the first reason when more numbers follow
first_of-kept_by_more : (f : ℕ → Option Reason) (k d : ℕ) (x : Reason) → first_of f (below (k + 1)) ≡ Some x
    → first_of f (below (k + 1 + d)) ≡ Some x
unfolding below
first_of-kept_by_more f k zero x h = let e : k + 1 ≡ k + 1 + zero =
    omega arith in subst (λ n. first_of f (below n) ≡ Some x) e h
first_of-kept_by_more f k (suc d) x h =
    let e : suc (k + 1 + d) ≡ k + 1 + suc d = omega arith in
    subst (λ n. first_of f (below n) ≡ Some x) e (first_of-push f (below (k + 1 + d)) (k + 1 + d)
    ∙ ap (λ o. o then f (k + 1 + d)) (first_of-kept_by_more f k d x h))

-- the reason of k is the first one of all, where no number below k gives one
pub first_of-found_at : (f : ℕ → Option Reason) (k n : ℕ) (x : Reason) → first_of f (below k) ≡ None
    → f k ≡ Some x → k < n → first_of f (below n) ≡ Some x
first_of-found_at f k n x h e lt =
    let q : k + 1 + (n - (k + 1)) ≡ n = omega arith in
    subst (λ m. first_of f (below m) ≡ Some x) q
    (first_of-kept_by_more f k (n - (k + 1)) x (first_of-below_more f k h ∙ e))

-- the same, from two booleans: none before k, and none at k
pub first_of-none_more_by_bools : (f : ℕ → Option Reason) (k : ℕ) (all one : Bool)
    → (all ≡ true → first_of f (below k) ≡ None) → (IsTrue one → f k ≡ None)
    → (all && one) ≡ true → first_of f (below (k + 1)) ≡ None
first_of-none_more_by_bools f k true true before here e = first_of-none_more f k (before refl) (here refl)
first_of-none_more_by_bools f k true false before here e = absurd cc
first_of-none_more_by_bools f k false one before here e = absurd cc
