-- The lowest missed LAN, as a loop over the LANs finds it.
use Rattle.std.proofs.Common.{◌≡◌, ℕ, zero, suc, ◌+◌, ◌-◌, ◌<◌, Bool, true, false, cond, List, []}
use Rattle.std.proofs.Common.{◌∷◌, ◌++◌, Some, None, Option, ◌||◌, ◌&&◌, not, is_some, refl, ap}
use Rattle.std.proofs.Common.{◌∙◌, subst, arith, add-one}
use Rattle.mc_theory.specs.Lists.{below}
use Rattle.mc_theory.specs.Nets.{Net}
use Rattle.mc_theory.specs.Flights.{Copy}
use Rattle.mc_theory.specs.Findings.{first_copy_on, missed}
use Rattle.mc_forward.proofs.FirstLemmas.{first_some}

-- the missed LAN of a list with one more is that of the list, or else the last one if it is missed
missed-push : (n : Net) (cs : List Copy) (xs : List ℕ) (x : ℕ)
    → missed n cs (xs ++ x ∷ []) ≡ first_some (missed n cs xs) (missed n cs (x ∷ []))
missed-push n cs [] x = refl
missed-push n cs (y ∷ xs) x = by (n.wants y) (is_some (first_copy_on cs y)) (missed-push n cs xs x)
  where
    by : (w b : Bool) → missed n cs (xs ++ x ∷ []) ≡ first_some (missed n cs xs)
        (missed n cs (x ∷ []))
        → cond w (cond b (missed n cs (xs ++ x ∷ [])) (Some y)) (missed n cs (xs ++ x ∷ []))
        ≡ first_some (cond w (cond b (missed n cs xs) (Some y)) (missed n cs xs))
        (missed n cs (x ∷ []))
    by true true e = e
    by true false e = refl
    by false b e = e

-- where none below k is missed, the missed LAN up to k is k, if it is missed
missed-below_more : (n : Net) (cs : List Copy) (k : ℕ) → missed n cs (below k) ≡ None
    → missed n cs (below (k + 1)) ≡ missed n cs (k ∷ [])
unfolding below
missed-below_more n cs k h = ap (λ m. missed n cs (below m)) (add-one k)
    ∙ (missed-push n cs (below k) k ∙ ap (λ o. first_some o (missed n cs (k ∷ []))) h)

-- of no LANs none is missed
pub missed-below_none : (n : Net) (cs : List Copy) → missed n cs (below 0) ≡ None
unfolding below
missed-below_none n cs = refl

-- a LAN that wants the flow and carried no copy is missed
missed-one_wanting : (n : Net) (cs : List Copy) (k : ℕ) → n.wants k ≡ true
    → is_some (first_copy_on cs k) ≡ false
    → missed n cs (k ∷ []) ≡ Some k
missed-one_wanting n cs k w b = ap (λ x. cond x (cond (is_some (first_copy_on cs k)) None (Some k)) None) w
    ∙ ap (λ x. cond x None (Some k)) b

-- one that doesn't want the flow isn't
missed-one_unwanting : (n : Net) (cs : List Copy) (k : ℕ) → n.wants k ≡ false → missed n cs (k ∷ []) ≡ None
missed-one_unwanting n cs k w = ap (λ x. cond x (cond (is_some (first_copy_on cs k)) None (Some k)) None) w

-- nor is one that carried a copy
missed-one_with_copy : (n : Net) (cs : List Copy) (k : ℕ) (w : Bool) → is_some (first_copy_on cs k) ≡ true
    → n.wants k ≡ w → missed n cs (k ∷ []) ≡ None
missed-one_with_copy n cs k true b e = ap (λ x. cond x (cond (is_some (first_copy_on cs k)) None
    (Some k)) None) e
    ∙ ap (λ x. cond x None (Some k)) b
missed-one_with_copy n cs k false b e = missed-one_unwanting n cs k e

-- a LAN that doesn't want the flow isn't missed
pub missed-below_more_unwanting : (n : Net) (cs : List Copy) (k : ℕ) → missed n cs (below k) ≡ None
    → n.wants k ≡ false → missed n cs (below (k + 1)) ≡ None
missed-below_more_unwanting n cs k h w = missed-below_more n cs k h ∙ missed-one_unwanting n cs k w

-- nor is one that carried a copy
pub missed-below_more_with_copy : (n : Net) (cs : List Copy) (k : ℕ) → missed n cs (below k) ≡ None
    → is_some (first_copy_on cs k) ≡ true → missed n cs (below (k + 1)) ≡ None
missed-below_more_with_copy n cs k h b = missed-below_more n cs k h
    ∙ missed-one_with_copy n cs k (n.wants k) b refl

-- the missed LAN stays the same with more LANs after it
missed-kept_by_more : (n : Net) (cs : List Copy) (k d l : ℕ) → missed n cs (below (k + 1)) ≡ Some l
    → missed n cs (below (k + 1 + d)) ≡ Some l
unfolding below
missed-kept_by_more n cs k zero l h = let e : k + 1 ≡ k + 1 + zero =
    omega arith in subst (λ m. missed n cs (below m) ≡ Some l) e h
missed-kept_by_more n cs k (suc d) l h =
    let e : suc (k + 1 + d) ≡ k + 1 + suc d = omega arith in
    subst (λ m. missed n cs (below m) ≡ Some l) e (missed-push n cs (below (k + 1 + d)) (k + 1 + d)
    ∙ ap (λ o. first_some o (missed n cs ((k + 1 + d) ∷ []))) (missed-kept_by_more n cs k d l h))

-- the first LAN that wants the flow and carried no copy is the missed one
pub missed-first_wanting : (n : Net) (cs : List Copy) (k m : ℕ) → missed n cs (below k) ≡ None
    → n.wants k ≡ true → is_some (first_copy_on cs k) ≡ false → k < m → missed n cs (below m) ≡ Some k
missed-first_wanting n cs k m h w b lt =
    let q : k + 1 + (m - (k + 1)) ≡ m = omega arith in
    subst (λ x. missed n cs (below x) ≡ Some k) q
    (missed-kept_by_more n cs k (m - (k + 1)) k (missed-below_more n cs k h ∙ missed-one_wanting n cs k w b))

-- whether a LAN is missed, by the numbers before the next one and by that
is_some-first_some : (a b : Option ℕ) → is_some (first_some a b) ≡ (is_some a || is_some b)
is_some-first_some None b = refl
is_some-first_some (Some x) b = refl

-- a LAN is missed exactly if it wants the flow and carried no copy
is_some-missed_one : (k : ℕ) (w b : Bool) → is_some (cond w (cond b None (Some k)) None) ≡ (w && not b)
is_some-missed_one k true true = refl
is_some-missed_one k true false = refl
is_some-missed_one k false b = refl

-- of the LANs up to number k one is missed if one below k is, or LAN k wants the flow and carried no copy
pub is_some-missed_below_more : (n : Net) (cs : List Copy) (k : ℕ) → is_some (missed n cs (below (k + 1)))
    ≡ (is_some (missed n cs (below k)) || (n.wants k && not (is_some (first_copy_on cs k))))
unfolding below
is_some-missed_below_more n cs k = ap (λ m. is_some (missed n cs (below m))) (add-one k)
    ∙ ap is_some (missed-push n cs (below k) k)
    ∙ is_some-first_some (missed n cs (below k)) (missed n cs (k ∷ []))
    ∙ ap (λ s. is_some (missed n cs (below k)) || s) (is_some-missed_one k (n.wants k)
    (is_some (first_copy_on cs k)))
