-- A pair among the lowest of all is among the lowest of each part that has it.
use Rattle.std.proofs.Common.{◌≡◌, ◌==◌, ℕ, zero, suc, Bool, true, false, cond, List, [], ◌∷◌, ◌++◌, take}
use Rattle.std.proofs.Common.{Option, Some, None, inl, inr, refl, sym, ap, ap₂}
use Rattle.std.proofs.Common.{subst, ◌∙◌}
use Rattle.std.specs.Prelude.{◌&&◌, ◌||◌}
use Rattle.std.specs.FinMap as fin
use Rattle.std.specs.Cmp.{tied_itself}
use Rattle.std.specs.List.Sorted.{IsStrictlySortedBy}
use Rattle.std.specs.Ordering.{eq_by_cmp, is_eq}
use Rattle.std.specs.declared.cmp.Ordering.{Ordering}
use Rattle.std.specs.declared.cmp.Ordering.TheVariants.{Less, Equal, Greater}
use Rattle.std.proofs.lemmas.Bool.{and_parts, eq-eqb, eqb-true, false≢true}
use Rattle.mc_tables.specs.CacheTable.{key_cmp}
use Rattle.mc_tables.specs.ListedRows.{is_listed}
use Rattle.mc_tables.specs.Summary.{in_order, shown_pairs}
use Rattle.mc_tables.proofs.CacheLemmas.{key_cmp-total}
use Rattle.mc_tables.proofs.CacheMapLemmas.{key_cmp-antisymmetric}
use Rattle.mc_theory.specs.Lists.{In}
use Rattle.mc_theory.proofs.ListLemmas.{in-append_cases, in-append_left}
use Rattle.mc_asked.proofs.MergeLemmas.{AreAbove, are_above-trans}
use Rattle.mc_tables.proofs.LowestLemmas.{as_keys, find-in_order}
use Rattle.mc_asked.proofs.MergeLemmas.{in_order-append_in_order, is_strictly_sorted_by-in_order}
use Rattle.mc_asked.proofs.MergeLemmas.{merge_into}
use Rattle.mc_asked.proofs.MergeLemmas.{lowest-append, merge, merge_step}
use Rattle.mc_asked.proofs.LowestOfParts.{lowest}

-- ---- the first ones of two merged lists

-- the first elements are elements
pub in-from_take : (k : ℕ) (p : ℕ × ℕ) (xs : List (ℕ × ℕ)) → In p (take k xs) → In p xs
in-from_take zero p xs h = absurd h
in-from_take (suc k) p [] h = absurd h
in-from_take (suc k) p (x ∷ xs) (inl e) = inl e
in-from_take (suc k) p (x ∷ xs) (inr h) = inr (in-from_take k p xs h)

-- the first k elements are among the first k + 1
in-take_more : (k : ℕ) (p : ℕ × ℕ) (xs : List (ℕ × ℕ)) → In p (take k xs) → In p (take (suc k) xs)
in-take_more zero p xs h = absurd h
in-take_more (suc k) p [] h = absurd h
in-take_more (suc k) p (x ∷ xs) (inl e) = inl e
in-take_more (suc k) p (x ∷ xs) (inr h) = inr (in-take_more k p xs h)

-- a pair is below each that is above it
pub key_cmp-from_are_above : (a p : ℕ × ℕ) (l : List (ℕ × ℕ)) → AreAbove a l → In p l → key_cmp a p ≡ Less
key_cmp-from_are_above a p [] all h = absurd h
key_cmp-from_are_above a p (b ∷ l) all (inl e) = ap (key_cmp a) (sym e) ∙ all.0
key_cmp-from_are_above a p (b ∷ l) all (inr h) = key_cmp-from_are_above a p l all.1 h

-- no pair is below itself
pub key_cmp-not_less_itself : (a p : ℕ × ℕ) → a ≡ p → key_cmp a p ≡ Less → ⊥
key_cmp-not_less_itself a p e less =
    let equal : key_cmp a p ≡ Equal = ap (key_cmp a) (sym e) ∙ tied_itself key_cmp-total a in
    absurd (false≢true (ap is_eq (sym less ∙ equal)))

-- A pair of one list that is among the lowest of two is among the lowest of its own: merging others in only
-- moves it back.
in-take_of_merge : (k : ℕ) (p : ℕ × ℕ) (s l : List (ℕ × ℕ)) → IsStrictlySortedBy key_cmp l
    → In p (take k (merge s l)) → In p l → In p (take k l)
unfolding IsStrictlySortedBy
in-take_of_merge zero p s l up h own = absurd h
in-take_of_merge (suc k) p [] l up h own = h
in-take_of_merge (suc k) p (a ∷ s) [] up h own = absurd own
in-take_of_merge (suc k) p (a ∷ s) (b ∷ l) up h own =
    elim (key_cmp a b) as (λ r. key_cmp a b ≡ r
    → In p (take (suc k) (merge_step r a b (merge s (b ∷ l)) (merge s l) (merge_into a (merge s) l)))
    → In p (b ∷ take k l)) [
      | Less ↦ λ is h. elim h [
        | inl e ↦ absurd (key_cmp-not_less_itself a p e (key_cmp-from_are_above a p (b ∷ l)
            (is, are_above-trans a b l is up.0) own))
        | inr t ↦ in-take_more k p (b ∷ l) (in-take_of_merge k p s (b ∷ l) up t own)
      ]
      | Equal ↦ λ is h. elim h [
        | inl e ↦ inl (sym (key_cmp-antisymmetric a b is) ∙ e)
        | inr t ↦ elim own [
          | inl e ↦ inl e
          | inr j ↦ inr (in-take_of_merge k p s l up.1 t j)
        ]
      ]
      | Greater ↦ λ is h. elim h [
        | inl e ↦ inl e
        | inr t ↦ elim own [
          | inl e ↦ inl e
          | inr j ↦ inr (in-take_of_merge k p (a ∷ s) l up.1 t j)
        ]
      ]
    ] refl h

-- ---- keys that are found

-- what the test finds equal is equal
equal-from_is_eq : (r : Ordering) → is_eq r ≡ true → r ≡ Equal
equal-from_is_eq Less is = absurd cc
equal-from_is_eq Equal is = refl
equal-from_is_eq Greater is = absurd cc

-- a pair of a list is found among its keys
find-from_in : (q : ℕ × ℕ) (xs : List (ℕ × ℕ)) → In q xs
    → fin.find key_cmp q (as_keys xs) ≡ Some (tt {0})
find-from_in q [] h = absurd h
find-from_in q (x ∷ xs) (inl e) =
    ap (λ (b : Bool). cond b (Some (tt {0})) (fin.find key_cmp q (as_keys xs)))
    (ap is_eq (ap (key_cmp q) e ∙ tied_itself key_cmp-total q))
find-from_in q (x ∷ xs) (inr h) =
    elim (eq_by_cmp key_cmp q x) as (λ b.
    cond b (Some (tt {0})) (fin.find key_cmp q (as_keys xs)) ≡ Some (tt {0})) [
      | true ↦ refl
      | false ↦ find-from_in q xs h
    ]

-- and what is found is a pair of the list
in-from_find : (q : ℕ × ℕ) (xs : List (ℕ × ℕ)) → fin.find key_cmp q (as_keys xs) ≡ Some (tt {0})
    → In q xs
in-from_find q [] e = absurd cc
in-from_find q (x ∷ xs) e =
    elim (eq_by_cmp key_cmp q x) as (λ b. eq_by_cmp key_cmp q x ≡ b
    → cond b (Some (tt {0})) (fin.find key_cmp q (as_keys xs)) ≡ Some (tt {0}) → In q (x ∷ xs)) [
      | true ↦ λ is e. inl (sym (key_cmp-antisymmetric q x (equal-from_is_eq (key_cmp q x) is)))
      | false ↦ λ is e. inr (in-from_find q xs e)
    ] refl e

-- putting pairs in order loses none
pub in-in_order : (q : ℕ × ℕ) (ps : List (ℕ × ℕ)) → In q ps → In q (in_order ps)
in-in_order q ps h = in-from_find q (in_order ps) (find-in_order q ps ∙ find-from_in q ps h)

-- and adds none
pub in-from_in_order : (q : ℕ × ℕ) (ps : List (ℕ × ℕ)) → In q (in_order ps) → In q ps
in-from_in_order q ps h = in-from_find q ps (sym (find-in_order q ps) ∙ find-from_in q (in_order ps) h)

-- two searches that find the same are equal
equal_options-from_both : (o u : Option (Unit {0})) → (o ≡ Some (tt {0}) → u ≡ Some (tt {0}))
    → (u ≡ Some (tt {0}) → o ≡ Some (tt {0})) → o ≡ u
equal_options-from_both None None f g = refl
equal_options-from_both None (Some y) f g = g refl
equal_options-from_both (Some x) u f g = sym (f refl)

-- pairs that are there already change nothing
in_order-append_covered : (xs ys : List (ℕ × ℕ)) → ((q : ℕ × ℕ) → In q ys → In q xs)
    → in_order (xs ++ ys) ≡ in_order xs
in_order-append_covered xs ys inside =
    ap fin.keys (fin.same_map key_cmp-total key_cmp-antisymmetric
    (fin.from_entries {R = key_cmp} (as_keys (xs ++ ys)))
    (fin.from_entries {R = key_cmp} (as_keys xs)) (λ q.
    fin.get-from_entries key_cmp-total (as_keys (xs ++ ys)) q
    ∙ equal_options-from_both _ _
    (λ e. find-from_in q xs (elim (in-append_cases q xs ys (in-from_find q (xs ++ ys) e)) [
      | inl h ↦ h
      | inr h ↦ inside q h
    ]))
    (λ e. find-from_in q (xs ++ ys) (in-append_left q xs ys (in-from_find q xs e)))
    ∙ sym (fin.get-from_entries key_cmp-total (as_keys xs) q)))

-- a pair among the lowest of all is among the lowest of each part that has it
in-lowest_of_part : (p : ℕ × ℕ) (xs ys : List (ℕ × ℕ)) → ((q : ℕ × ℕ) → In q ys → In q xs)
    → In p (lowest xs) → In p ys → In p (lowest ys)
in-lowest_of_part p xs ys inside h own =
    in-take_of_merge 20 p (lowest xs) (in_order ys) (is_strictly_sorted_by-in_order ys)
    (subst (In p) (sym (ap (take 20) (in_order-append_covered xs ys inside))
    ∙ sym (ap (take 20) (in_order-append_in_order xs ys))
    ∙ lowest-append xs (in_order ys) (is_strictly_sorted_by-in_order ys)) h)
    (in-in_order p ys own)

-- ---- the tests

-- two tests that hold together are equal
pub equal_bools-from_both : (a b : Bool) → (a ≡ true → b ≡ true) → (b ≡ true → a ≡ true) → a ≡ b
equal_bools-from_both true b f g = sym (f refl)
equal_bools-from_both false true f g = g refl
equal_bools-from_both false false f g = refl

-- a pair of a list is listed
pub is_listed-from_in : (p : ℕ × ℕ) (xs : List (ℕ × ℕ)) → In p xs → is_listed (Some xs) p ≡ true
is_listed-from_in p [] h = absurd h
is_listed-from_in p (x ∷ xs) (inl e) =
    ap (λ (y : ℕ × ℕ). ((y.0 == p.0) && (y.1 == p.1)) || is_listed (Some xs) p) e
    ∙ ap₂ (λ (a b : Bool). (a && b) || is_listed (Some xs) p) (eq-eqb p.0 p.0 refl)
    (eq-eqb p.1 p.1 refl)
is_listed-from_in p (x ∷ xs) (inr h) =
    elim ((x.0 == p.0) && (x.1 == p.1)) as (λ b. (b || is_listed (Some xs) p) ≡ true) [
      | true ↦ refl
      | false ↦ is_listed-from_in p xs h
    ]

-- and what is listed is a pair of the list
pub in-from_is_listed : (p : ℕ × ℕ) (xs : List (ℕ × ℕ)) → is_listed (Some xs) p ≡ true → In p xs
in-from_is_listed p [] e = absurd (false≢true e)
in-from_is_listed p (x ∷ xs) e =
    elim ((x.0 == p.0) && (x.1 == p.1)) as (λ b. ((x.0 == p.0) && (x.1 == p.1)) ≡ b
    → (b || is_listed (Some xs) p) ≡ true → In p (x ∷ xs)) [
      | true ↦ λ is e.
          let both = and_parts (x.0 == p.0) (x.1 == p.1) is in
          inl (ap₂ (λ (a b : ℕ). (a, b)) (eqb-true x.0 p.0 both.0) (eqb-true x.1 p.1 both.1))
      | false ↦ λ is e. inr (in-from_is_listed p xs e)
    ] refl e

-- a shown pair is among the shown ones of each part that has it
pub is_listed-shown_of_part : (all : Bool) (p : ℕ × ℕ) (xs ys : List (ℕ × ℕ)) → ((q : ℕ × ℕ) → In q ys
    → In q xs)
    → In p (shown_pairs all (in_order xs))
    → is_listed (Some (shown_pairs all (in_order ys))) p ≡ is_listed (Some ys) p
is_listed-shown_of_part true p xs ys inside shown =
    equal_bools-from_both (is_listed (Some (in_order ys)) p) (is_listed (Some ys) p)
    (λ e. is_listed-from_in p ys (in-from_in_order p ys (in-from_is_listed p (in_order ys) e)))
    (λ e. is_listed-from_in p (in_order ys) (in-in_order p ys (in-from_is_listed p ys e)))
is_listed-shown_of_part false p xs ys inside shown =
    equal_bools-from_both (is_listed (Some (lowest ys)) p) (is_listed (Some ys) p)
    (λ e. is_listed-from_in p ys (in-from_in_order p ys (in-from_take 20 p (in_order ys)
    (in-from_is_listed p (lowest ys) e))))
    (λ e. is_listed-from_in p (lowest ys) (in-lowest_of_part p xs ys inside shown (in-from_is_listed p ys e)))
