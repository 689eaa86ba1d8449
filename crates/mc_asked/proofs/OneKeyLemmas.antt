-- One element of a list is changed, that of a key, where the keys ascend.
use Rattle.std.proofs.Common.{◌≡◌, ℕ, ◌<◌, zero, suc, true, false, cond, List, [], ◌∷◌, get_or, set}
use Rattle.std.proofs.Common.{◌+◌, ◌++◌, drop, take, length, map, arith, refl, sym, ap, ap₂, subst, ◌∙◌}
use Rattle.std.proofs.Common.{inl, inr}
use Rattle.std.specs.Cmp.{tied_itself}
use Rattle.std.specs.List.Sorted.{IsStrictlySortedBy}
use Rattle.std.specs.Ordering.{is_eq}
use Rattle.std.specs.declared.cmp.Ordering.{Ordering}
use Rattle.std.specs.declared.cmp.Ordering.TheVariants.{Less, Equal, Greater}
use Rattle.std.proofs.lemmas.List.{get_or-map, length-map}
use Rattle.mc_tables.specs.CacheTable.{key_cmp}
use Rattle.mc_tables.proofs.CacheLemmas.{key_cmp-total}
use Rattle.mc_tables.proofs.CacheMapLemmas.{key_cmp-antisymmetric}
use Rattle.mc_theory.specs.Lists.{In}
use Rattle.mc_asked.specs.WantStates.{is_key}
use Rattle.mc_asked.proofs.PartLemmas.{key_cmp-from_are_above, key_cmp-not_less_itself}

-- the key itself passes, and one below it, or above it, doesn't
pub is_key-itself : (q k : ℕ × ℕ) → k ≡ q → is_key q k ≡ true
is_key-itself q k same = ap is_eq (ap (key_cmp q) same ∙ tied_itself key_cmp-total q)

-- what the test of keys finds is the key
pub equal-from_is_key : (q k : ℕ × ℕ) → is_key q k ≡ true → k ≡ q
equal-from_is_key q k is = sym (key_cmp-antisymmetric q k (equal-from_is_eq (key_cmp q k) is))
  where
    equal-from_is_eq : (r : Ordering) → is_eq r ≡ true → r ≡ Equal
    equal-from_is_eq Less is = absurd cc
    equal-from_is_eq Equal is = refl
    equal-from_is_eq Greater is = absurd cc

-- another key isn't found
pub is_key-other : (q k : ℕ × ℕ) → (k ≡ q → ⊥) → is_key q k ≡ false
is_key-other q k other = elim (is_key q k) as (λ b. is_key q k ≡ b → b ≡ false) [
  | true ↦ λ is. absurd (other (equal-from_is_key q k is))
  | false ↦ λ is. refl
] refl

-- an element's key is among the keys
in-map : {X : Type 0} (key : X → ℕ × ℕ) (xs : List X) (x : X) → In x xs → In (key x) (map key xs)
in-map key [] x none = absurd none
in-map key (y ∷ xs) x (inl same) = inl (ap key same)
in-map key (y ∷ xs) x (inr there) = inr (in-map key xs x there)

-- where no key is that one, nothing changes
pub map-no_key : {X : Type 0} (key : X → ℕ × ℕ) (g : X → X) (q : ℕ × ℕ) (xs : List X)
    → ((x : X) → In x xs → key x ≡ q → ⊥) → xs ≡ map (λ x. cond (is_key q (key x)) (g x) x) xs
map-no_key key g q [] none = refl
map-no_key {X} key g q (x ∷ xs) none =
    ap₂ (λ (y : X) (ys : List X). y ∷ ys)
    (sym (ap (λ b. cond b (g x) x) (is_key-other q (key x) (none x (inl refl)))))
    (map-no_key key g q xs (λ y there. none y (inr there)))

-- the element of the key is changed
pub set-one_key : {X : Type 0} (key : X → ℕ × ℕ) (g : X → X) (q : ℕ × ℕ) (xs : List X) (i : ℕ) (d : X)
    → IsStrictlySortedBy key_cmp (map key xs) → i < length xs → key (get_or xs i d) ≡ q
    → set xs i (g (get_or xs i d)) ≡ map (λ x. cond (is_key q (key x)) (g x) x) xs
unfolding IsStrictlySortedBy
set-one_key key g q [] i d up within at = absurd (omega (arith, within))
set-one_key {X} key g q (x ∷ xs) zero d up within at =
    ap₂ (λ (y : X) (ys : List X). y ∷ ys)
    (sym (ap (λ b. cond b (g x) x) (is_key-itself q (key x) at)))
    (map-no_key key g q xs (λ y there same. key_cmp-not_less_itself (key x) (key y) (at ∙ sym same)
    (key_cmp-from_are_above (key x) (key y) (map key xs) up.0 (in-map key xs y there))))
set-one_key {X} key g q (x ∷ xs) (suc i) d up within at =
    let lower : i < length xs = omega (arith, within) in
    let behind : In q (map key xs) = subst (λ (k : ℕ × ℕ). In k (map key xs)) at
    (in-map key xs (get_or xs i d) (in-get_or xs i d lower)) in
    ap₂ (λ (y : X) (ys : List X). y ∷ ys)
    (sym (ap (λ b. cond b (g x) x) (is_key-other q (key x) (λ same.
    key_cmp-not_less_itself (key x) q same (key_cmp-from_are_above (key x) q (map key xs) up.0 behind)))))
    (set-one_key key g q xs i d up.1 lower at)
  where
    in-get_or : {X : Type 0} (xs : List X) (k : ℕ) (d : X) → k < length xs → In (get_or xs k d) xs
    in-get_or [] k d lt = absurd (omega (arith, lt))
    in-get_or (x ∷ xs) zero d lt = inl refl
    in-get_or (x ∷ xs) (suc k) d lt = inr (in-get_or xs k d (omega (arith, lt)))

-- ---- keys beside the elements

-- the key of an element stays
pub map-set_same : {X : Type 0} (key : X → ℕ × ℕ) (xs : List X) (i : ℕ) (y d : X)
    → key y ≡ key (get_or xs i d) → map key (set xs i y) ≡ map key xs
map-set_same key [] i y d same = refl
map-set_same key (x ∷ xs) zero y d same = ap (λ k. k ∷ map key xs) same
map-set_same key (x ∷ xs) (suc i) y d same = ap (λ ks. key x ∷ ks) (map-set_same key xs i y d same)

-- a change that leaves each key leaves the list of keys
pub map-same_keys : {X : Type 0} (key : X → ℕ × ℕ) (g : X → X) (xs : List X)
    → ((x : X) → key (g x) ≡ key x) → map key (map g xs) ≡ map key xs
map-same_keys key g [] same = refl
map-same_keys key g (x ∷ xs) same =
    ap₂ (λ (k : ℕ × ℕ) (ks : List (ℕ × ℕ)). k ∷ ks) (same x) (map-same_keys key g xs same)

-- the element at the place where its key was found
pub found-within : {X : Type 0} (key : X → ℕ × ℕ) (ks : List (ℕ × ℕ)) (xs : List X) (i : ℕ)
    → ks ≡ map key xs → i < length ks → i < length xs
found-within key ks xs i are within = subst (λ n. i < n) (ap length are ∙ length-map xs key) within

-- the element at the place where the search found a key has this key
pub found-key : {X : Type 0} (key : X → ℕ × ℕ) (ks : List (ℕ × ℕ)) (xs : List X) (i : ℕ) (q : ℕ × ℕ) (d : X)
    → ks ≡ map key xs → i < length ks → key_cmp (get_or ks i q) q ≡ Equal → key (get_or xs i d) ≡ q
found-key key ks xs i q d are within equal =
    sym (get_or-map key xs i d q (found-within key ks xs i are within))
    ∙ ap (λ l. get_or l i q) (sym are) ∙ key_cmp-antisymmetric (get_or ks i q) q equal

-- an element whose key isn't found
pub absent-key : {X : Type 0} (key : X → ℕ × ℕ) (ks : List (ℕ × ℕ)) (xs : List X) (q : ℕ × ℕ)
    → ks ≡ map key xs → (In q ks → ⊥) → (x : X) → In x xs → key x ≡ q → ⊥
absent-key key ks xs q are absent x there same =
    absent (subst (λ l. In q l) (sym are) (subst (λ k. In k (map key xs)) same (in-map key xs x there)))

-- ---- each element, one after another

-- changing the first element behind those that have been changed makes them one more
set-next_suc : {X : Type 0} (f : X → X) (xs : List X) (i : ℕ) (d : X) → i < length xs
    → set (map f (take i xs) ++ drop i xs) i (f (get_or (map f (take i xs) ++ drop i xs) i d))
    ≡ map f (take (suc i) xs) ++ drop (suc i) xs
set-next_suc f [] i d within = absurd (omega (arith, within))
set-next_suc f (x ∷ xs) zero d within = refl
set-next_suc f (x ∷ xs) (suc i) d within = ap (λ l. f x ∷ l) (set-next_suc f xs i d (omega (arith, within)))

-- the next one is changed
pub set-next : {X : Type 0} (f : X → X) (xs now : List X) (i : ℕ) (y d : X) → i < length xs
    → now ≡ map f (take i xs) ++ drop i xs → y ≡ f (get_or now i d)
    → set now i y ≡ map f (take (i + 1) xs) ++ drop (i + 1) xs
set-next f xs now i y d within so_far is =
    let next : suc i ≡ i + 1 = omega arith in
    ap₂ (λ l z. set l i z) so_far (is ∙ ap (λ l. f (get_or l i d)) so_far)
    ∙ set-next_suc f xs i d within
    ∙ ap (λ n. map f (take n xs) ++ drop n xs) next
