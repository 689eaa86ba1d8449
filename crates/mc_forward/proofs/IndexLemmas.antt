-- Two lists place by place, one of which grows by an item at its end.
use Rattle.std.proofs.Common.{◌≡◌, ℕ, zero, suc, ◌+◌, ◌<◌, ◌≤◌, ◌⊎◌, inl, inr, List, [], ◌∷◌, ◌++◌}
use Rattle.std.proofs.Common.{map, length, take, get_or, slice_get, Option, Some, refl, ap, sym}
use Rattle.std.proofs.Common.{subst, ◌∙◌, arith, add-one, length-append}
use Rattle.std.proofs.lemmas.List.{take_more, take_all}
use Rattle.std.proofs.lemmas.Option.{get_or_from_slice_get, slice_get_within, slice_get_read}
use Rattle.mc_theory.specs.Lists.{below}
use Rattle.mc_forward.specs.Assembling.{RelatedAtEachIndex}
use Rattle.mc_forward.proofs.BelowLemmas.{map_below-more}

-- an item of the longer list is an old one, or the new one
slice_get-push_cases : {A : Type 0} (xs : List A) (y z : A) (k : ℕ) → slice_get (xs ++ y ∷ []) k ≡ Some z
    → (slice_get xs k ≡ Some z) ⊎ ((length xs ≡ k) × (y ≡ z))
slice_get-push_cases [] y z zero e = inr (refl, cc)
slice_get-push_cases [] y z (suc k) e = absurd cc
slice_get-push_cases (x ∷ xs) y z zero e = inl e
slice_get-push_cases (x ∷ xs) y z (suc k) e = elim (slice_get-push_cases xs y z k e)
    [ inl h ↦ inl h | inr p ↦ inr (ap suc p.0, p.1) ]

-- what holds of each item by its place, and of one more at the end
pub each_by_index-push : {A : Type 0} (R : ℕ → A → Type 0) (xs now : List A) (y : A) (k : ℕ)
    → now ≡ xs ++ y ∷ [] → length xs ≡ k → R k y
    → ((i : ℕ) (z : A) → slice_get xs i ≡ Some z → R i z) → (i : ℕ) (z : A)
    → slice_get now i ≡ Some z → R i z
each_by_index-push {A} R xs now y k more size here each i z at =
    let found : slice_get (xs ++ y ∷ []) i ≡ Some z =
    subst (λ (ys : List A). slice_get ys i ≡ Some z) more at in
    elim (slice_get-push_cases xs y z i found) [
      | inl old ↦ each i z old
      | inr last ↦ subst (R i) last.1 (subst (λ n. R n y) (sym size ∙ last.0) here)
    ]

-- an option has one item
item_equal-from_some : {A : Type 0} (o : Option A) (x z : A) → o ≡ Some x → o ≡ Some z → x ≡ z
item_equal-from_some o x z a b = cc

-- the next items of both lists
pub related_at_each_index-push : {A B : Type 0} (R : A → B → Type 0) (xs : List A) (ys : List B)
    (x : A) (y : B)
    → RelatedAtEachIndex R xs ys
    → slice_get xs (length ys) ≡ Some x → R x y → RelatedAtEachIndex R xs (ys ++ y ∷ [])
related_at_each_index-push R xs ys x y each at r k w z ew ez = elim (slice_get-push_cases ys y z k ez) [
  | inl e ↦ each k w z ew e
  | inr p ↦ (
      let here = subst (λ (n : ℕ). slice_get xs n ≡ Some x) p.0 at in
      subst (λ v. R w v) p.1 (subst (λ v. R v y) (item_equal-from_some (slice_get xs k) x w here ew) r))
]

-- an item within the list
pub slice_get-exists : {A : Type 0} (xs : List A) (i : ℕ) → i < length xs
    → (x : A) × (slice_get xs i ≡ Some x)
slice_get-exists [] i h = absurd (omega arith)
slice_get-exists (x ∷ xs) zero h = (x, refl)
slice_get-exists (x ∷ xs) (suc i) h = slice_get-exists xs i (omega arith)

-- one item more from the front
pub take-one_more : {A : Type 0} (xs : List A) (i : ℕ) (x : A) → slice_get xs i ≡ Some x
    → take (i + 1) xs ≡ take i xs ++ x ∷ []
take-one_more xs i x e =
    take_more xs i x (slice_get_within xs i x e)
    ∙ ap (λ y. take i xs ++ y ∷ []) (get_or_from_slice_get xs i x x e)

-- the front of a list whose items are known by their places
take-map_below : {A : Type 0} (xs : List A) (f : ℕ → A) (d : A)
    → ((i : ℕ) → i < length xs → get_or xs i d ≡ f i)
    → (k : ℕ) → k ≤ length xs → take k xs ≡ map f (below k)
unfolding below
take-map_below xs f d each zero h = refl
take-map_below xs f d each (suc k) h =
    let more : take (suc k) xs ≡ take k xs ++ get_or xs k d ∷ [] =
    subst (λ (n : ℕ). take n xs ≡ take k xs ++ get_or xs k d ∷ []) (add-one k)
    (take_more xs k d (omega (arith, h))) in
    let next : map f (below (suc k)) ≡ map f (below k) ++ f k ∷ [] =
    subst (λ (n : ℕ). map f (below n) ≡ map f (below k) ++ f k ∷ []) (add-one k)
    (map_below-more f k) in
    more ∙ ap (λ ys. ys ++ get_or xs k d ∷ []) (take-map_below xs f d each k (omega (arith, h)))
    ∙ ap (λ y. map f (below k) ++ y ∷ []) (each k (omega (arith, h))) ∙ sym next

-- a list whose items are known by their places
pub map_below-from_items : {A : Type 0} (xs : List A) (f : ℕ → A) (n : ℕ) (d : A) → length xs ≡ n
    → ((i : ℕ) → i < n → get_or xs i d ≡ f i)
    → xs ≡ map f (below n)
map_below-from_items xs f n d size each =
    sym (take_all n xs (omega (arith, size))) ∙ take-map_below xs f d
    (λ i lt. each i (omega (arith, lt, size))) n (omega (arith, size))

-- the same of a list that grew
pub length-push : {A : Type 0} (ys now : List A) (y : A) (k : ℕ) → now ≡ ys ++ y ∷ []
    → length ys ≡ k → length now ≡ k + 1
length-push ys now y k more size = ap length more ∙ length-append ys (y ∷ [])
    ∙ (let e : length ys + 1 ≡ k + 1 = omega (arith, size) in e)

-- and so are both lists related
pub related_at_each_index-pushed_list : {A B : Type 0} (R : A → B → Type 0) (xs : List A)
    (ys now : List B) (x : A)
    (y : B) (k : ℕ) → now ≡ ys ++ y ∷ []
    → length ys ≡ k → slice_get xs k ≡ Some x → R x y → RelatedAtEachIndex R xs ys →
    RelatedAtEachIndex R xs now
related_at_each_index-pushed_list R xs ys now x y k more size at r each =
    subst (RelatedAtEachIndex R xs) (sym more) (related_at_each_index-push R xs ys x y each
    (subst (λ (n : ℕ). slice_get xs n ≡ Some x) (sym size) at) r)

-- an item that was read by its place
pub slice_get-from_read : {A : Type 0} (xs : List A) (i : ℕ) (x : A) → i < length xs → x ≡ get_or xs i x
    → slice_get xs i ≡ Some x
slice_get-from_read xs i x lt read = slice_get_read xs (length xs) i x refl lt read

-- a number below k + 1 is below k, or is k
below_or_last : (i k : ℕ) → i < k + 1 → (i < k) ⊎ (k ≡ i)
below_or_last i k h = grind arith

-- what holds of each item before the k-th, and of the k-th
pub each_before-more : {A : Type 0} (P : A → Type 0) (xs : List A) (k : ℕ) (x : A)
    → slice_get xs k ≡ Some x → P x
    → ((i : ℕ) (y : A) → i < k → slice_get xs i ≡ Some y → P y) → (i : ℕ) (y : A) → i < k + 1
    → slice_get xs i ≡ Some y → P y
each_before-more P xs k x at p before i y lt here = elim (below_or_last i k lt) [
  | inl less ↦ before i y less here
  | inr same ↦ subst P
      (item_equal-from_some (slice_get xs i) x y (subst (λ (n : ℕ). slice_get xs n ≡ Some x) same at) here) p
]
