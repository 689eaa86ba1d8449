-- Membership in lists, and lists without repetition.
use Rattle.std.proofs.Common.{◌≡◌, ℕ, zero, suc, ◌<◌, ◌⊎◌, inl, inr, Bool, true, false, cond, List}
use Rattle.std.proofs.Common.{[], ◌∷◌, ◌++◌, map, filter, flat_map, remove, slice_get, Some, refl}
use Rattle.std.proofs.Common.{ap, sym, ◌∙◌, subst, arith}
use Rattle.mc_theory.specs.Lists.{In, Distinct, below}

-- a member of the first of two lists
pub in-append_left : {A : Type 0} (x : A) (xs ys : List A) → In x xs → In x (xs ++ ys)
in-append_left x [] ys h = absurd h
in-append_left x (y ∷ xs) ys (inl e) = inl e
in-append_left x (y ∷ xs) ys (inr h) = inr (in-append_left x xs ys h)

-- a member of the second
pub in-append_right : {A : Type 0} (x : A) (xs ys : List A) → In x ys → In x (xs ++ ys)
in-append_right x [] ys h = h
in-append_right x (y ∷ xs) ys h = inr (in-append_right x xs ys h)

-- a member of two lists is in one of them
pub in-append_cases : {A : Type 0} (x : A) (xs ys : List A) → In x (xs ++ ys) → In x xs ⊎ In x ys
in-append_cases x [] ys h = inr h
in-append_cases x (y ∷ xs) ys (inl e) = inl (inl e)
in-append_cases x (y ∷ xs) ys (inr h) = elim (in-append_cases x xs ys h)
    [ inl k ↦ inl (inr k) | inr k ↦ inr k ]

-- a member of a list with one more: of the list, or the new one
pub in-push_cases : {A : Type 0} (x : A) (xs : List A) (y : A) → In x (xs ++ y ∷ []) →
    In x xs ⊎ (y ≡ x)
in-push_cases x xs y h = elim (in-append_cases x xs (y ∷ []) h)
    [ inl k ↦ inl k | inr (inl e) ↦ inr e | inr (inr k) ↦ absurd k ]

-- the new one is a member
pub in-push : {A : Type 0} (xs : List A) (y : A) → In y (xs ++ y ∷ [])
in-push xs y = in-append_right y xs (y ∷ []) (inl refl)

-- the image of a member
pub in-map : {A B : Type 0} (f : A → B) (x : A) (xs : List A) → In x xs → In (f x) (map f xs)
in-map f x [] h = absurd h
in-map f x (y ∷ xs) (inl e) = inl (ap f e)
in-map f x (y ∷ xs) (inr h) = inr (in-map f x xs h)

-- a member of the images is the image of a member
pub in-map_cases : {A B : Type 0} (f : A → B) (y : B) (xs : List A) → In y (map f xs) →
    (x : A) × In x xs × (f x ≡ y)
in-map_cases f y [] h = absurd h
in-map_cases f y (x ∷ xs) (inl e) = (x, inl refl, e)
in-map_cases f y (x ∷ xs) (inr h) = let r = in-map_cases f y xs h in (r.0, inr r.1, r.2)

-- a member that passes is picked
pub in-filter : {A : Type 0} (p : A → Bool) (x : A) (xs : List A) → In x xs → p x ≡ true →
    In x (filter p xs)
in-filter p x [] h e = absurd h
in-filter p x (y ∷ xs) (inl q) e = subst (λ (b : Bool). In x
    (cond b (y ∷ filter p xs) (filter p xs))) (sym (ap p q ∙ e)) (inl q)
in-filter p x (y ∷ xs) (inr h) e = in-filter_more p x y xs (p y) (in-filter p x xs h e)
  where
    in-filter_more : {A : Type 0} (p : A → Bool) (x y : A) (xs : List A) (b : Bool) →
        In x (filter p xs) → In x (cond b (y ∷ filter p xs) (filter p xs))
    in-filter_more p x y xs true h = inr h
    in-filter_more p x y xs false h = h

-- by whether the first one passes
in-filter_step : {A : Type 0} (p : A → Bool) (x y : A) (xs : List A) (b : Bool) → p y ≡ b →
    (In x (filter p xs) → In x xs × (p x ≡ true)) → In x (cond b (y ∷ filter p xs) (filter p xs)) →
    In x (y ∷ xs) × (p x ≡ true)
in-filter_step p x y xs true e ih (inl q) = (inl q, sym (ap p q) ∙ e)
in-filter_step p x y xs true e ih (inr h) = (inr (ih h).0, (ih h).1)
in-filter_step p x y xs false e ih h = (inr (ih h).0, (ih h).1)

-- one that is picked is a member, and passes
pub in-filter_cases : {A : Type 0} (p : A → Bool) (x : A) (xs : List A) → In x (filter p xs) →
    In x xs × (p x ≡ true)
in-filter_cases p x [] h = absurd h
in-filter_cases p x (y ∷ xs) h = in-filter_step p x y xs (p y) refl (in-filter_cases p x xs) h

-- a member of what a member gives
pub in-flat_map : {A B : Type 0} (f : A → List B) (x : A) (y : B) (xs : List A) → In x xs →
    In y (f x) → In y (flat_map f xs)
in-flat_map f x y [] h k = absurd h
in-flat_map f x y (z ∷ xs) (inl e) k = in-append_left y (f z) (flat_map f xs)
    (subst (λ a. In y (f a)) (sym e) k)
in-flat_map f x y (z ∷ xs) (inr h) k = in-append_right y (f z) (flat_map f xs)
    (in-flat_map f x y xs h k)

-- what is given is given by a member
pub in-flat_map_cases : {A B : Type 0} (f : A → List B) (y : B) (xs : List A) →
    In y (flat_map f xs) → (x : A) × In x xs × In y (f x)
in-flat_map_cases f y [] h = absurd h
in-flat_map_cases f y (x ∷ xs) h = elim (in-append_cases y (f x) (flat_map f xs) h) [
  | inl k ↦ (x, inl refl, k)
  | inr k ↦ (let r = in-flat_map_cases f y xs k in (r.0, inr r.1, r.2))
]

-- a number below n
pub in-below : (i n : ℕ) → i < n → In i (below n)
unfolding below
in-below i zero h = absurd (omega arith)
in-below i (suc n) h = elim (split i n h) [
  | inl k ↦ in-append_left i (below n) (n ∷ [])
      (in-below i n k)
  | inr e ↦ in-append_right i (below n) (n ∷ []) (inl (sym e))
]
  where
    split : (i n : ℕ) → i < suc n → (i < n) ⊎ (i ≡ n)
    split i n h = grind arith

-- a member of the numbers below n
pub in-below_cases : (i n : ℕ) → In i (below n) → i < n
unfolding below
in-below_cases i zero h = absurd h
in-below_cases i (suc n) h = elim (in-push_cases i (below n) n h)
    [ inl k ↦ omega (arith, in-below_cases i n k) | inr e ↦ omega arith ]

-- distinct lists without a common member
pub distinct-append : {A : Type 0} (xs ys : List A) → Distinct xs → Distinct ys →
    ((x : A) → In x xs → In x ys → ⊥) → Distinct (xs ++ ys)
distinct-append [] ys d e apart = e
distinct-append (x ∷ xs) ys d e apart = (
  (λ h. elim (in-append_cases x xs ys h) [ inl k ↦ d.0 k | inr k ↦ apart x (inl refl) k ]),
  distinct-append xs ys d.1 e (λ z h k. apart z (inr h) k),
)

-- the first of two lists
pub distinct-append_left : {A : Type 0} (xs ys : List A) → Distinct (xs ++ ys) → Distinct xs
distinct-append_left [] ys d = tt
distinct-append_left (x ∷ xs) ys d = ((λ h. d.0 (in-append_left x xs ys h)), distinct-append_left xs ys d.1)

-- two lists that are distinct together have no common member
pub distinct_append-disjoint : {A : Type 0} (xs ys : List A) → Distinct (xs ++ ys) → (x : A) → In x xs →
    In x ys → ⊥
distinct_append-disjoint [] ys d x h k = h
distinct_append-disjoint (z ∷ xs) ys d x (inl e) k = d.0 (subst (λ a. In a (xs ++ ys)) (sym e)
    (in-append_right x xs ys k))
distinct_append-disjoint (z ∷ xs) ys d x (inr h) k = distinct_append-disjoint xs ys d.1 x h k

-- by whether the first one passes
distinct-filter_step : {A : Type 0} (p : A → Bool) (y : A) (xs : List A) (b : Bool) →
    (In y xs → ⊥) → Distinct (filter p xs) → Distinct (cond b (y ∷ filter p xs) (filter p xs))
distinct-filter_step p y xs true apart d = ((λ h. apart (in-filter_cases p y xs h).0), d)
distinct-filter_step p y xs false apart d = d

-- those that are picked
pub distinct-filter : {A : Type 0} (p : A → Bool) (xs : List A) → Distinct xs →
    Distinct (filter p xs)
distinct-filter p [] d = tt
distinct-filter p (x ∷ xs) d = distinct-filter_step p x xs (p x) d.0 (distinct-filter p xs d.1)

-- the numbers below n
pub distinct-below : (n : ℕ) → Distinct (below n)
unfolding below
distinct-below zero = tt
distinct-below (suc n) = distinct-append (below n) (n ∷ []) (distinct-below n) ((λ h. h), tt)
    (λ x h k. elim k [ inl e ↦ omega (arith, in-below_cases x n h) | inr z ↦ z ])

-- the images, if no two members have the same one
pub distinct-map : {A B : Type 0} (f : A → B) → ((x y : A) → f x ≡ f y → x ≡ y) → (xs : List A) →
    Distinct xs → Distinct (map f xs)
distinct-map f same [] d = tt
distinct-map f same (x ∷ xs) d = (
  (λ h. let r = in-map_cases f (f x) xs h in d.0 (subst (λ a. In a xs) (same r.0 x r.2) r.1)),
  distinct-map f same xs d.1,
)

-- two elements with one image are equal
pub equal-from_same_image : {A B : Type 0} (f : A → B) (x y : A) (xs : List A) → Distinct (map f xs) →
    In x xs → In y xs → f x ≡ f y → x ≡ y
equal-from_same_image f x y [] d h k e = absurd h
equal-from_same_image f x y (z ∷ xs) d (inl p) (inl q) e = sym p ∙ q
equal-from_same_image f x y (z ∷ xs) d (inl p) (inr k) e = absurd
    (d.0 (subst (λ b. In b (map f xs)) (sym e ∙ sym (ap f p)) (in-map f y xs k)))
equal-from_same_image f x y (z ∷ xs) d (inr h) (inl q) e = absurd
    (d.0 (subst (λ b. In b (map f xs)) (e ∙ sym (ap f q)) (in-map f x xs h)))
equal-from_same_image f x y (z ∷ xs) d (inr h) (inr k) e = equal-from_same_image f x y xs d.1 h k e

-- what is given, if nothing is given twice
pub distinct-flat_map : {A B : Type 0} (f : A → List B) (xs : List A) → Distinct xs →
    ((x : A) → Distinct (f x)) → ((x y : A) (b : B) → In b (f x) → In b (f y) → x ≡ y) →
    Distinct (flat_map f xs)
distinct-flat_map f [] d each apart = tt
distinct-flat_map f (x ∷ xs) d each apart = distinct-append (f x) (flat_map f xs) (each x)
    (distinct-flat_map f xs d.1 each apart) (λ b h k.
    let r = in-flat_map_cases f b xs k in d.0 (subst (λ a. In a xs) (apart r.0 x b r.2 h) r.1))

-- an item at a place is a member
pub slice_get-in : {A : Type 0} (xs : List A) (i : ℕ) (x : A) → slice_get xs i ≡ Some x → In x xs
slice_get-in [] i x e = absurd cc
slice_get-in (y ∷ xs) zero x e = inl cc
slice_get-in (y ∷ xs) (suc i) x e = inr (slice_get-in xs i x e)

-- one that is left is a member
pub in-remove : {A : Type 0} (x : A) (xs : List A) (i : ℕ) → In x (remove xs i) → In x xs
in-remove x [] zero h = h
in-remove x [] (suc i) h = h
in-remove x (y ∷ xs) zero h = inr h
in-remove x (y ∷ xs) (suc i) (inl e) = inl e
in-remove x (y ∷ xs) (suc i) (inr h) = inr (in-remove x xs i h)

-- an element is the one that was taken away, or one that is left
pub in-remove_cases : {A : Type 0} (x : A) (xs : List A) (i : ℕ) (w : A) → slice_get xs i ≡ Some w →
    In x xs → In x (remove xs i) ⊎ (w ≡ x)
in-remove_cases x [] i w e h = absurd h
in-remove_cases x (y ∷ xs) zero w e (inl p) = inr (let q : y ≡ w = cc in sym q ∙ p)
in-remove_cases x (y ∷ xs) zero w e (inr h) = inl h
in-remove_cases x (y ∷ xs) (suc i) w e (inl p) = inl (inl p)
in-remove_cases x (y ∷ xs) (suc i) w e (inr h) = elim (in-remove_cases x xs i w e h)
    [ inl k ↦ inl (inr k) | inr q ↦ inr q ]

-- the images, without one
pub map-remove : {A B : Type 0} (f : A → B) (xs : List A) (i : ℕ) →
    map f (remove xs i) ≡ remove (map f xs) i
map-remove f [] zero = refl
map-remove f [] (suc i) = refl
map-remove f (x ∷ xs) zero = refl
map-remove f (x ∷ xs) (suc i) = ap (λ ys. f x ∷ ys) (map-remove f xs i)

-- the image at a place
pub slice_get-map_some : {A B : Type 0} (f : A → B) (xs : List A) (i : ℕ) (x : A) →
    slice_get xs i ≡ Some x → slice_get (map f xs) i ≡ Some (f x)
slice_get-map_some f [] i x e = absurd cc
slice_get-map_some f (y ∷ xs) zero x e = let q : y ≡ x = cc in ap (λ a. Some (f a)) q
slice_get-map_some f (y ∷ xs) (suc i) x e = slice_get-map_some f xs i x e

-- those that are left
pub distinct-remove : {A : Type 0} (xs : List A) (i : ℕ) → Distinct xs → Distinct (remove xs i)
distinct-remove [] zero d = tt
distinct-remove [] (suc i) d = tt
distinct-remove (x ∷ xs) zero d = d.1
distinct-remove (x ∷ xs) (suc i) d = ((λ h. d.0 (in-remove x xs i h)), distinct-remove xs i d.1)

-- the one that was taken away isn't left
pub distinct-not_in_remove : {A : Type 0} (xs : List A) (i : ℕ) (x : A) → Distinct xs →
    slice_get xs i ≡ Some x → In x (remove xs i) → ⊥
distinct-not_in_remove [] i x d e h = absurd cc
distinct-not_in_remove (y ∷ xs) zero x d e h = let q : y ≡ x = cc in d.0 (subst (λ a. In a xs) (sym q) h)
distinct-not_in_remove (y ∷ xs) (suc i) x d e (inl q) = d.0 (subst (λ a. In a xs) (sym q)
    (slice_get-in xs i x e))
distinct-not_in_remove (y ∷ xs) (suc i) x d e (inr h) = distinct-not_in_remove xs i x d.1 e h
