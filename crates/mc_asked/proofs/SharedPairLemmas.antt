-- Pairs of parts with the numbers of the parts, part by part.
use Rattle.std.proofs.Common.{◌≡◌, ℕ, zero, suc, ◌+◌, ◌-◌, ◌<◌, ◌≤◌, inl, inr, Bool, true, false, cond}
use Rattle.std.proofs.Common.{List, [], ◌∷◌, ◌++◌, map, filter, length, set, get_or, take, Option, Some}
use Rattle.std.proofs.Common.{Result, Ok, Err}
use Rattle.std.proofs.Common.{refl, sym, ap, ap₂, subst, ◌∙◌, arith, append-nil, length-append, sum_by}
use Rattle.std.specs.Prelude.{◌≢◌, slice_get}
use Rattle.std.specs.List.{fold, insert}
use Rattle.std.specs.List.Sorted.{IsStrictlySortedBy, IsNonDecreasingBy, IsPartitionPoint}
use Rattle.std.specs.List.Sorted.{IsBinarySearchResult, IsSearchInRange}
use Rattle.std.specs.Result.{is_ok}
use Rattle.std.specs.Cmp.{tied_itself}
use Rattle.std.specs.Ordering.{ordering_index}
use Rattle.std.specs.declared.cmp.Ordering.TheVariants.{Less, Equal, Greater}
use Rattle.std.proofs.lemmas.Bool.{ne_eqb, eq-eqb, true≢false}
use Rattle.std.proofs.lemmas.List.Edits.{length-insert}
use Rattle.std.proofs.lemmas.List.Elements.{filter-append}
use Rattle.mc_tables.specs.CacheTable.{key_cmp}
use Rattle.mc_tables.specs.ListedRows.{is_listed}
use Rattle.mc_tables.specs.Summary.{in_order, shown_pairs}
use Rattle.mc_tables.proofs.CacheLemmas.{key_cmp-total}
use Rattle.mc_tables.proofs.CacheMapLemmas.{key_cmp-antisymmetric}
use Rattle.mc_tables.proofs.LowestLemmas.{put_pair-member, put_pair-at_search_place}
use Rattle.mc_theory.specs.Lists.{In, below}
use Rattle.mc_theory.proofs.ListLemmas.{in-append_cases, in-append_left, in-below_cases, in-filter_cases}
use Rattle.mc_theory.proofs.ListLemmas.{in-push}
use Rattle.mc_asked.specs.PairParts.{is_last, push_unless_last, parts_with, with_parts}
use Rattle.mc_asked.proofs.MergeLemmas.{AreAbove, is_strictly_sorted_by-in_order}
use Rattle.mc_asked.proofs.PartLemmas.{key_cmp-from_are_above, is_listed-from_in, in-from_is_listed}
use Rattle.mc_asked.proofs.PartLemmas.{key_cmp-not_less_itself, equal_bools-from_both}

-- the first of ascending pairs ascend
is_strictly_sorted_by-take : (n : ℕ) (ps : List (ℕ × ℕ)) → IsStrictlySortedBy key_cmp ps
    → IsStrictlySortedBy key_cmp (take n ps)
unfolding IsStrictlySortedBy
is_strictly_sorted_by-take zero ps up = tt
is_strictly_sorted_by-take (suc n) [] up = tt
is_strictly_sorted_by-take (suc n) (p ∷ ps) up =
    (are_above-take n ps up.0, is_strictly_sorted_by-take n ps up.1)
  where
    are_above-take : (n : ℕ) (qs : List (ℕ × ℕ)) → AreAbove p qs → AreAbove p (take n qs)
    are_above-take zero qs all = tt
    are_above-take (suc n) [] all = tt
    are_above-take (suc n) (q ∷ qs) all = (all.0, are_above-take n qs all.1)

-- the shown ones of ascending pairs ascend
pub is_strictly_sorted_by-shown : (all : Bool) (ps : List (ℕ × ℕ)) → IsStrictlySortedBy key_cmp ps
    → IsStrictlySortedBy key_cmp (shown_pairs all ps)
is_strictly_sorted_by-shown true ps up = up
is_strictly_sorted_by-shown false ps up = is_strictly_sorted_by-take 20 ps up

-- what is shown ascends, as pairs in order or the first of them
pub is_strictly_sorted_by-shown_pairs : (all : Bool) (ps : List (ℕ × ℕ))
    → IsStrictlySortedBy key_cmp (shown_pairs all (in_order ps))
is_strictly_sorted_by-shown_pairs all ps =
    is_strictly_sorted_by-shown all (in_order ps) (is_strictly_sorted_by-in_order ps)

-- ---- a part after others

-- what is pushed is at the end
slice_get-push : (xs : List ℕ) (x : ℕ) → slice_get (xs ++ x ∷ []) (length xs) ≡ Some x
slice_get-push [] x = refl
slice_get-push (y ∷ xs) x = slice_get-push xs x

-- the last number isn't added again
push_unless_last-same : (xs : List ℕ) (r : ℕ) → push_unless_last r (xs ++ r ∷ []) ≡ xs ++ r ∷ []
push_unless_last-same xs r =
    let place : length (xs ++ r ∷ []) - 1 ≡ length xs = omega (arith, length-append xs (r ∷ [])) in
    let last : slice_get (xs ++ r ∷ []) (length (xs ++ r ∷ []) - 1) ≡ Some r =
    ap (slice_get (xs ++ r ∷ [])) place ∙ slice_get-push xs r in
    ap (λ (o : Option ℕ). cond (is_last r o) (xs ++ r ∷ []) ((xs ++ r ∷ []) ++ r ∷ [])) last
    ∙ ap (λ (b : Bool). cond b (xs ++ r ∷ []) ((xs ++ r ∷ []) ++ r ∷ [])) (eq-eqb r r refl)

-- a number above all others isn't the last one yet
is_last-above : (xs : List ℕ) (r k : ℕ) → ((x : ℕ) → In x xs → x < r) → is_last r (slice_get xs k) ≡ false
is_last-above [] r k less = refl
is_last-above (x ∷ xs) r zero less = ne_eqb x r (λ e. absurd (omega (arith, less x (inl refl), e)))
is_last-above (x ∷ xs) r (suc k) less = is_last-above xs r k (λ y h. less y (inr h))

-- a number above all others isn't yet their last
push_unless_last-above : (xs : List ℕ) (r : ℕ) → ((x : ℕ) → In x xs → x < r) → push_unless_last r xs ≡ xs
    ++ r ∷ []
push_unless_last-above xs r less =
    ap (λ (b : Bool). cond b xs (xs ++ r ∷ [])) (is_last-above xs r (length xs - 1) less)

-- whether it was pushed before or not, it is there once
pub push_unless_last-cond : (b : Bool) (xs : List ℕ) (r : ℕ) → ((x : ℕ) → In x xs → x < r)
    → push_unless_last r (xs ++ cond b (r ∷ []) []) ≡ xs ++ r ∷ []
push_unless_last-cond true xs r less = push_unless_last-same xs r
push_unless_last-cond false xs r less = ap (push_unless_last r) (append-nil xs) ∙ push_unless_last-above xs
    r less

-- an early element is that of the front
slice_get-front : {A : Type 0} (xs ys : List A) (i : ℕ) → i < length xs → slice_get (xs ++ ys) i ≡
    slice_get xs i
slice_get-front [] ys i lt = absurd (omega (arith, lt))
slice_get-front (x ∷ xs) ys zero lt = refl
slice_get-front (x ∷ xs) ys (suc i) lt = slice_get-front xs ys i (omega (arith, lt))

-- what is pushed is at the end
slice_get-back : {A : Type 0} (xs : List A) (x : A) → slice_get (xs ++ x ∷ []) (length xs) ≡ Some x
slice_get-back [] x = refl
slice_get-back (y ∷ xs) x = slice_get-back xs x

-- tests that agree on the list filter it alike
filter-equal_on_list : (p q : ℕ → Bool) (xs : List ℕ) → ((x : ℕ) → In x xs → p x ≡ q x) → filter p xs ≡
    filter q xs
filter-equal_on_list p q [] same = refl
filter-equal_on_list p q (x ∷ xs) same =
    ap₂ (λ (b : Bool) (ys : List ℕ). cond b (x ∷ ys) ys) (same x (inl refl))
    (filter-equal_on_list p q xs (λ y h. same y (inr h)))

-- the numbers below n + 1 are those below n, and n
below-suc : (n : ℕ) → below (suc n) ≡ below n ++ n ∷ []
unfolding below
below-suc n = refl

-- the parts with one more
pub parts_with-push : (parts : List (List (ℕ × ℕ))) (own : List (ℕ × ℕ)) (pair : ℕ × ℕ)
    → parts_with (parts ++ own ∷ []) pair
    ≡ parts_with parts pair ++ cond (is_listed (Some own) pair) (length parts ∷ []) []
parts_with-push parts own pair =
    let n = length parts in
    let test : ℕ → Bool = λ i. is_listed (slice_get (parts ++ own ∷ []) i) pair in
    let size : length (parts ++ own ∷ []) ≡ suc n = omega (arith, length-append parts (own ∷ [])) in
    ap (λ (m : ℕ). filter test (below m)) size
    ∙ ap (filter test) (below-suc n)
    ∙ filter-append test (below n) (n ∷ [])
    ∙ ap₂ (λ (xs : List ℕ) (b : Bool). xs ++ cond b (n ∷ []) [])
    (filter-equal_on_list test (λ i. is_listed (slice_get parts i) pair) (below n) (λ i h.
    ap (λ (o : Option (List (ℕ × ℕ))). is_listed o pair)
    (slice_get-front parts (own ∷ []) i (in-below_cases i n h))))
    (ap (λ (o : Option (List (ℕ × ℕ))). is_listed o pair) (slice_get-back parts own))

-- the parts that have a pair are below the count of parts
parts_with-less : (parts : List (List (ℕ × ℕ))) (pair : ℕ × ℕ) (x : ℕ) → In x (parts_with parts pair)
    → x < length parts
parts_with-less parts pair x h =
    in-below_cases x (length parts)
    (in-filter_cases (λ n. is_listed (slice_get parts n) pair) x (below (length parts)) h).0

-- the pairs themselves
pub map-with_parts : (parts : List (List (ℕ × ℕ))) (ps : List (ℕ × ℕ))
    → map (λ (line : (ℕ × ℕ) × List ℕ). line.0) (map (with_parts parts) ps) ≡ ps
map-with_parts parts [] = refl
map-with_parts parts (p ∷ ps) = ap (λ l. p ∷ l) (map-with_parts parts ps)

-- ---- a part's pairs, one by one

-- a pair with the parts before, and with this one if the pair is among its first ones
abbrev pub with_part_so_far : List (List (ℕ × ℕ)) → List (ℕ × ℕ) → ℕ × ℕ → (ℕ × ℕ) × List ℕ
with_part_so_far parts own pair =
    (pair, parts_with parts pair ++ cond (is_listed (Some own) pair) (length parts ∷ []) [])

-- changes that agree on the list change it alike
pub map-equal_on_list : {A : Type 0} (f g : ℕ × ℕ → A) (ps : List (ℕ × ℕ)) → ((p : ℕ × ℕ) → In p ps → f
    p ≡ g p)
    → map f ps ≡ map g ps
map-equal_on_list f g [] same = refl
map-equal_on_list {A} f g (p ∷ ps) same =
    ap₂ (λ (x : A) (xs : List A). x ∷ xs) (same p (inl refl)) (map-equal_on_list f g ps
    (λ q h. same q (inr h)))

-- with none of the part's pairs
pub with_part_so_far-none : (parts : List (List (ℕ × ℕ))) (ps : List (ℕ × ℕ))
    → map (with_parts parts) ps ≡ map (with_part_so_far parts []) ps
with_part_so_far-none parts ps =
    map-equal_on_list (with_parts parts) (with_part_so_far parts []) ps (λ p h.
    ap (λ (rs : List ℕ). (p, rs)) (sym (append-nil (parts_with parts p))))

-- with all of the part's pairs
pub with_part_so_far-all : (parts : List (List (ℕ × ℕ))) (own ps : List (ℕ × ℕ))
    → map (with_part_so_far parts own) ps ≡ map (with_parts (parts ++ own ∷ [])) ps
with_part_so_far-all parts own ps =
    map-equal_on_list (with_part_so_far parts own) (with_parts (parts ++ own ∷ [])) ps
    (λ p h. ap (λ (rs : List ℕ). (p, rs)) (sym (parts_with-push parts own p)))

-- ---- one pair more

-- pushing another pair changes nothing for this one
pub is_listed-push_other : (own : List (ℕ × ℕ)) (q p : ℕ × ℕ) → p ≢ q
    → is_listed (Some own) p ≡ is_listed (Some (own ++ q ∷ [])) p
is_listed-push_other own q p other =
    equal_bools-from_both (is_listed (Some own) p) (is_listed (Some (own ++ q ∷ [])) p)
    (λ e. is_listed-from_in p (own ++ q ∷ []) (in-append_left p own (q ∷ []) (in-from_is_listed p own e)))
    (λ e. is_listed-from_in p own (elim (in-append_cases p own (q ∷ []) (in-from_is_listed p (own ++ q ∷ [])
    e)) [
      | inl h ↦ h
      | inr h ↦ elim h [
        | inl e ↦ absurd (other (sym e))
        | inr none ↦ absurd none
      ]
    ]))

-- another pair has the same parts
with_part_so_far-other_pair : (parts : List (List (ℕ × ℕ))) (own : List (ℕ × ℕ)) (q p : ℕ × ℕ) → p ≢ q
    → with_part_so_far parts own p ≡ with_part_so_far parts (own ++ q ∷ []) p
with_part_so_far-other_pair parts own q p other =
    ap (λ (b : Bool). (p, parts_with parts p ++ cond b (length parts ∷ []) []))
    (is_listed-push_other own q p other)

-- the element at a place is in the list
pub in-get_or : (xs : List (ℕ × ℕ)) (k : ℕ) (d : ℕ × ℕ) → k < length xs → In (get_or xs k d) xs
in-get_or [] k d lt = absurd (omega (arith, lt))
in-get_or (x ∷ xs) zero d lt = inl refl
in-get_or (x ∷ xs) (suc k) d lt = inr (in-get_or xs k d (omega (arith, lt)))

-- one element is changed, at the place of one of ascending pairs
pub set-map_sorted : {A : Type 0} (f g : ℕ × ℕ → A) (ps : List (ℕ × ℕ)) (i : ℕ) (q : ℕ × ℕ)
    → IsStrictlySortedBy key_cmp ps → i < length ps → get_or ps i q ≡ q
    → ((p : ℕ × ℕ) → p ≢ q → f p ≡ g p) → set (map f ps) i (g q) ≡ map g ps
unfolding IsStrictlySortedBy
set-map_sorted f g [] i q up lt at other = absurd (omega (arith, lt))
set-map_sorted {A} f g (p ∷ ps) zero q up lt at other =
    ap₂ (λ (x : A) (xs : List A). x ∷ xs) (ap g (sym at))
    (map-equal_on_list f g ps (λ x h. other x (λ e. key_cmp-not_less_itself p x (at ∙ sym e)
    (key_cmp-from_are_above p x ps up.0 h))))
set-map_sorted {A} f g (p ∷ ps) (suc i) q up lt at other =
    let lower : i < length ps = omega (arith, lt) in
    let behind : In q ps = subst (λ (x : ℕ × ℕ). In x ps) at (in-get_or ps i q lower) in
    ap₂ (λ (x : A) (xs : List A). x ∷ xs)
    (other p (λ e. key_cmp-not_less_itself p q e (key_cmp-from_are_above p q ps up.0 behind)))
    (set-map_sorted f g ps i q up.1 lower at other)

-- the element at the pair's place
pub get_or-map : {A : Type 0} (f : ℕ × ℕ → A) (ps : List (ℕ × ℕ)) (i : ℕ) (q : ℕ × ℕ) (old : A)
    → i < length ps → get_or ps i q ≡ q → old ≡ get_or (map f ps) i old → old ≡ f q
get_or-map f [] i q old lt at read = absurd (omega (arith, lt))
get_or-map f (p ∷ ps) zero q old lt at read = read ∙ ap f at
get_or-map f (p ∷ ps) (suc i) q old lt at read = get_or-map f ps i q old (omega (arith, lt)) at read

-- a pair of the part that is shown
pub with_part_so_far-more : (parts : List (List (ℕ × ℕ))) (own ps : List (ℕ × ℕ)) (i : ℕ) (q : ℕ × ℕ)
    (old new : (ℕ × ℕ) × List ℕ) → IsStrictlySortedBy key_cmp ps → i < length ps → get_or ps i q ≡ q
    → old ≡ with_part_so_far parts own q → new ≡ (old.0, push_unless_last (length parts) old.1)
    → set (map (with_part_so_far parts own) ps) i new
    ≡ map (with_part_so_far parts (own ++ q ∷ [])) ps
with_part_so_far-more parts own ps i q old new up lt at was is =
    let before = parts_with parts q in
    let number = length parts in
    let put : new ≡ (q, before ++ number ∷ []) =
    is ∙ ap (λ (x : (ℕ × ℕ) × List ℕ). (x.0, push_unless_last number x.1)) was
    ∙ ap (λ (rs : List ℕ). (q, rs)) (push_unless_last-cond (is_listed (Some own) q) before number
    (parts_with-less parts q)) in
    let now : new ≡ with_part_so_far parts (own ++ q ∷ []) q =
    put ∙ ap (λ (b : Bool). (q, before ++ cond b (number ∷ []) []))
    (sym (is_listed-from_in q (own ++ q ∷ []) (in-push own q))) in
    ap (set (map (with_part_so_far parts own) ps) i) now
    ∙ set-map_sorted (with_part_so_far parts own) (with_part_so_far parts (own ++ q ∷ [])) ps i q up lt at
    (with_part_so_far-other_pair parts own q)

-- ---- a pair that isn't shown

-- and an element of the list is at some place
pub index-from_in : (q : ℕ × ℕ) (ps : List (ℕ × ℕ)) → In q ps → (k : ℕ) × ((k < length ps) × (get_or ps
    k q ≡ q))
index-from_in q [] h = absurd h
index-from_in q (p ∷ ps) (inl e) = (0, (omega arith, e))
index-from_in q (p ∷ ps) (inr h) =
    let later = index-from_in q ps h in
    (suc later.0, (omega (arith, later.1.0), later.1.1))

-- a pair for which the binary search finds only a place between others isn't among them
pub not_in-from_search : (ps seen : List (ℕ × ℕ)) (i : ℕ) (q : ℕ × ℕ) → seen ≡ ps
    → IsStrictlySortedBy key_cmp ps → i ≤ length seen
    → (IsNonDecreasingBy (λ p. ordering_index (key_cmp p q)) seen
    → IsPartitionPoint (λ p. key_cmp p q ≡ Less) (λ p. key_cmp p q ≡ Greater) seen i)
    → In q ps → ⊥
not_in-from_search ps seen i q same up le found there =
    let at = index-from_in q ps there in
    let equal : key_cmp (get_or ps at.0 q) q ≡ Equal =
    ap (λ (x : ℕ × ℕ). key_cmp x q) at.1.1 ∙ tied_itself key_cmp-total q in
    let whole : insert ps i q ≡ ps =
    sym (put_pair-at_search_place q ps seen i same up le found) ∙ put_pair-member q q ps at.0 up at.1.0
    equal in
    let size = ap length whole in
    let grown = length-insert ps i q (subst (λ (l : List (ℕ × ℕ)). i ≤ length l) same le) in
    absurd (omega (arith, size, grown))

-- a binary search finds the pairs that are listed
pub is_ok-search : (ps : List (ℕ × ℕ)) (q : ℕ × ℕ) (r : Result ℕ ℕ) → IsStrictlySortedBy key_cmp ps
    → IsSearchInRange r (length ps) → IsBinarySearchResult (λ p. key_cmp p q) ps r
    → is_ok r ≡ is_listed (Some ps) q
is_ok-search ps q (Ok i) up within found =
    let same : get_or ps i q ≡ q = key_cmp-antisymmetric (get_or ps i q) q (found q) in
    sym (is_listed-from_in q ps (subst (λ (p : ℕ × ℕ). In p ps) same (in-get_or ps i q within)))
is_ok-search ps q (Err i) up within found =
    equal_bools-from_both false (is_listed (Some ps) q) (λ e. absurd (true≢false (sym e)))
    (λ e. absurd (not_in-from_search ps ps i q refl up within found (in-from_is_listed q ps e)))

-- so it changes nothing
pub with_part_so_far-absent : (parts : List (List (ℕ × ℕ))) (own ps seen : List (ℕ × ℕ)) (i : ℕ) (q : ℕ × ℕ)
    → seen ≡ ps → IsStrictlySortedBy key_cmp ps → i ≤ length seen
    → (IsNonDecreasingBy (λ p. ordering_index (key_cmp p q)) seen
    → IsPartitionPoint (λ p. key_cmp p q ≡ Less) (λ p. key_cmp p q ≡ Greater) seen i)
    → map (with_part_so_far parts own) ps ≡ map (with_part_so_far parts (own ++ q ∷ [])) ps
with_part_so_far-absent parts own ps seen i q same up le found =
    map-equal_on_list (with_part_so_far parts own) (with_part_so_far parts (own ++ q ∷ [])) ps (λ p h.
    with_part_so_far-other_pair parts own q p (λ e.
    not_in-from_search ps seen i q same up le found (subst (λ (x : ℕ × ℕ). In x ps) e h)))

-- ---- how many

-- the sum of lengths is that of the changed elements, from any start
fold-map_lengths : (f : ℕ × ℕ → (ℕ × ℕ) × List ℕ) (n : ℕ) (ps : List (ℕ × ℕ))
    → fold (λ a (s : (ℕ × ℕ) × List ℕ). a + length s.1) n (map f ps)
    ≡ fold (λ a p. a + length (f p).1) n ps
fold-map_lengths f n [] = refl
fold-map_lengths f n (p ∷ ps) = fold-map_lengths f (n + length (f p).1) ps

-- and from 0
pub sum_by-map_lengths : (f : ℕ × ℕ → (ℕ × ℕ) × List ℕ) (ps : List (ℕ × ℕ))
    → sum_by (λ (s : (ℕ × ℕ) × List ℕ). length s.1) (map f ps)
    ≡ sum_by (λ (p : ℕ × ℕ). length (f p).1) ps
sum_by-map_lengths f ps = fold-map_lengths f 0 ps
