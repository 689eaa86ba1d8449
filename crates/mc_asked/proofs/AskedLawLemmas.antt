-- The wants of all LANs, by their lists.
use Rattle.std.proofs.Common.{◌≡◌, ℕ, zero, suc, ◌+◌, Bool, true, false, not, cond, inl, inr, List, []}
use Rattle.std.proofs.Common.{◌∷◌, ◌++◌, map, filter, flat_map, length, Some, refl, sym}
use Rattle.std.proofs.Common.{ap, ap₂}
use Rattle.std.proofs.Common.{◌∙◌, arith, sum_by, length-append, append-nil, append_assoc}
use Rattle.std.specs.Prelude.{nat_eq, slice_get}
use Rattle.std.specs.List.{dedup, dedup_from}
use Rattle.std.specs.List.Sorted.{IsStrictlySortedBy}
use Rattle.std.specs.declared.cmp.Ordering.TheVariants.{Less}
use Rattle.std.proofs.lemmas.Bool.{eqb-true}
use Rattle.std.proofs.lemmas.List.{length-map}
use Rattle.std.proofs.lemmas.List.Filters.{length-filter_both}
use Rattle.std.proofs.lemmas.List.Kept.{IsStrictlySortedBy-filter}
use Rattle.std.proofs.lemmas.List.Sums.{sum_by-cons}
use Rattle.mc_igmp.specs.declared.record.Record.{Record}
use Rattle.mc_tables.specs.CacheTable.{key_cmp}
use Rattle.mc_tables.specs.ListedRows.{is_listed}
use Rattle.mc_tables.specs.Summary.{in_order, shown_pairs}
use Rattle.mc_tables.proofs.CacheLemmas.{key_cmp-total}
use Rattle.mc_theory.specs.Lists.{In, below}
use Rattle.mc_theory.proofs.ListLemmas.{in-filter, in-filter_cases, in-flat_map, in-map}
use Rattle.mc_asked.specs.Answers.{AnswersValue, class_of}
use Rattle.mc_asked.specs.AskedLines.{asked_from, asked_lines, count_others, count_shown, count_wants}
use Rattle.mc_asked.specs.AskedLines.{further_wants, lan_wants_from, wants_of_lans}
use Rattle.mc_asked.specs.LanWants.{LanWantsValue, asked_wants}
use Rattle.mc_asked.specs.ClassifiedWants.{is_asked_class, is_service_class}
use Rattle.mc_asked.specs.LanWants.{lan_wants}
use Rattle.mc_asked.specs.declared.want_class.WantClass.TheVariants.{Service}
use Rattle.mc_asked.specs.ListWants.{Want, asked_by, is_of_merged_filter, wants_in}
use Rattle.mc_asked.specs.PairParts.{parts_with, shared_pairs, shown_of_parts, with_parts}
use Rattle.mc_asked.proofs.MergeLemmas.{is_strictly_sorted_by-in_order, shown_pairs-of_parts}
use Rattle.mc_asked.proofs.PartLemmas.{in-from_in_order, in-from_is_listed, in-in_order, is_listed-from_in}
use Rattle.mc_asked.proofs.PartLemmas.{is_listed-shown_of_part, key_cmp-from_are_above}
use Rattle.mc_asked.proofs.PartLemmas.{key_cmp-not_less_itself}
use Rattle.mc_asked.proofs.SharedPairLemmas.{is_strictly_sorted_by-shown_pairs, map-equal_on_list}
use Rattle.mc_asked.proofs.SharedPairLemmas.{parts_with-push, sum_by-map_lengths}
use Rattle.mc_asked.proofs.WantLemmas.{filter-equal_tests}

-- ---- ascending lists

-- no pair is both before and behind another
not_both_less : (x y : ℕ × ℕ) → key_cmp x y ≡ Less → key_cmp y x ≡ Less → ⊥
not_both_less x y less back = key_cmp-not_less_itself x x refl (key_cmp-total.trans x y x less back)

-- a pair of a list that ascends behind another one isn't that one
in-behind : (x q : ℕ × ℕ) (xs ys : List (ℕ × ℕ)) → IsStrictlySortedBy key_cmp (x ∷ xs) → In q xs → x ≡ q → ⊥
unfolding IsStrictlySortedBy
in-behind x q xs ys up h e = key_cmp-not_less_itself x q e (key_cmp-from_are_above x q xs up.0 h)

-- the first of two ascending lists with the same pairs are equal
first_equal : (x y : ℕ × ℕ) (xs ys : List (ℕ × ℕ)) → IsStrictlySortedBy key_cmp (x ∷ xs)
    → IsStrictlySortedBy key_cmp (y ∷ ys) → In x (y ∷ ys) → In y (x ∷ xs) → x ≡ y
unfolding IsStrictlySortedBy
first_equal x y xs ys up other (inl e) there = sym e
first_equal x y xs ys up other (inr h) (inl e) = e
first_equal x y xs ys up other (inr h) (inr k) =
    absurd (not_both_less x y (key_cmp-from_are_above x y xs up.0 k) (key_cmp-from_are_above y x ys
    other.0 h))

-- a pair of the rest is one of the other's rest
in-rest : (x y q : ℕ × ℕ) (xs ys : List (ℕ × ℕ)) → IsStrictlySortedBy key_cmp (x ∷ xs) → x ≡ y → In q xs
    → In q (y ∷ ys) → In q ys
in-rest x y q xs ys up same h (inl e) = absurd (in-behind x q xs ys up h (same ∙ e))
in-rest x y q xs ys up same h (inr k) = k

-- ascending lists with the same pairs are equal
ascending_unique : (xs ys : List (ℕ × ℕ)) → IsStrictlySortedBy key_cmp xs → IsStrictlySortedBy key_cmp ys
    → ((q : ℕ × ℕ) → In q xs → In q ys) → ((q : ℕ × ℕ) → In q ys → In q xs) → xs ≡ ys
unfolding IsStrictlySortedBy
ascending_unique [] [] up other there back = refl
ascending_unique [] (y ∷ ys) up other there back = absurd (back y (inl refl))
ascending_unique (x ∷ xs) [] up other there back = absurd (there x (inl refl))
ascending_unique (x ∷ xs) (y ∷ ys) up other there back =
    let same = first_equal x y xs ys up other (there x (inl refl)) (back y (inl refl)) in
    ap₂ (λ (z : ℕ × ℕ) (zs : List (ℕ × ℕ)). z ∷ zs) same
    (ascending_unique xs ys up.1 other.1
    (λ q h. in-rest x y q xs ys up same h (there q (inr h)))
    (λ q h. in-rest y x q ys xs other (sym same) h (back q (inr h))))

-- ascending pairs are in order
in_order-ascending : (xs : List (ℕ × ℕ)) → IsStrictlySortedBy key_cmp xs → in_order xs ≡ xs
in_order-ascending xs up =
    ascending_unique (in_order xs) xs (is_strictly_sorted_by-in_order xs) up
    (λ q h. in-from_in_order q xs h) (λ q h. in-in_order q xs h)

-- ---- parts of which the lowest are kept

-- what is shown of one part alone: all of its pairs, or the 20 lowest
abbrev shown_of : Bool → List (ℕ × ℕ) → List (ℕ × ℕ)
shown_of all part = shown_pairs all (in_order part)

-- a part has a pair exactly if what is shown of it does, where that is so of each of the parts
is_listed-shown_part : (all : Bool) (p : ℕ × ℕ) (parts : List (List (ℕ × ℕ))) (n : ℕ)
    → ((part : List (ℕ × ℕ)) → In part parts
    → is_listed (Some (shown_of all part)) p ≡ is_listed (Some part) p)
    → is_listed (slice_get (map (shown_of all) parts) n) p ≡ is_listed (slice_get parts n) p
is_listed-shown_part all p [] n each = refl
is_listed-shown_part all p (part ∷ parts) zero each = each part (inl refl)
is_listed-shown_part all p (part ∷ parts) (suc n) each =
    is_listed-shown_part all p parts n (λ own h. each own (inr h))

-- a pair that is shown has the same parts
parts_with-shown : (all : Bool) (p : ℕ × ℕ) (parts : List (List (ℕ × ℕ))) → In p (shown_of_parts all parts)
    → parts_with (map (shown_of all) parts) p ≡ parts_with parts p
parts_with-shown all p parts shown =
    ap (λ (n : ℕ). filter (λ i. is_listed (slice_get (map (shown_of all) parts) i) p) (below n))
    (length-map parts (shown_of all))
    ∙ filter-equal_tests (λ i. is_listed (slice_get (map (shown_of all) parts) i) p)
    (λ i. is_listed (slice_get parts i) p) (below (length parts)) (λ i.
    is_listed-shown_part all p parts i (λ own h.
    is_listed-shown_of_part all p (flat_map (λ (part : List (ℕ × ℕ)). part) parts) own
    (λ q k. in-flat_map (λ (part : List (ℕ × ℕ)). part) own q parts h k) shown))

-- the pairs that are shown, with their parts, are the same by the whole parts
shared_pairs-shown : (all : Bool) (parts : List (List (ℕ × ℕ)))
    → shared_pairs all (map (shown_of all) parts) ≡ shared_pairs all parts
shared_pairs-shown all parts =
    ap (map (with_parts (map (shown_of all) parts)))
    (shown_pairs-of_parts all (λ (part : List (ℕ × ℕ)). part) (λ (part : List (ℕ × ℕ)). part) (shown_of all)
    (λ part. refl) parts)
    ∙ map-equal_on_list (with_parts (map (shown_of all) parts)) (with_parts parts) (shown_of_parts all parts)
    (λ p h. ap (λ (ns : List ℕ). (p, ns)) (parts_with-shown all p parts h))

-- ---- the wants of lists

-- The wants of a list are in order, and those of one class are a filter of them.
pub asked_wants-ascend : (a : AnswersValue) (lan : ℕ) (records : List Record)
    → IsStrictlySortedBy key_cmp (asked_wants a lan records)
asked_wants-ascend a lan records =
    IsStrictlySortedBy-filter key_cmp (λ want. is_asked_class (class_of a lan records want)) (wants_in
    records)
    (IsStrictlySortedBy-filter key_cmp (is_of_merged_filter records) (in_order (flat_map asked_by records))
    (is_strictly_sorted_by-in_order (flat_map asked_by records)))

-- what is kept of the LANs' lists is what is shown of each LAN's wants alone
wants_of_lans-from : (all : Bool) (a : AnswersValue) (lan : ℕ) (lists : List (List Record))
    → wants_of_lans (lan_wants_from all a lan lists) ≡ map (shown_of all) (asked_from a lan lists)
wants_of_lans-from all a lan [] = refl
wants_of_lans-from all a lan (records ∷ lists) =
    ap₂ (λ (x : List (ℕ × ℕ)) (xs : List (List (ℕ × ℕ))). x ∷ xs)
    (ap (shown_pairs all) (sym (in_order-ascending (asked_wants a lan records) (asked_wants-ascend a
    lan records))))
    (wants_of_lans-from all a (suc lan) lists)

-- So the lines are those of the whole lists: a pair among the lowest of all is among the lowest of each
-- part that has it.
pub asked_lines-from : (all : Bool) (a : AnswersValue) (lan : ℕ) (lists : List (List Record))
    → asked_lines all (lan_wants_from all a lan lists) ≡ shared_pairs all (asked_from a lan lists)
asked_lines-from all a lan lists =
    ap (shared_pairs all) (wants_of_lans-from all a lan lists) ∙ shared_pairs-shown all (asked_from a
    lan lists)

-- ---- how many

-- the wants of a LAN among those that are shown are those that are shown among its own
shown_and_own-equal : (shown own : List (ℕ × ℕ)) → IsStrictlySortedBy key_cmp shown
    → IsStrictlySortedBy key_cmp own
    → filter (λ p. is_listed (Some own) p) shown ≡ filter (λ p. is_listed (Some shown) p) own
shown_and_own-equal shown own up other =
    ascending_unique (filter (λ p. is_listed (Some own) p) shown) (filter (λ p. is_listed (Some shown) p) own)
    (IsStrictlySortedBy-filter key_cmp (λ p. is_listed (Some own) p) shown up)
    (IsStrictlySortedBy-filter key_cmp (λ p. is_listed (Some shown) p) own other)
    (λ q h. turned shown own q h) (λ q h. turned own shown q h)
  where
    turned : (xs ys : List (ℕ × ℕ)) (q : ℕ × ℕ) → In q (filter (λ p. is_listed (Some ys) p) xs)
        → In q (filter (λ p. is_listed (Some xs) p) ys)
    turned xs ys q h =
        let both = in-filter_cases (λ p. is_listed (Some ys) p) q xs h in
        in-filter (λ p. is_listed (Some xs) p) q ys (in-from_is_listed q ys both.1) (is_listed-from_in
        q xs both.0)

-- how many parts all of these pairs have, together
abbrev count_with : List (List (ℕ × ℕ)) → List (ℕ × ℕ) → ℕ
count_with parts shown = sum_by (λ (p : ℕ × ℕ). length (parts_with parts p)) shown

-- how many of the shown pairs a part has
abbrev count_own : (shown : List (ℕ × ℕ)) → List (ℕ × ℕ) → ℕ
count_own shown own = length (filter (λ p. is_listed (Some own) p) shown)

-- one part more counts the shown pairs that it has
count_with-push : (parts : List (List (ℕ × ℕ))) (own shown : List (ℕ × ℕ))
    → count_with (parts ++ own ∷ []) shown ≡ count_with parts shown + count_own shown own
count_with-push parts own [] = refl
count_with-push parts own (p ∷ shown) =
    sum_by-cons (λ (q : ℕ × ℕ). length (parts_with (parts ++ own ∷ []) q)) p shown
    ∙ ap₂ (λ (m n : ℕ). m + n) (ap length (parts_with-push parts own p)) (count_with-push parts own shown)
    ∙ one_more (is_listed (Some own) p) (parts_with parts p) (length parts) (count_with parts shown)
    (filter (λ q. is_listed (Some own) q) shown) p
    ∙ ap (λ (n : ℕ). n + count_own (p ∷ shown) own)
    (sym (sum_by-cons (λ (q : ℕ × ℕ). length (parts_with parts q)) p shown))
  where
    one_more : (b : Bool) (ns : List ℕ) (n rest : ℕ) (kept : List (ℕ × ℕ)) (p : ℕ × ℕ)
        → length (ns ++ cond b (n ∷ []) []) + (rest + length kept)
        ≡ (length ns + rest) + length (cond b (p ∷ kept) kept)
    one_more true ns n rest kept p = omega (arith, length-append ns (n ∷ []))
    one_more false ns n rest kept p = omega (arith, length-append ns [])

-- all parts, after these
count_with-append : (before parts : List (List (ℕ × ℕ))) (shown : List (ℕ × ℕ))
    → count_with (before ++ parts) shown ≡ count_with before shown + sum_by (count_own shown) parts
count_with-append before [] shown =
    omega (arith, ap (λ (ps : List (List (ℕ × ℕ))). count_with ps shown) (append-nil before))
count_with-append before (own ∷ parts) shown =
    let moved = ap (λ (ps : List (List (ℕ × ℕ))). count_with ps shown)
    (sym (append_assoc before (own ∷ []) parts)) in
    let later = count_with-append (before ++ own ∷ []) parts shown in
    let pushed = count_with-push before own shown in
    let front = sum_by-cons (count_own shown) own parts in
    omega (arith, moved, later, pushed, front)

-- no parts have no pairs
count_with-none : (shown : List (ℕ × ℕ)) → count_with [] shown ≡ 0
unfolding below
count_with-none [] = refl
count_with-none (p ∷ shown) =
    let front = sum_by-cons (λ (q : ℕ × ℕ). length (parts_with [] q)) p shown in
    let none : length (parts_with [] p) ≡ 0 = refl in
    let rest = count_with-none shown in
    omega (arith, front, none, rest)

-- the lines of parts count each part's pairs that are shown
count_shown-shared_pairs : (all : Bool) (parts : List (List (ℕ × ℕ)))
    → count_shown (shared_pairs all parts) ≡ sum_by (count_own (shown_of_parts all parts)) parts
count_shown-shared_pairs all parts =
    let shown = shown_of_parts all parts in
    let lines = sum_by-map_lengths (with_parts parts) shown in
    let whole = count_with-append [] parts shown in
    let none = count_with-none shown in
    omega (arith, lines, whole, none)

-- the count that is kept of each list is that of all its wants
count_wants-from : (all : Bool) (a : AnswersValue) (lan : ℕ) (lists : List (List Record))
    → count_wants (lan_wants_from all a lan lists)
    ≡ sum_by (λ (own : List (ℕ × ℕ)). length own) (asked_from a lan lists)
count_wants-from all a lan [] = refl
count_wants-from all a lan (records ∷ lists) =
    sum_by-cons (λ (own : LanWantsValue). own.count) (lan_wants all a lan records)
    (lan_wants_from all a (suc lan) lists)
    ∙ ap (λ (n : ℕ). length (asked_wants a lan records) + n) (count_wants-from all a (suc lan) lists)
    ∙ sym (sum_by-cons (λ (own : List (ℕ × ℕ)). length own) (asked_wants a lan records)
    (asked_from a (suc lan) lists))

-- a LAN's wants are those that are shown, and the others
count_own-others : (shown own : List (ℕ × ℕ)) → IsStrictlySortedBy key_cmp shown
    → IsStrictlySortedBy key_cmp own → count_own shown own + count_others shown own ≡ length own
count_own-others shown own up other =
    ap (λ (l : List (ℕ × ℕ)). length l + count_others shown own) (shown_and_own-equal shown own up other)
    ∙ length-filter_both (λ p. is_listed (Some shown) p) (λ p. not (is_listed (Some shown) p)) (λ p. refl) own

-- list by list, the wants are those that are shown and the others
count_all-others : (shown : List (ℕ × ℕ)) → IsStrictlySortedBy key_cmp shown → (a : AnswersValue) (lan : ℕ)
    (lists : List (List Record))
    → sum_by (λ (own : List (ℕ × ℕ)). length own) (asked_from a lan lists)
    ≡ sum_by (count_own shown) (asked_from a lan lists) + sum_by (count_others shown) (asked_from a lan lists)
count_all-others shown up a lan [] = refl
count_all-others shown up a lan (records ∷ lists) =
    let own = asked_wants a lan records in
    let rest = asked_from a (suc lan) lists in
    let lengths = sum_by-cons (λ (l : List (ℕ × ℕ)). length l) own rest in
    let owns = sum_by-cons (count_own shown) own rest in
    let others = sum_by-cons (count_others shown) own rest in
    let here = count_own-others shown own up (asked_wants-ascend a lan records) in
    let later = count_all-others shown up a (suc lan) lists in
    omega (arith, lengths, owns, others, here, later)

-- All wants less those of the lines, which are the shown ones of each list, are the others of each list.
pub further_wants-from : (all : Bool) (a : AnswersValue) (lists : List (List Record))
    → further_wants all (lan_wants_from all a 0 lists)
    ≡ sum_by (count_others (shown_of_parts all (asked_from a 0 lists))) (asked_from a 0 lists)
further_wants-from all a lists =
    let parts = asked_from a 0 lists in
    let shown = shown_of_parts all parts in
    let wants = count_wants-from all a 0 lists in
    let lines = ap count_shown (asked_lines-from all a 0 lists) ∙ count_shown-shared_pairs all parts in
    let others = count_all-others shown
    (is_strictly_sorted_by-shown_pairs all (flat_map (λ (part : List (ℕ × ℕ)). part) parts)) a 0 lists in
    omega (arith, wants, lines, others)

-- all are shown or further ones
pub count_wants-split : (all : Bool) (a : AnswersValue) (lists : List (List Record))
    → count_wants (lan_wants_from all a 0 lists)
    ≡ count_shown (asked_lines all (lan_wants_from all a 0 lists)) + further_wants all
    (lan_wants_from all a 0 lists)
count_wants-split all a lists =
    let parts = asked_from a 0 lists in
    let shown = shown_of_parts all parts in
    let wants = count_wants-from all a 0 lists in
    let lines = ap count_shown (asked_lines-from all a 0 lists) ∙ count_shown-shared_pairs all parts in
    let others = count_all-others shown
    (is_strictly_sorted_by-shown_pairs all (flat_map (λ (part : List (ℕ × ℕ)). part) parts)) a 0 lists in
    omega (arith, wants, lines, others)

-- ---- services

-- Dropping repeats behind a number drops no number: what is dropped equals the one before.
in-dedup_from : (k x : ℕ) (xs : List ℕ) → In x (k ∷ xs) → In x (dedup_from nat_eq k xs)
in-dedup_from k x [] h = h
in-dedup_from k x (y ∷ ys) h =
    elim (nat_eq y k) as (λ b. nat_eq y k ≡ b
    → In x (cond b (dedup_from nat_eq k ys) (k ∷ dedup_from nat_eq y ys))) [
      | true ↦ λ is. in-dedup_from k x ys (elim h [
        | inl e ↦ inl e
        | inr rest ↦ elim rest [
          | inl e ↦ inl (sym (eqb-true y k is) ∙ e)
          | inr later ↦ inr later
        ]
      ])
      | false ↦ λ is. elim h [
        | inl e ↦ inl e
        | inr rest ↦ inr (in-dedup_from y x ys rest)
      ]
    ] refl

-- dropping repeats drops no number
in-dedup : (x : ℕ) (xs : List ℕ) → In x xs → In x (dedup nat_eq xs)
in-dedup x [] h = absurd h
in-dedup x (y ∷ ys) h = in-dedup_from y x ys h

-- a want that is a service's has its group among those of the LAN's services
pub in-services : (all : Bool) (a : AnswersValue) (lan : ℕ) (records : List Record) (want : Want)
    → In want (wants_in records) → class_of a lan records want ≡ Service
    → In want.0 (lan_wants all a lan records).services
in-services all a lan records want h is =
    let test : Want → Bool = λ w. is_service_class (class_of a lan records w) in
    in-dedup want.0 (map (λ (w : Want). w.0) (filter test (wants_in records)))
    (in-map (λ (w : Want). w.0) want (filter test (wants_in records))
    (in-filter test want (wants_in records) h (ap is_service_class is)))

-- ---- LAN by LAN

-- what is kept of one more list
pub lan_wants_from-push : (all : Bool) (a : AnswersValue) (k : ℕ) (lists : List (List Record))
    (records : List Record)
    → lan_wants_from all a k (lists ++ records ∷ [])
    ≡ lan_wants_from all a k lists ++ lan_wants all a (k + length lists) records ∷ []
lan_wants_from-push all a k [] records =
    let same : k ≡ k + 0 = omega arith in
    ap (λ (n : ℕ). lan_wants all a n records ∷ []) same
lan_wants_from-push all a k (own ∷ lists) records =
    let same : suc k + length lists ≡ k + suc (length lists) = omega arith in
    ap (λ (l : List LanWantsValue). lan_wants all a k own ∷ l)
    (lan_wants_from-push all a (suc k) lists records
    ∙ ap (λ (n : ℕ). lan_wants_from all a (suc k) lists ++ lan_wants all a n records ∷ []) same)
