-- Rows of which only the key and the line are kept: the first one that repeats another.
use Rattle.std.proofs.Common.{◌≡◌, ℕ, ◌+◌, ◌<◌, ◌≤◌, Bool, true, false, cond, List}
use Rattle.std.proofs.Common.{[], ◌∷◌, ◌++◌, length, get_or, Option, Some, None, refl, sym, ap}
use Rattle.std.proofs.Common.{◌∙◌, arith, inl, inr}
use Rattle.std.specs.Prelude.{nat_lt, nat_le, ◌&&◌, ◌||◌, map, filter}
use Rattle.std.specs.Cmp.{Equal-is, IsEquivalence}
use Rattle.std.specs.List.{list_any, AllByRecursion, IsDistinct}
use Rattle.std.specs.List.Sorted.{IsPermutation}
use Rattle.std.specs.Ordering.{nat_cmp, eq_by_cmp}
use Rattle.std.proofs.lemmas.Bool.{cases_Bool, cases_lt, le-ltb, lt-ltb, and_right}
use Rattle.std.proofs.lemmas.Bool.{true≢false, leb-true, le-leb}
use Rattle.std.proofs.lemmas.Bool.Decides.{nat_tests}
use Rattle.std.proofs.lemmas.List.{append-nil, get_or-map, get_or_default, length-map, map-append}
use Rattle.std.proofs.lemmas.List.Elements.{filter-append}
use Rattle.std.proofs.lemmas.List.Folds.{list_any-append, list_any_none}
use Rattle.std.proofs.lemmas.List.Sorted.{list_any-IsPermutation}
use Rattle.std.proofs.lemmas.Cmp.{nat_cmp_total, eq_by_cmp_equiv}
use Rattle.std.proofs.lemmas.Map.Keys.{apart_from_distinct}
use Rattle.mc_text.specs.Pair.{pair_number}
use Rattle.std.proofs.Math.Bool.{or-false, and-true}
use Rattle.mc_tables.specs.Distinct.{AreDistinct}
use Rattle.mc_tables.specs.CacheTable.{key_cmp, same_key}
use Rattle.mc_tables.specs.UnlistedRows.{UnlistedRow, repeats, is_repeat, lesser_or, least, first_repeat}
use Rattle.mc_tables.specs.UnlistedRows.{key_number}
use Rattle.mc_tables.proofs.CacheLemmas.{same_key-equivalence}
use Rattle.mc_tables.proofs.CacheMapLemmas.{key_cmp-antisymmetric}

-- ---- tests

-- either of two equal values gives the same
cond-same : {X : Type 0} (b : Bool) (x y : X) → x ≡ y → cond b x y ≡ y
cond-same true x y is = is
cond-same false x y is = refl

-- rows that their order doesn't distinguish are equal
pub same_key-equal : (x y : ℕ × ℕ) → same_key x y ≡ true → x ≡ y
same_key-equal x y e = key_cmp-antisymmetric x y ((Equal-is (key_cmp x y)).0 e)

-- ---- the least of some numbers

-- the lesser of three doesn't depend on which two are compared first
lesser_or-swap : (m n : ℕ) (o : Option ℕ)
    → lesser_or m (Some (lesser_or n o)) ≡ lesser_or n (Some (lesser_or m o))
lesser_or-swap m n None = grind (arith, nat_tests)
lesser_or-swap m n (Some k) = grind (arith, nat_tests)

-- the least of some numbers and one more
least-push : (ns : List ℕ) (n : ℕ) → least (ns ++ n ∷ []) ≡ Some (lesser_or n (least ns))
least-push [] n = refl
least-push (m ∷ ns) n =
    ap (λ o. Some (lesser_or m o)) (least-push ns n) ∙ ap Some (lesser_or-swap m n (least ns))

-- the number, if there is one, is at most this one
abbrev pub is_at_most : ℕ → Option ℕ → Bool
is_at_most most None = false
is_at_most most (Some n) = nat_le n most

is_at_most-lesser_or : (most n : ℕ) (o : Option ℕ)
    → is_at_most most (Some (lesser_or n o)) ≡ (nat_le n most || is_at_most most o)
is_at_most-lesser_or most n None = grind (arith, nat_tests)
is_at_most-lesser_or most n (Some m) = grind (arith, nat_tests)

-- two that are at most the same numbers are equal
least-unique : (a b : Option ℕ) → ((most : ℕ) → is_at_most most a ≡ is_at_most most b) → a ≡ b
least-unique None None same = refl
least-unique None (Some n) same =
    absurd (true≢false (sym (le-leb n n (omega arith)) ∙ sym (same n)))
least-unique (Some n) None same =
    absurd (true≢false (sym (le-leb n n (omega arith)) ∙ same n))
least-unique (Some n) (Some m) same =
    let up : m ≤ n = leb-true m n (sym (same n) ∙ le-leb n n (omega arith)) in
    let down : n ≤ m = leb-true n m (same m ∙ le-leb m m (omega arith)) in
    let is : n ≡ m = omega arith in
    ap Some is

-- a number that isn't less than the least one doesn't change it
pub lesser_or-same : (n : ℕ) (o : Option ℕ) → is_at_most n o ≡ true → Some (lesser_or n o) ≡ o
lesser_or-same n None e = absurd cc
lesser_or-same n (Some m) e = grind (arith, nat_tests)

-- the least line of the rows that pass a test
is_at_most-least_line : (p : UnlistedRow → Bool) (rows : List UnlistedRow) (most : ℕ)
    → is_at_most most (least (map (λ (r : UnlistedRow). r.1) (filter p rows)))
    ≡ list_any (λ r. p r && nat_le r.1 most) rows
is_at_most-least_line p [] most = refl
is_at_most-least_line p (row ∷ rows) most =
    elim (cases_Bool (p row)) [
      | inr none ↦ rw none (is_at_most-least_line p rows most)
      | inl passes ↦ rw passes (
          is_at_most-lesser_or most row.1 (least (map (λ (r : UnlistedRow). r.1) (filter p rows)))
          ∙ ap (λ b. nat_le row.1 most || b) (is_at_most-least_line p rows most)
          )
    ]

-- ---- the first repeat

-- the first repeat is at most a line if a row up to that line is a repeat
pub is_at_most-first_repeat : (rows : List UnlistedRow) (most : ℕ)
    → is_at_most most (first_repeat rows) ≡ list_any (λ r. is_repeat rows r && nat_le r.1 most) rows
unfolding first_repeat
is_at_most-first_repeat rows most = is_at_most-least_line (is_repeat rows) rows most

-- what passes one of two equal tests passes the other
pub list_any-same_tests : {X : Type 0} (p q : X → Bool) (xs : List X) → ((x : X) → p x ≡ q x)
    → list_any p xs ≡ list_any q xs
list_any-same_tests p q [] same = refl
list_any-same_tests p q (x ∷ xs) same =
    ap (λ b. b || list_any p xs) (same x) ∙ ap (λ b. q x || b) (list_any-same_tests p q xs same)

-- the first repeat doesn't depend on the order of the rows
pub first_repeat-permuted : (rows sorted : List UnlistedRow) → IsPermutation rows sorted
    → first_repeat sorted ≡ first_repeat rows
first_repeat-permuted rows sorted moved =
    least-unique (first_repeat sorted) (first_repeat rows) (λ most.
    is_at_most-first_repeat sorted most
    ∙ list_any-same_tests (λ r. is_repeat sorted r && nat_le r.1 most)
    (λ r. is_repeat rows r && nat_le r.1 most)
    sorted (λ r. ap (λ b. b && nat_le r.1 most)
    (sym (list_any-IsPermutation (repeats r) rows sorted moved)))
    ∙ sym (list_any-IsPermutation (λ r. is_repeat rows r && nat_le r.1 most) rows sorted moved)
    ∙ sym (is_at_most-first_repeat rows most))

-- ---- one row more

-- a row repeats none of these
abbrev pub IsRepeatedByNone : List UnlistedRow → UnlistedRow → Type 0
IsRepeatedByNone rows row =
    AllByRecursion (λ r. repeats r row ≡ false) rows

-- so it makes none of them a repeat
filter-is_repeat_push : (rows front : List UnlistedRow) (row : UnlistedRow) → IsRepeatedByNone front row
    → filter (is_repeat (rows ++ row ∷ [])) front ≡ filter (is_repeat rows) front
filter-is_repeat_push rows [] row later = refl
filter-is_repeat_push rows (r ∷ front) row later =
    let same : is_repeat (rows ++ row ∷ []) r ≡ is_repeat rows r =
    list_any-append (repeats r) rows (row ∷ [])
    ∙ ap (λ b. is_repeat rows r || (b || false)) later.0
    ∙ or-false (is_repeat rows r) in
    ap (λ b. cond b (r ∷ filter (is_repeat (rows ++ row ∷ [])) front)
    (filter (is_repeat (rows ++ row ∷ [])) front)) same
    ∙ ap (λ f. cond (is_repeat rows r) (r ∷ f) f) (filter-is_repeat_push rows front row later.1)

-- a row repeats none whose line isn't earlier
is_repeat-itself : (rows : List UnlistedRow) (row : UnlistedRow)
    → is_repeat (rows ++ row ∷ []) row ≡ is_repeat rows row
is_repeat-itself rows row =
    list_any-append (repeats row) rows (row ∷ [])
    ∙ ap (λ b. is_repeat rows row || (b || false))
    (and_right (same_key row.0 row.0) (nat_lt row.1 row.1) (le-ltb row.1 row.1 (omega arith)))
    ∙ or-false (is_repeat rows row)

-- the lines of the rows that pass, and of one more if it passes
least-push_if : (lines : List UnlistedRow) (row : UnlistedRow) (b : Bool)
    → least (map (λ (r : UnlistedRow). r.1) (lines ++ cond b (row ∷ []) []))
    ≡ cond b (Some (lesser_or row.1 (least (map (λ (r : UnlistedRow). r.1) lines))))
    (least (map (λ (r : UnlistedRow). r.1) lines))
least-push_if lines row true =
    ap least (map-append (λ (r : UnlistedRow). r.1) lines (row ∷ []))
    ∙ least-push (map (λ (r : UnlistedRow). r.1) lines) row.1
least-push_if lines row false = ap (λ l. least (map (λ (r : UnlistedRow). r.1) l)) (append-nil lines)

-- the first repeat after one more row, which none of the others repeats
pub first_repeat-push : (rows : List UnlistedRow) (row : UnlistedRow) → IsRepeatedByNone rows row
    → first_repeat (rows ++ row ∷ [])
    ≡ cond (is_repeat rows row) (Some (lesser_or row.1 (first_repeat rows))) (first_repeat rows)
unfolding first_repeat
first_repeat-push rows row later =
    let all = rows ++ row ∷ [] in
    let passed : filter (is_repeat all) all
    ≡ filter (is_repeat rows) rows ++ cond (is_repeat rows row) (row ∷ []) [] =
    filter-append (is_repeat all) rows (row ∷ [])
    ∙ ap (λ f. f ++ cond (is_repeat all row) (row ∷ []) []) (filter-is_repeat_push rows rows row later)
    ∙ ap (λ b. filter (is_repeat rows) rows ++ cond b (row ∷ []) []) (is_repeat-itself rows row) in
    ap (λ f. least (map (λ (r : UnlistedRow). r.1) f)) passed
    ∙ least-push_if (filter (is_repeat rows) rows) row (is_repeat rows row)

-- among no rows there is no repeat
pub first_repeat-none : first_repeat [] ≡ None
unfolding first_repeat
first_repeat-none = refl

-- ---- rows in the order of their lines

-- all rows are of lines before this one
abbrev pub AreBefore : List UnlistedRow → ℕ → Type 0
AreBefore rows line = AllByRecursion (λ r. r.1 < line) rows

-- so they are before the next one
pub are_before-next : (rows : List UnlistedRow) (line : ℕ) → AreBefore rows line → AreBefore rows (line + 1)
are_before-next [] line before = tt
are_before-next (r ∷ rows) line before = (omega (arith, before.0), are_before-next rows line before.1)

-- and so they are with that of the line itself
pub are_before-push : (rows : List UnlistedRow) (key : ℕ × ℕ) (line : ℕ) → AreBefore rows line
    → AreBefore (rows ++ (key, line) ∷ []) (line + 1)
are_before-push [] key line before = (omega arith, tt)
are_before-push (r ∷ rows) key line before =
    (omega (arith, before.0), are_before-push rows key line before.1)

-- none of them repeats the row of the line
repeated_by_none-later : (rows : List UnlistedRow) (key : ℕ × ℕ) (line : ℕ) → AreBefore rows line
    → IsRepeatedByNone rows (key, line)
repeated_by_none-later [] key line before = tt
repeated_by_none-later (r ∷ rows) key line before = (
  and_right (same_key key r.0) (nat_lt line r.1) (le-ltb line r.1 (omega (arith, before.0))),
  repeated_by_none-later rows key line before.1,
)

-- a row after others is a repeat if its key is among theirs
is_repeat-later : (rows : List UnlistedRow) (key : ℕ × ℕ) (line : ℕ) → AreBefore rows line
    → is_repeat rows (key, line) ≡ list_any (same_key key) (map (λ (r : UnlistedRow). r.0) rows)
is_repeat-later [] key line before = refl
is_repeat-later (r ∷ rows) key line before =
    let same : repeats (key, line) r ≡ same_key key r.0 =
    ap (λ b. same_key r.0 key && b) (lt-ltb r.1 line before.0)
    ∙ and-true (same_key r.0 key) ∙ same_key-equivalence.symm r.0 key in
    ap (λ b. b || is_repeat rows (key, line)) same
    ∙ ap (λ b. same_key key r.0 || b) (is_repeat-later rows key line before.1)

-- a row up to a line, where all rows are before it
list_any-before_line : (p : UnlistedRow → Bool) (rows : List UnlistedRow) (line most : ℕ)
    → AreBefore rows line
    → list_any (λ r. p r && nat_le r.1 most) rows ≡ true
    → list_any (λ r. p r && nat_le r.1 line) rows ≡ true
list_any-before_line p [] line most before some = absurd cc
list_any-before_line p (r ∷ rows) line most before some =
    elim (cases_Bool (p r)) [
      | inl passes ↦
          let here : nat_le r.1 line ≡ true = le-leb r.1 line (omega (arith, before.0)) in
          rw (passes, here) refl
      | inr none ↦ rw none (list_any-before_line p rows line most before.1 (rw none at some))
    ]

-- a first repeat stays the first when a row is added
pub first_repeat-stays : (rows : List UnlistedRow) (key : ℕ × ℕ) (line first : ℕ) → AreBefore rows line
    → first_repeat rows ≡ Some first → first_repeat (rows ++ (key, line) ∷ []) ≡ Some first
first_repeat-stays rows key line first before is =
    let reached : list_any (λ r. is_repeat rows r && nat_le r.1 first) rows ≡ true =
    sym (is_at_most-first_repeat rows first) ∙ ap (is_at_most first) is ∙ le-leb first first (omega arith) in
    let within_line : is_at_most line (Some first) ≡ true =
    sym (ap (is_at_most line) is) ∙ is_at_most-first_repeat rows line
    ∙ list_any-before_line (is_repeat rows) rows line first before reached in
    first_repeat-push rows (key, line) (repeated_by_none-later rows key line before)
    ∙ ap (λ o. cond (is_repeat rows (key, line)) (Some (lesser_or line o)) o) is
    ∙ cond-same (is_repeat rows (key, line)) (Some (lesser_or line (Some first))) (Some first)
    (lesser_or-same line (Some first) within_line)

-- where there was none, the added row is one if an earlier one has its key
pub first_repeat-begins : (rows : List UnlistedRow) (key : ℕ × ℕ) (line : ℕ) → AreBefore rows line
    → first_repeat rows ≡ None → first_repeat (rows ++ (key, line) ∷ [])
    ≡ cond (list_any (same_key key) (map (λ (r : UnlistedRow). r.0) rows)) (Some line) None
first_repeat-begins rows key line before none =
    first_repeat-push rows (key, line) (repeated_by_none-later rows key line before)
    ∙ ap (λ o. cond (is_repeat rows (key, line)) (Some (lesser_or line o)) o) none
    ∙ ap (λ b. cond b (Some line) None) (is_repeat-later rows key line before)

-- ---- rows as numbers

-- two of some numbers are equal
abbrev same_number : ℕ → ℕ → Bool
same_number = eq_by_cmp nat_cmp

same_number-equivalence : IsEquivalence same_number
same_number-equivalence = eq_by_cmp_equiv nat_cmp_total

-- rows whose numbers differ have no repeat
repeats-different_number : (x y : UnlistedRow) → same_number (key_number y) (key_number x) ≡ false
    → repeats x y ≡ false
repeats-different_number x y apart =
    elim (cases_Bool (same_key y.0 x.0)) [
      | inr other ↦ ap (λ b. b && nat_lt y.1 x.1) other
      | inl same ↦
          let one : key_number y ≡ key_number x = ap pair_number (same_key-equal y.0 x.0 same) in
          absurd (true≢false (sym (same_number-equivalence.refl (key_number x))
          ∙ ap (λ n. same_number n (key_number x)) (sym one) ∙ apart))
    ]

module _ (rows : List UnlistedRow) (apart : IsDistinct same_number (map key_number rows)) where
  -- no two of the rows have the same number
  key_numbers-differ : (i j : ℕ) (d : UnlistedRow) → i < j → j < length rows
      → same_number (key_number (get_or rows i d)) (key_number (get_or rows j d)) ≡ false
  key_numbers-differ i j d before fits =
      ap (λ n. same_number n (key_number (get_or rows j d)))
      (sym (get_or-map key_number rows i d 0 (omega (arith, before, fits))))
      ∙ ap (same_number (get_or (map key_number rows) i 0))
      (sym (get_or-map key_number rows j d 0 fits))
      ∙ apart_from_distinct same_number (map key_number rows) i j 0 apart before
      (omega (arith, fits, length-map rows key_number))

  -- so none repeats another, nor itself
  repeats-none : (i j : ℕ) (d : UnlistedRow) → i < length rows → j < length rows
      → repeats (get_or rows i d) (get_or rows j d) ≡ false
  repeats-none i j d fits_i fits_j =
      let x = get_or rows i d in
      elim (cases_lt i j) [
        | inl before ↦
            repeats-different_number x (get_or rows j d)
            (same_number-equivalence.symm (key_number (get_or rows j d)) (key_number x)
            ∙ key_numbers-differ i j d before fits_j)
        | inr other ↦ elim (cases_lt j i) [
          | inl after ↦ repeats-different_number x (get_or rows j d) (key_numbers-differ j i d after fits_i)
          | inr one ↦
              let same : j ≡ i = omega (arith, other, one) in
              ap (λ k. repeats x (get_or rows k d)) same
              ∙ and_right (same_key x.0 x.0) (nat_lt x.1 x.1) (le-ltb x.1 x.1 (omega arith))
        ]
      ]

  is_repeat-none : (i : ℕ) (d : UnlistedRow) → i < length rows → is_repeat rows (get_or rows i d) ≡ false
  is_repeat-none i d fits =
      list_any_none (repeats (get_or rows i d)) rows (λ j e lt.
      ap (repeats (get_or rows i d)) (get_or_default rows j e d lt) ∙ repeats-none i j d fits lt)

-- rows whose numbers differ have no repeat
pub first_repeat-distinct : (rows : List UnlistedRow) → AreDistinct (map key_number rows)
    → first_repeat rows ≡ None
first_repeat-distinct rows apart =
    least-unique (first_repeat rows) None (λ most.
    is_at_most-first_repeat rows most
    ∙ list_any_none (λ r. is_repeat rows r && nat_le r.1 most) rows (λ k d lt.
    ap (λ b. b && nat_le (get_or rows k d).1 most) (is_repeat-none rows apart k d lt)))
