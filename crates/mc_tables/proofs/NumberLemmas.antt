-- The numbers of listed keys.
use Rattle.std.proofs.Common.{◌≡◌, ℕ, zero, suc, ◌+◌, ◌<◌, true, false, cond, List, [], ◌∷◌}
use Rattle.std.proofs.Common.{◌++◌, length, get_or, Some, None, refl, sym}
use Rattle.std.proofs.Common.{add-one, ap, subst, ◌∙◌, inl, inr, arith}
use Rattle.std.specs.Prelude.{◌≢◌, is_some, replicate, slice_set}
use Rattle.std.specs.BTreeMap.{is_at}
use Rattle.std.specs.FinSet as set
use Rattle.std.specs.List.{AllByRecursion, IsDistinct, list_any}
use Rattle.std.proofs.lemmas.Bool.{cases_Bool}
use Rattle.std.proofs.lemmas.List.{get_or-set_same}
use Rattle.std.proofs.lemmas.List.Folds.{list_any_at}
use Rattle.std.proofs.lemmas.Map.Keys.{IsDistinct-head, IsDistinct-tail}
use Rattle.mc_text.proofs.Lists.{AllByRecursion-get_or}
use Rattle.mc_tables.specs.CacheTable.{key_cmp, same_key}
use Rattle.mc_tables.specs.declared.listed.listed_entry_numbers.Inserted.TheVariants.{New, Repeated, Unlisted}
use Rattle.mc_tables.specs.declared.listed.listed_entry_numbers.Vacancy.TheVariants as vacancy
use Rattle.mc_tables.specs.CacheNumbers.{IsPlaceOf, EntryNumbersValue, AddsNumber, IsNumberInserted}
use Rattle.mc_tables.specs.CacheNumbers.{IsVacancyFor, numbers_at_places}
use Rattle.mc_tables.specs.CacheNumbers.{number_of_key, decoded_number}
use Rattle.mc_tables.specs.ListedRows.{set_has_key}
use Rattle.mc_tables.proofs.CacheLemmas.{key_cmp-total, same_key-equivalence}
use Rattle.mc_tables.proofs.UnlistedRowLemmas.{same_key-equal}

-- ---- a key that isn't among the keys has no number

pub number_of_key-missing : (key : ℕ × ℕ) (keys : List (ℕ × ℕ)) (ns : List ℕ)
    → list_any (same_key key) keys ≡ false → number_of_key (numbers_at_places keys ns) key ≡ None
number_of_key-missing key [] ns none = refl
number_of_key-missing key (k ∷ keys) [] none = refl
number_of_key-missing key (k ∷ keys) (zero ∷ ns) none =
    elim (cases_Bool (same_key key k)) [
      | inl is ↦ absurd (let wrong = rw is at none in cc)
      | inr other ↦ number_of_key-missing key keys ns (let rest = rw other at none in rest)
    ]
number_of_key-missing key (k ∷ keys) (suc n ∷ ns) none =
    elim (cases_Bool (same_key key k)) [
      | inl is ↦ absurd (let wrong = rw is at none in cc)
      | inr other ↦
          let rest = number_of_key-missing key keys ns (let rest = rw other at none in rest) in
          rw other rest
    ]

-- ---- a key at its place

-- a key at a place is equal to none of those after it
list_any-none_same : (key : ℕ × ℕ) (keys : List (ℕ × ℕ)) → AllByRecursion (λ k. same_key key k ≡ false) keys
    → list_any (same_key key) keys ≡ false
list_any-none_same key [] all = refl
list_any-none_same key (k ∷ keys) all = rw (all.0) (list_any-none_same key keys all.1)

pub same_key-refl : (key : ℕ × ℕ) → same_key key key ≡ true
same_key-refl key = same_key-equivalence.refl key

-- the number of a key is the one at its place
pub number_of_key-at_place : (key : ℕ × ℕ) (keys : List (ℕ × ℕ)) (ns : List ℕ) (i : ℕ)
    → IsDistinct same_key keys
    → i < length keys → get_or keys i key ≡ key
    → number_of_key (numbers_at_places keys ns) key ≡ decoded_number (get_or ns i 0)
number_of_key-at_place key [] ns i distinct lt is = absurd (omega (arith, lt))
number_of_key-at_place key (k ∷ keys) [] i distinct lt is = refl
number_of_key-at_place key (k ∷ keys) (zero ∷ ns) zero distinct lt is =
    number_of_key-missing key keys ns (list_any-none_same key keys
    (subst (λ x. AllByRecursion (λ y. same_key x y ≡ false) keys) is
    (IsDistinct-head same_key k keys distinct)))
number_of_key-at_place key (k ∷ keys) (suc n ∷ ns) zero distinct lt is = rw (is, same_key-refl key) refl
number_of_key-at_place key (k ∷ keys) (zero ∷ ns) (suc i) distinct lt is =
    number_of_key-at_place key keys ns i (IsDistinct-tail same_key k keys distinct) (omega (arith, lt)) is
number_of_key-at_place key (k ∷ keys) (suc n ∷ ns) (suc i) distinct lt is =
    let apart : same_key k (get_or keys i key) ≡ false =
    AllByRecursion-get_or (λ y. same_key k y ≡ false) keys i key (IsDistinct-head same_key k keys distinct)
    (omega (arith, lt)) in
    let other : same_key key k ≡ false =
    same_key-equivalence.symm key k ∙ subst (λ x. same_key k x ≡ false) is apart in
    rw (other)
    (number_of_key-at_place key keys ns i (IsDistinct-tail same_key k keys distinct) (omega (arith, lt)) is)

-- ---- one more number

-- the number of another key stays the same
number_of_key-set_other : (key q : ℕ × ℕ) (keys : List (ℕ × ℕ)) (ns : List ℕ) (i n : ℕ)
    → i < length keys → get_or keys i key ≡ key → same_key q key ≡ false
    → number_of_key (numbers_at_places keys (slice_set ns i n)) q
    ≡ number_of_key (numbers_at_places keys ns) q
number_of_key-set_other key q [] ns i n lt is other = absurd (omega (arith, lt))
number_of_key-set_other key q (k ∷ keys) [] i n lt is other = refl
number_of_key-set_other key q (k ∷ keys) (zero ∷ ns) zero zero lt is other = refl
number_of_key-set_other key q (k ∷ keys) (zero ∷ ns) zero (suc m) lt is other = rw (is, other) refl
number_of_key-set_other key q (k ∷ keys) (suc o ∷ ns) zero zero lt is other = rw (is, other) refl
number_of_key-set_other key q (k ∷ keys) (suc o ∷ ns) zero (suc m) lt is other = rw (is, other) refl
number_of_key-set_other key q (k ∷ keys) (zero ∷ ns) (suc i) n lt is other =
    number_of_key-set_other key q keys ns i n (omega (arith, lt)) is other
number_of_key-set_other key q (k ∷ keys) (suc o ∷ ns) (suc i) n lt is other =
    ap (λ r. cond (same_key q k) (Some o) r)
    (number_of_key-set_other key q keys ns i n (omega (arith, lt)) is other)

pub adds_number-set : (key : ℕ × ℕ) (keys : List (ℕ × ℕ)) (ns : List ℕ) (i n : ℕ)
    → IsDistinct same_key keys → IsPlaceOf keys key i → i < length ns
    → AddsNumber key n (numbers_at_places keys ns) (numbers_at_places keys (slice_set ns i (n + 1)))
adds_number-set key keys ns i n distinct place within = λ q.
    rw (add-one) (elim (cases_Bool (same_key key q)) [
      | inl is ↦
          let same : key ≡ q = same_key-equal key q is in
          subst (λ x. number_of_key (numbers_at_places keys (slice_set ns i (suc n))) x
          ≡ cond (same_key key x) (Some n) (number_of_key (numbers_at_places keys ns) x)) same
          (number_of_key-at_place key keys (slice_set ns i (suc n)) i distinct place.0 place.1
          ∙ ap decoded_number (get_or-set_same ns i (suc n) 0 within)
          ∙ ap (λ b. cond b (Some n) (number_of_key (numbers_at_places keys ns) key))
          (sym (same_key-refl key)))
      | inr other ↦
          number_of_key-set_other key q keys ns i (suc n) place.0 place.1
          (same_key-equivalence.symm q key ∙ other)
          ∙ ap (λ b. cond b (Some n) (number_of_key (numbers_at_places keys ns) q)) (sym other)
    ])

-- ---- more places

numbers_at_places-zeros : (keys : List (ℕ × ℕ)) (n : ℕ) → numbers_at_places keys (replicate n 0) ≡ []
numbers_at_places-zeros [] n = refl
numbers_at_places-zeros (k ∷ keys) zero = refl
numbers_at_places-zeros (k ∷ keys) (suc n) = numbers_at_places-zeros keys n

pub numbers_at_places-append_zeros : (keys : List (ℕ × ℕ)) (ns : List ℕ) (n : ℕ)
    → numbers_at_places keys (ns ++ replicate n 0) ≡ numbers_at_places keys ns
numbers_at_places-append_zeros [] ns n = refl
numbers_at_places-append_zeros (k ∷ keys) [] n = numbers_at_places-zeros (k ∷ keys) n
numbers_at_places-append_zeros (k ∷ keys) (zero ∷ ns) n = numbers_at_places-append_zeros keys ns n
numbers_at_places-append_zeros (k ∷ keys) (suc m ∷ ns) n =
    ap (λ rest. (k, m) ∷ rest) (numbers_at_places-append_zeros keys ns n)

-- ---- places of pairs

pub is_some-decoded_number : (n : ℕ) → n ≢ 0 → is_some (decoded_number n) ≡ true
is_some-decoded_number zero some = absurd (some refl)
is_some-decoded_number (suc n) some = refl

-- a pair that is found is listed
pub contains-listed_place : (keys : List (ℕ × ℕ)) (key : ℕ × ℕ) (i : ℕ) → IsPlaceOf keys key i
    → set.contains (set.from_list {R = key_cmp} keys) key ≡ true
contains-listed_place keys key i place =
    set.contains-from_list key_cmp-total keys key
    ∙ list_any_at (same_key key) keys i key place.0
    (ap (same_key key) place.1 ∙ same_key-refl key)

pub contains-unlisted : (keys : List (ℕ × ℕ)) (key : ℕ × ℕ) → list_any (same_key key) keys ≡ false
    → set.contains (set.from_list {R = key_cmp} keys) key ≡ false
contains-unlisted keys key none = set.contains-from_list key_cmp-total keys key ∙ none

pub numbers_at_places-none : (keys : List (ℕ × ℕ)) → numbers_at_places keys [] ≡ []
numbers_at_places-none [] = refl
numbers_at_places-none (k ∷ keys) = refl

-- ---- the value of listed numbers

-- the keys with the numbers at their places
abbrev pub listed_numbers_value : List (ℕ × ℕ) → List ℕ → EntryNumbersValue
listed_numbers_value keys ns =
    record { listed = Some (set.from_list keys); numbers = numbers_at_places keys ns }

pub number_of_key-here : (keys : List (ℕ × ℕ)) (ns : List ℕ) (key : ℕ × ℕ) (i : ℕ) (s : EntryNumbersValue)
    → listed_numbers_value keys ns ≡ s → IsDistinct same_key keys → IsPlaceOf keys key i
    → number_of_key s.numbers key ≡ decoded_number (get_or ns i 0)
number_of_key-here keys ns key i s is distinct place =
    ap (λ (t : EntryNumbersValue). number_of_key t.numbers key) (sym is)
    ∙ number_of_key-at_place key keys ns i distinct place.0 place.1

pub set_has_key-listed_place : (keys : List (ℕ × ℕ)) (ns : List ℕ) (key : ℕ × ℕ) (i : ℕ)
    (s : EntryNumbersValue)
    → listed_numbers_value keys ns ≡ s → IsPlaceOf keys key i → set_has_key s.listed key ≡ true
set_has_key-listed_place keys ns key i s is place =
    ap (λ (t : EntryNumbersValue). set_has_key t.listed key) (sym is) ∙ contains-listed_place keys key i place

-- more places change nothing
pub listed_numbers_value-append_zeros : (keys : List (ℕ × ℕ)) (ns more : List ℕ) (zeros : ℕ)
    (s : EntryNumbersValue)
    → more ≡ ns ++ replicate zeros 0 → listed_numbers_value keys ns ≡ s → listed_numbers_value keys more ≡ s
listed_numbers_value-append_zeros keys ns more zeros s is kept =
    ap (λ (l : List ((ℕ × ℕ) × ℕ)). let t : EntryNumbersValue = record {
      listed = Some (set.from_list keys);
      numbers = l;
    } in t) (ap (numbers_at_places keys) is ∙ numbers_at_places-append_zeros keys ns zeros)
    ∙ kept

-- ---- a key's number, by where it may be stored; places without a number may have been added before

-- stored at its vacant place, the number is the key's
pub number_inserted-new : (key : ℕ × ℕ) (number place : ℕ) (keys : List (ℕ × ℕ)) (ns more : List ℕ)
    (zeros : ℕ) (s : EntryNumbersValue)
    → more ≡ ns ++ replicate zeros 0 → listed_numbers_value keys ns ≡ s → IsDistinct same_key keys
    → IsVacancyFor keys more key (vacancy.At place)
    → IsNumberInserted key number s (listed_numbers_value keys (slice_set more place (number + 1))) New
number_inserted-new key number place keys ns more zeros s is_more is distinct (at, within, empty) =
    let kept = listed_numbers_value-append_zeros keys ns more zeros s is_more is in (
      set_has_key-listed_place keys more key place s kept at,
      number_of_key-here keys more key place s kept distinct at ∙ ap decoded_number empty,
      ap (λ (t : EntryNumbersValue). t.listed) kept,
      λ q. adds_number-set key keys more place number distinct at within q
          ∙ ap (λ (t : EntryNumbersValue). cond (is_at (key_cmp key) q) (Some number)
          (number_of_key t.numbers q)) kept,
    )

-- a key that has one keeps it
pub number_inserted-repeated : (key : ℕ × ℕ) (number : ℕ) (keys : List (ℕ × ℕ)) (ns more : List ℕ)
    (zeros : ℕ) (s : EntryNumbersValue)
    → more ≡ ns ++ replicate zeros 0 → listed_numbers_value keys ns ≡ s → IsDistinct same_key keys
    → IsVacancyFor keys more key vacancy.Repeated
    → IsNumberInserted key number s (listed_numbers_value keys more) Repeated
number_inserted-repeated key number keys ns more zeros s is_more is distinct (place, at, full) =
    let kept = listed_numbers_value-append_zeros keys ns more zeros s is_more is in (
      set_has_key-listed_place keys more key place s kept at,
      ap is_some (number_of_key-here keys more key place s kept distinct at)
          ∙ is_some-decoded_number (get_or more place 0) full,
      kept,
    )

-- a key that isn't listed gets none
pub number_inserted-unlisted : (key : ℕ × ℕ) (number : ℕ) (keys : List (ℕ × ℕ)) (ns more : List ℕ)
    (zeros : ℕ) (s : EntryNumbersValue)
    → more ≡ ns ++ replicate zeros 0 → listed_numbers_value keys ns ≡ s
    → IsVacancyFor keys more key vacancy.Unlisted
    → IsNumberInserted key number s (listed_numbers_value keys more) Unlisted
number_inserted-unlisted key number keys ns more zeros s is_more is none =
    let kept = listed_numbers_value-append_zeros keys ns more zeros s is_more is in (
      ap (λ (t : EntryNumbersValue). set_has_key t.listed key) (sym kept) ∙ contains-unlisted keys key none,
      kept,
    )
