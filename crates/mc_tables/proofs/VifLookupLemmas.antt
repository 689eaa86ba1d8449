-- The look-ups of a vif table find what its map has.
use Rattle.std.proofs.Common.{◌≡◌, ℕ, ◌≤◌, arith, Bool, true, false, cond, List, [], ◌∷◌, Option}
use Rattle.std.proofs.Common.{Some, None, refl, sym, ap, subst, ◌∙◌, inl, inr, ◌≢◌, Ordering, Less, Equal}
use Rattle.std.proofs.Common.{Greater}
use Rattle.std.specs.Option.{option_map}
use Rattle.std.specs.List as lists
use Rattle.std.specs.Prelude.{nat_eq, map, IsSome, IsSomeAnd, IfSome, ◌||◌, ◌↔◌, T}
use Rattle.std.specs.List.{IsDistinct, AllByRecursion, filter_map, cons_option, list_any}
use Rattle.std.specs.Ordering.{nat_cmp, eq_by_cmp, is_lt, is_eq}
use Rattle.std.specs.Cmp.{unsigned_tied}
use Rattle.std.specs.Str.{bytes_eq}
use Rattle.std.specs.FinMap.{FinMap, find, get, from_entries, get-from_entries, entries, get-entries}
use Rattle.std.specs.FinMap.{entries_sorted}
use Rattle.std.specs.FinMap.Entries.{below_all, is_sorted}
use Rattle.std.proofs.lemmas.Bool.{cases_eq, eq-eqb, ne_eqb, true≢false, or_left, or_right, or_from}
use Rattle.std.proofs.lemmas.Bool.{false_from_ne_true}
use Rattle.std.proofs.lemmas.Cmp.{nat_cmp_total, nat_eq_equiv, nat_list_eq_equiv}
use Rattle.std.proofs.lemmas.Map.Keys.{IsDistinct-head, IsDistinct-tail}
use Rattle.std.proofs.lemmas.Slice.Eq.{bytes_eq-Decides}
use Rattle.mc_tables.proofs.EntryLemmas.{and-parts}
use Rattle.mc_tables.specs.TableLines.{is_among}
use Rattle.mc_tables.specs.VifTable.{VifValue, no_device, device_of}
use Rattle.mc_tables.specs.VifReading.{device_repeats}
use Rattle.mc_tables.specs.VifLookups.{HasDevice, IsValidVifTable, first_index_with, index_of}

-- no test is both false and true
pub absurd-both_values : (b : Bool) → b ≡ false → b ≡ true → ⊥
absurd-both_values b is_false is_true = true≢false (sym is_true ∙ is_false)

-- ---- the tests of a row against the earlier ones

-- comparing each row's index is comparing the list of indexes
pub list_any-index : (index : ℕ) (rows : List (ℕ × VifValue))
    → list_any (λ row. nat_eq index row.0) rows ≡ list_any (nat_eq index) (map (λ row. row.0) rows)
list_any-index index [] = refl
list_any-index index (row ∷ rows) = rw (list_any-index index rows) refl

-- a device that equals `none` is `none`
bytes_eq-no_device : (device : List ℕ) → bytes_eq device no_device ≡ true → device ≡ no_device
bytes_eq-no_device device e = (bytes_eq-Decides device no_device).0 e

-- comparing a row's device, where the other one isn't `none`
list_any-device_cons : (other : ℕ × VifValue) (device : List ℕ) (b : Bool) (rest : Bool)
    (keys : List (List ℕ)) → bytes_eq other.1.device no_device ≡ b
    → bytes_eq device no_device ≡ false → rest ≡ list_any (bytes_eq device) keys
    → (bytes_eq other.1.device device || rest)
    ≡ list_any (bytes_eq device) (cons_option (cond b None (Some other.1.device)) keys)
list_any-device_cons other device true rest keys none some same =
    let apart : bytes_eq other.1.device device ≡ false =
    ap (λ d. bytes_eq d device) (bytes_eq-no_device other.1.device none)
    ∙ nat_list_eq_equiv.symm no_device device ∙ some in
    rw apart same
list_any-device_cons other device false rest keys none some same =
    rw (nat_list_eq_equiv.symm other.1.device device, same) refl

-- comparing each row's device is comparing the list of devices
pub list_any-device : (device : List ℕ) (rows : List (ℕ × VifValue)) → bytes_eq device no_device ≡ false
    → list_any (λ row. bytes_eq row.1.device device) rows
    ≡ list_any (bytes_eq device) (filter_map device_of rows)
list_any-device device [] some = refl
list_any-device device (row ∷ rows) some =
    list_any-device_cons row device (bytes_eq row.1.device no_device) _
    (filter_map device_of rows) refl some (list_any-device device rows some)

-- a repeated device is found by comparing each row's device
pub device_repeats-by_rows : (earlier : List (ℕ × VifValue)) (row : ℕ × VifValue)
    → bytes_eq row.1.device no_device ≡ false
    → list_any (λ other. bytes_eq other.1.device row.1.device) earlier ≡ device_repeats earlier row
device_repeats-by_rows earlier row some =
    list_any-device row.1.device earlier some
    ∙ ap (λ b. is_among bytes_eq (cond b None (Some row.1.device)) (filter_map device_of earlier))
    (sym some)

-- ---- the map

-- a key that differs from all is none of them
list_any-all_differ : {K : Type 0} (same : K → K → Bool) (key : K) (keys : List K)
    → AllByRecursion (λ other. same key other ≡ false) keys → list_any (same key) keys ≡ false
list_any-all_differ same key [] all = refl
list_any-all_differ same key (other ∷ keys) all =
    or_from (same key other) _ all.0 (list_any-all_differ same key keys all.1)

-- the index of the first row finds its vif
find-first_index : (index : ℕ) (row : ℕ × VifValue) (rows : List (ℕ × VifValue)) → index ≡ row.0
    → find nat_cmp index (row ∷ rows) ≡ Some row.1
find-first_index index row rows e =
    let t : eq_by_cmp nat_cmp index row.0 ≡ true =
    unsigned_tied index row.0 ∙ eq-eqb index row.0 e in
    ap (λ b. cond b (Some row.1) (find nat_cmp index rows)) t

-- the vif of the row that passes first, or of a later one
option_map_cond-vif : (row : ℕ × VifValue) (b : Bool) (later : Option (ℕ × VifValue))
    → option_map (λ r. r.1) (cond b (Some row) later)
    ≡ cond b (Some row.1) (option_map (λ r. r.1) later)
option_map_cond-vif row true later = refl
option_map_cond-vif row false later = refl

-- the first row with an index has what the map has there
pub find-index : (index : ℕ) (rows : List (ℕ × VifValue))
    → option_map (λ row. row.1) (lists.find (λ row. nat_eq row.0 index) rows)
    ≡ find nat_cmp index rows
find-index index [] = refl
find-index index (row ∷ rows) =
    let tied : nat_eq row.0 index ≡ eq_by_cmp nat_cmp index row.0 =
    nat_eq_equiv.symm row.0 index ∙ sym (unsigned_tied index row.0) in
    option_map_cond-vif row (nat_eq row.0 index) (lists.find (λ r. nat_eq r.0 index) rows)
    ∙ rw (tied, find-index index rows) refl

-- another index is found among the rows after it
find-other_index : (index : ℕ) (row : ℕ × VifValue) (rows : List (ℕ × VifValue)) → (index ≡ row.0 → ⊥)
    → find nat_cmp index (row ∷ rows) ≡ find nat_cmp index rows
find-other_index index row rows ne =
    let t : eq_by_cmp nat_cmp index row.0 ≡ false =
    unsigned_tied index row.0 ∙ ne_eqb index row.0 ne in
    ap (λ b. cond b (Some row.1) (find nat_cmp index rows)) t

-- what was found has this device
abbrev HasThisDevice : List ℕ → Option VifValue → Type 0
HasThisDevice device found = IsSomeAnd found (λ vif. vif.device ≡ device)

-- the index of the row that passes first, or of a later one
option_map_cond-index : (row : ℕ × VifValue) (b : Bool) (later : Option (ℕ × VifValue))
    → option_map (λ r. r.0) (cond b (Some row) later)
    ≡ cond b (Some row.0) (option_map (λ r. r.0) later)
option_map_cond-index row true later = refl
option_map_cond-index row false later = refl

-- the first index of a device is that of the first row, or a later one
first_index_with-cons : (device : List ℕ) (row : ℕ × VifValue) (rows : List (ℕ × VifValue))
    → first_index_with device (row ∷ rows)
    ≡ cond (bytes_eq row.1.device device) (Some row.0) (first_index_with device rows)
first_index_with-cons device row rows =
    option_map_cond-index row (bytes_eq row.1.device device)
    (lists.find (λ r. bytes_eq r.1.device device) rows)

-- an index that is found is one of the table
first_index_with-is_listed : (device : List ℕ) (rows : List (ℕ × VifValue)) (index : ℕ)
    → first_index_with device rows ≡ Some index
    → list_any (nat_eq index) (map (λ row. row.0) rows) ≡ true
first_index_with-is_listed device [] index e = absurd cc
first_index_with-is_listed device (row ∷ rows) index e =
    elim (bytes_eq row.1.device device) as
    (λ b. cond b (Some row.0) (first_index_with device rows) ≡ Some index
    → list_any (nat_eq index) (map (λ r. r.0) (row ∷ rows)) ≡ true) [
      | true ↦ λ h. let same : row.0 ≡ index = cc in
          or_left (nat_eq index row.0) _ (eq-eqb index row.0 (sym same))
      | false ↦ λ h. or_right (nat_eq index row.0) _ (first_index_with-is_listed device rows index h)
    ] (sym (first_index_with-cons device row rows) ∙ e)

-- the index that is found has the device
pub find-first_index_with : (device : List ℕ) (rows : List (ℕ × VifValue)) (index : ℕ)
    → IsDistinct nat_eq (map (λ row. row.0) rows) → first_index_with device rows ≡ Some index
    → HasThisDevice device (find nat_cmp index rows)
find-first_index_with device [] index distinct e = absurd cc
find-first_index_with device (row ∷ rows) index distinct e =
    elim (bytes_eq row.1.device device) as
    (λ b. bytes_eq row.1.device device ≡ b
    → cond b (Some row.0) (first_index_with device rows) ≡ Some index
    → HasThisDevice device (find nat_cmp index (row ∷ rows))) [
      | true ↦ λ is h. let same : row.0 ≡ index = cc in
          subst (HasThisDevice device) (sym (find-first_index index row rows (sym same)))
          ((bytes_eq-Decides row.1.device device).0 is)
      | false ↦ λ is h.
          let among = first_index_with-is_listed device rows index h in
          let none = list_any-all_differ nat_eq row.0 (map (λ r. r.0) rows)
          (IsDistinct-head nat_eq row.0 _ distinct) in
          let apart : index ≡ row.0 → ⊥ =
          λ same. absurd-both_values (list_any (nat_eq index) (map (λ r. r.0) rows)) (rw same none) among in
          subst (HasThisDevice device) (sym (find-other_index index row rows apart))
          (find-first_index_with device rows index (IsDistinct-tail nat_eq row.0 _ distinct) h)
    ] refl (sym (first_index_with-cons device row rows) ∙ e)

-- the keys after the first differ too
is_distinct-cons_option_tail : (key : Option (List ℕ)) (keys : List (List ℕ))
    → IsDistinct bytes_eq (cons_option key keys) → IsDistinct bytes_eq keys
is_distinct-cons_option_tail None keys distinct = distinct
is_distinct-cons_option_tail (Some key) keys distinct = IsDistinct-tail bytes_eq key keys distinct

-- a device that an index has is one of the table
list_any-found_device : (device : List ℕ) (rows : List (ℕ × VifValue)) (index : ℕ)
    → HasThisDevice device (find nat_cmp index rows)
    → list_any (λ row. bytes_eq row.1.device device) rows ≡ true
list_any-found_device device [] index h = absurd h
list_any-found_device device (row ∷ rows) index h =
    elim (cases_eq index row.0) [
      | inl same ↦ or_left (bytes_eq row.1.device device) _
          ((bytes_eq-Decides row.1.device device).1
          (subst (HasThisDevice device) (find-first_index index row rows same) h))
      | inr apart ↦ or_right (bytes_eq row.1.device device) _
          (list_any-found_device device rows index
          (subst (HasThisDevice device) (find-other_index index row rows apart) h))
    ]

-- the index that has the device is found
pub first_index_with-unique : (device : List ℕ) (rows : List (ℕ × VifValue)) (index : ℕ)
    → bytes_eq device no_device ≡ false → IsDistinct bytes_eq (filter_map device_of rows)
    → HasThisDevice device (find nat_cmp index rows) → first_index_with device rows ≡ Some index
first_index_with-unique device [] index some distinct h = absurd h
first_index_with-unique device (row ∷ rows) index some distinct h =
    elim (cases_eq index row.0) [
      | inl same ↦ let has : bytes_eq row.1.device device ≡ true =
          (bytes_eq-Decides row.1.device device).1
          (subst (HasThisDevice device) (find-first_index index row rows same) h) in
          rw has (ap Some (sym same))
      | inr apart ↦ let later = subst (HasThisDevice device) (find-other_index index row rows apart) h in
          let among = list_any-found_device device rows index later in
          first_index_with-cons device row rows
          ∙ elim (bytes_eq row.1.device device) as
          (λ b. bytes_eq row.1.device device ≡ b
          → cond b (Some row.0) (first_index_with device rows) ≡ Some index) [
            | true ↦ λ is.
                let same : row.1.device ≡ device = (bytes_eq-Decides row.1.device device).0 is in
                let key : device_of row ≡ Some row.1.device =
                ap (λ b. cond b None (Some row.1.device))
                (ap (λ d. bytes_eq d no_device) same ∙ some) in
                let none = list_any-all_differ bytes_eq row.1.device (filter_map device_of rows)
                (IsDistinct-head bytes_eq row.1.device _
                (subst (λ k. IsDistinct bytes_eq (cons_option k (filter_map device_of rows))) key
                distinct)) in
                absurd (absurd-both_values (list_any (bytes_eq device) (filter_map device_of rows))
                (ap (λ d. list_any (bytes_eq d) (filter_map device_of rows)) (sym same) ∙ none)
                (sym (list_any-device device rows some) ∙ among))
            | false ↦ λ is. first_index_with-unique device rows index some
                (is_distinct-cons_option_tail (device_of row) (filter_map device_of rows) distinct) later
          ] refl
    ]

-- the index that is found has the device in the map
pub has_device-first_index_with : (device : List ℕ) (rows : List (ℕ × VifValue)) (answer : Option ℕ)
    → IsDistinct nat_eq (map (λ row. row.0) rows) → answer ≡ first_index_with device rows
    → IfSome answer (λ index. HasDevice (from_entries rows) index device)
has_device-first_index_with device rows None distinct is = tt
has_device-first_index_with device rows (Some index) distinct is =
    subst (HasThisDevice device) (sym (get-from_entries nat_cmp_total rows index))
    (find-first_index_with device rows index distinct (sym is))

-- the index that has the device in the map is found
pub first_index_with-has_device : (device : List ℕ) (rows : List (ℕ × VifValue)) (index : ℕ)
    → (device ≡ no_device → ⊥) → IsDistinct bytes_eq (filter_map device_of rows)
    → HasDevice (from_entries rows) index device → first_index_with device rows ≡ Some index
first_index_with-has_device device rows index some distinct has =
    first_index_with-unique device rows index
    (false_from_ne_true (bytes_eq device no_device) (λ e. some (bytes_eq-no_device device e))) distinct
    (subst (HasThisDevice device) (get-from_entries nat_cmp_total rows index) has)

-- ---- the indexes

-- an index that is found among rows with indexes up to 31 is at most 31
find-at_most_31 : (rows : List (ℕ × VifValue)) (index : ℕ) → AllByRecursion (λ row. row.0 ≤ 31) rows
    → IsSome (find nat_cmp index rows) → index ≤ 31
find-at_most_31 [] index all there = absurd (let wrong = there in cc)
find-at_most_31 (row ∷ rows) index all there =
    elim (cases_eq index row.0) [
      | inl same ↦ omega (arith, same, all.0)
      | inr apart ↦ find-at_most_31 rows index all.1
          (subst IsSome (find-other_index index row rows apart) there)
    ]

-- and so is one that the map has
pub get-at_most_31 : (rows : List (ℕ × VifValue)) (index : ℕ) → AllByRecursion (λ row. row.0 ≤ 31) rows
    → IsSome (get (from_entries {R = nat_cmp} rows) index) → index ≤ 31
get-at_most_31 rows index all there =
    find-at_most_31 rows index all (subst IsSome (get-from_entries nat_cmp_total rows index) there)

-- ---- the map's own entries, in the order of their indexes

is_eq-less : (o : Ordering) → T (is_lt o) → is_eq o ≡ false
is_eq-less Less h = refl
is_eq-less Equal h = absurd h
is_eq-less Greater h = absurd h

-- an index below others is none of them
below_all-differs : (index : ℕ) (rows : List (ℕ × VifValue)) → T (below_all nat_cmp index rows)
    → AllByRecursion (λ other. nat_eq index other ≡ false) (map (λ row. row.0) rows)
below_all-differs index [] h = tt
below_all-differs index (row ∷ rows) h =
    let parts = and-parts (is_lt (nat_cmp index row.0)) (below_all nat_cmp index rows) h in (
      sym (unsigned_tied index row.0) ∙ is_eq-less (nat_cmp index row.0) parts.0,
      below_all-differs index rows parts.1,
    )

-- indexes in order differ
is_sorted-distinct : (rows : List (ℕ × VifValue)) → T (is_sorted nat_cmp rows)
    → IsDistinct nat_eq (map (λ row. row.0) rows)
unfolding IsDistinct
is_sorted-distinct [] h = tt
is_sorted-distinct (row ∷ rows) h =
    let parts = and-parts (below_all nat_cmp row.0 rows) (is_sorted nat_cmp rows) h in
    (below_all-differs row.0 rows parts.0, is_sorted-distinct rows parts.1)

-- a device that a row has is found
first_index_with-exists : (device : List ℕ) (rows : List (ℕ × VifValue))
    → list_any (λ row. bytes_eq row.1.device device) rows ≡ true
    → (index : ℕ) × (first_index_with device rows ≡ Some index)
first_index_with-exists device [] e = absurd cc
first_index_with-exists device (row ∷ rows) e =
    subst (λ (o : Option ℕ). (index : ℕ) × (o ≡ Some index)) (sym (first_index_with-cons device row rows))
    (elim (bytes_eq row.1.device device) as
    (λ b. (b || list_any (λ r. bytes_eq r.1.device device) rows) ≡ true
    → (index : ℕ) × (cond b (Some row.0) (first_index_with device rows) ≡ Some index)) [
      | true ↦ λ _. (row.0, refl)
      | false ↦ λ later. first_index_with-exists device rows later
    ] e)

-- the index of the map's first entry with a device has it
first_index_with-entries : (vifs : FinMap nat_cmp VifValue) (device : List ℕ) (index : ℕ)
    → first_index_with device (entries vifs) ≡ Some index → HasDevice vifs index device
first_index_with-entries vifs device index e =
    subst (HasThisDevice device) (sym (get-entries vifs index))
    (find-first_index_with device (entries vifs) index
    (is_sorted-distinct (entries vifs) (entries_sorted vifs)) e)

-- an index is found for a device exactly if its vif has the device, and it isn't `none`
pub index_of-exact : (vifs : FinMap nat_cmp VifValue) (device : List ℕ) (index : ℕ)
    → IsValidVifTable vifs
    → (index_of vifs device ≡ Some index) ↔ ((device ≢ no_device) × HasDevice vifs index device)
index_of-exact vifs device index rules = (
  elim (bytes_eq device no_device) as
      (λ b. bytes_eq device no_device ≡ b
      → cond b None (first_index_with device (entries vifs)) ≡ Some index
      → (device ≢ no_device) × HasDevice vifs index device) [
        | true ↦ λ is e. absurd cc
        | false ↦ λ is e. (
          λ unnamed. absurd-both_values (bytes_eq device no_device) is
              ((bytes_eq-Decides device no_device).1 unnamed),
          first_index_with-entries vifs device index e,
        )
      ] refl,
  λ both.
      let some = false_from_ne_true (bytes_eq device no_device) (λ e. both.0 (bytes_eq-no_device device e)) in
      let first = first_index_with-exists device (entries vifs)
      (list_any-found_device device (entries vifs) index
      (subst (HasThisDevice device) (get-entries vifs index) both.1)) in
      let same = rules.devices_differ device first.0 index both.0
      (first_index_with-entries vifs device first.0 first.1) both.1 in
      ap (λ b. cond b None (first_index_with device (entries vifs))) some ∙ first.1 ∙ ap Some same,
)

-- a result that is found exactly for an index is that index
pub index_of-value : (vifs : FinMap nat_cmp VifValue) (device : List ℕ) (answer : Option ℕ)
    → IsValidVifTable vifs
    → ((index : ℕ) → (answer ≡ Some index) ↔ ((device ≢ no_device) × HasDevice vifs index device))
    → answer ≡ index_of vifs device
index_of-value vifs device answer rules exact =
    elim answer as (λ a. answer ≡ a → a ≡ index_of vifs device) [
      | Some index ↦ λ is. sym ((index_of-exact vifs device index rules).1 ((exact index).0 is))
      | None ↦ λ is. elim (index_of vifs device) as (λ o. index_of vifs device ≡ o → None ≡ o) [
        | None ↦ λ _. refl
        | Some index ↦ λ there.
            let some = (exact index).1 ((index_of-exact vifs device index rules).0 there) in absurd cc
      ] refl
    ] refl
