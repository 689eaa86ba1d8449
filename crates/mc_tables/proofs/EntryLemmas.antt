-- Entries that are read from a line are valid.
use Rattle.std.proofs.Common.{◌≡◌, ℕ, suc, ◌+◌, ◌<◌, ◌≤◌, Bool, true, false, cond, T, List, []}
use Rattle.std.proofs.Common.{◌∷◌, length, Ok, Option, Some, None, refl, sym, subst, ◌∙◌, arith}
use Rattle.std.specs.Prelude.{map, IfSome, ◌==◌, ◌&&◌, slice_index}
use Rattle.std.specs.List.{AllByRecursion, filter_map, cons_option}
use Rattle.std.specs.List.Sorted.{IsStrictlyIncreasing, IsStrictlySortedBy}
use Rattle.std.specs.Option.{option_map}
use Rattle.std.specs.Ordering.{nat_cmp, is_lt}
use Rattle.std.specs.declared.cmp.Ordering.{Ordering}
use Rattle.std.specs.declared.cmp.Ordering.TheVariants.{Less, Equal, Greater}
use Rattle.std.specs.FinMap as fin
use Rattle.std.specs.FinMap.Entries.{below_all, is_sorted, by_order}
use Rattle.std.proofs.lemmas.Cmp.{nat_cmp_total}
use Rattle.std.proofs.lemmas.Map.Keys.{IsStrictlyIncreasing-from_sorted}
use Rattle.mc_text.specs.declared.text.addr.Order.{Order}
use Rattle.mc_text.specs.Lines.{LineText, words_of}
use Rattle.mc_tables.specs.declared.cache.entry.Oif.{Oif}
use Rattle.mc_tables.specs.CacheTable.{EntryValue}
use Rattle.mc_tables.specs.TableLines.{EachDenotes}
use Rattle.mc_tables.specs.CacheTable.{to_oif, oifs_by_vif, WordDenotesOif, WordsDenoteOifs, WordsDenoteEntry}
use Rattle.mc_tables.specs.CacheTable.{RowValue}
use Rattle.mc_tables.specs.CacheTable.{WordsDenoteRow}
use Rattle.mc_tables.specs.CacheTable.{LineDenotesRow, key_cmp, same_key, exact_entry, IsValidEntry}
use Rattle.mc_tables.specs.CacheReading.{oifs_in}
use Rattle.mc_tables.proofs.OifLemmas.{oifs_in-denotes}

-- ---- the entries of a map of pairs that have P have P

module _ (P : ℕ × ℕ → Type 0) where
  -- one more that has P leaves all with P
  put-keeps_all : (vif threshold : ℕ) (es : List (ℕ × ℕ)) → P (vif, threshold) → AllByRecursion P es
      → AllByRecursion P (fin.put nat_cmp vif threshold es)
  put-keeps_all vif threshold [] new all = (new, tt)
  put-keeps_all vif threshold (e ∷ es) new all =
      elim (nat_cmp vif e.0) as
      (λ r. nat_cmp vif e.0 ≡ r
      → AllByRecursion P (by_order r ((vif, threshold) ∷ e ∷ es) ((e.0, threshold) ∷ es)
      (e ∷ fin.put nat_cmp vif threshold es))) [
        | Less ↦ λ is. (new, all)
        | Equal ↦ λ is. (
          subst (λ v. P (v, threshold)) (fin.nat_cmp-IsAntisymmetric vif e.0 is) new,
          all.1,
        )
        | Greater ↦ λ is. (all.0, put-keeps_all vif threshold es new all.1)
      ] refl

  -- all entries of no pairs have P
  all-of_empty : (es : List (ℕ × ℕ)) → length es ≡ 0 → AllByRecursion P es
  all-of_empty [] e = tt
  all-of_empty (oif ∷ es) e = absurd (omega arith)

  -- all entries of the empty map have P
  all_entries-empty : AllByRecursion P (fin.entries (fin.empty {K = ℕ} {X = ℕ} {R = nat_cmp}))
  all_entries-empty = all-of_empty (fin.entries (fin.empty {K = ℕ} {X = ℕ} {R = nat_cmp}))
      (sym (fin.len-entries (fin.empty {K = ℕ} {X = ℕ} {R = nat_cmp})) ∙ fin.len-empty nat_cmp ℕ)

  -- a map of pairs that have P has only such entries
  all_entries-from_entries : (denoted : List (ℕ × ℕ)) → AllByRecursion P denoted
      → AllByRecursion P (fin.entries (fin.from_entries {R = nat_cmp} denoted))
  all_entries-from_entries [] all = all_entries-empty
  all_entries-from_entries (oif ∷ denoted) all =
      let m = fin.from_entries {R = nat_cmp} denoted in
      subst (AllByRecursion P) (sym (fin.entries-insert nat_cmp_total m oif.0 oif.1))
      (put-keeps_all oif.0 oif.1 (fin.entries m) all.0 (all_entries-from_entries denoted all.1))

-- ---- the vifs of a map ascend

-- an order that passes as less is Less
is_lt-less : (r : Ordering) → T (is_lt r) → r ≡ Less
is_lt-less Less h = refl
is_lt-less Equal h = absurd h
is_lt-less Greater h = absurd h

-- both parts of a conjunction hold
pub and-parts : (a b : Bool) → T (a && b) → T a × T b
and-parts true b h = (tt, h)
and-parts false b h = absurd h

-- the vifs after one that is below them all are greater
below_all-vifs : (vif : ℕ) (es : List (ℕ × ℕ)) → T (below_all nat_cmp vif es)
    → AllByRecursion (λ v. nat_cmp vif v ≡ Less) (map (λ oif. oif.vif) (map to_oif es))
below_all-vifs vif [] h = tt
below_all-vifs vif (e ∷ es) h = let p = and-parts _ _ h in (is_lt-less _ p.0, below_all-vifs vif es p.1)

-- the vifs of sorted entries ascend
is_sorted-vifs : (es : List (ℕ × ℕ)) → T (is_sorted nat_cmp es)
    → IsStrictlySortedBy nat_cmp (map (λ oif. oif.vif) (map to_oif es))
unfolding IsStrictlySortedBy
is_sorted-vifs [] h = tt
is_sorted-vifs (e ∷ es) h = let p = and-parts _ _ h in (below_all-vifs e.0 es p.0, is_sorted-vifs es p.1)

-- so those of a map ascend
oifs_by_vif-ascends : (thresholds : fin.FinMap nat_cmp ℕ)
    → IsStrictlyIncreasing (map (λ oif. oif.vif) (oifs_by_vif thresholds))
oifs_by_vif-ascends thresholds =
    IsStrictlyIncreasing-from_sorted _
    (is_sorted-vifs (fin.entries thresholds) (fin.entries_sorted thresholds))

-- ---- the entry of a line

-- a vif up to 31 and a threshold from 1 to 254
abbrev InRange : ℕ × ℕ → Type 0
InRange oif = (oif.0 ≤ 31) × (1 ≤ oif.1) × (oif.1 ≤ 254)

-- words denote outgoing vifs in range
denoted_oifs-in_range : (words : List (List ℕ)) (denoted : List (ℕ × ℕ))
    → EachDenotes WordDenotesOif words denoted
    → AllByRecursion InRange denoted
denoted_oifs-in_range [] [] each = tt
denoted_oifs-in_range [] (oif ∷ denoted) each = absurd each
denoted_oifs-in_range (word ∷ words) [] each = absurd each
denoted_oifs-in_range (word ∷ words) (oif ∷ denoted) each = (
  (each.0.vif_number.2, each.0.threshold_number.1, each.0.threshold_number.2),
  denoted_oifs-in_range words denoted each.1,
)

-- and the list of them is in range
to_oif-in_range : (es : List (ℕ × ℕ)) → AllByRecursion InRange es
    → AllByRecursion (λ oif. (oif.vif ≤ 31) × (1 ≤ oif.threshold) × (oif.threshold ≤ 254))
    (map to_oif es)
to_oif-in_range [] all = tt
to_oif-in_range (e ∷ es) all = (all.0, to_oif-in_range es all.1)

-- outgoing vifs that words denote make a valid entry with an incoming vif up to 31
oifs-valid_entry : (outgoing : List (List ℕ)) (entry : EntryValue) → entry.iif ≤ 31
    → WordsDenoteOifs outgoing entry.oifs → IsValidEntry entry
oifs-valid_entry outgoing entry iif h =
    let denoted = denoted_oifs-in_range outgoing h.denoted h.each in
    let same = sym h.ascending in
    record {
      incoming = iif;
      ascending = subst (λ (oifs : List Oif). IsStrictlyIncreasing (map (λ oif. oif.vif) oifs)) same
          (oifs_by_vif-ascends (fin.from_entries h.denoted));
      ranges = subst (AllByRecursion
          (λ oif. (oif.vif ≤ 31) × (1 ≤ oif.threshold) × (oif.threshold ≤ 254))) same
          (to_oif-in_range (fin.entries (fin.from_entries h.denoted))
          (all_entries-from_entries InRange h.denoted denoted));
    }

-- the entry that words denote is valid
entry-is_valid : (iif : List ℕ) (outgoing : List (List ℕ)) (entry : Option EntryValue)
    → WordsDenoteEntry iif outgoing entry → IfSome entry IsValidEntry
entry-is_valid iif outgoing None h = tt
entry-is_valid iif outgoing (Some entry) h = oifs-valid_entry outgoing entry h.0.2 h.1

-- and so is that of a row
pub row_entry-is_valid : (order : Order) (words : List (List ℕ)) (row : RowValue)
    → WordsDenoteRow order words row
    → IfSome row.entry IsValidEntry
row_entry-is_valid order (group ∷ origin ∷ iif ∷ packets ∷ bytes ∷ wrong_if ∷ outgoing) row h =
    entry-is_valid iif outgoing row.entry h.5
row_entry-is_valid order words row h = absurd h

-- ---- how many outgoing vifs there are

-- numbers after the first ascend as well
pub tail-ascends : (x : ℕ) (xs : List ℕ) → IsStrictlyIncreasing (x ∷ xs) → IsStrictlyIncreasing xs
tail-ascends x xs h i lt =
    let e : suc i + 1 ≡ suc (i + 1) = omega arith in
    let k : slice_index (x ∷ xs) (suc i) < slice_index (x ∷ xs) (suc i + 1) =
    h (suc i) (omega (arith, lt)) in
    subst (λ (j : ℕ). slice_index xs i < slice_index (x ∷ xs) j) e k

-- the vifs and the thresholds are in their ranges
abbrev pub AreInRange : List Oif → Type 0
AreInRange oifs =
    AllByRecursion (λ oif. (oif.vif ≤ 31) × (1 ≤ oif.threshold) × (oif.threshold ≤ 254)) oifs

-- outgoing vifs that ascend from the first one up to 31 are few enough
pub length_oifs-from_vif : (oif : Oif) (oifs : List Oif)
    → IsStrictlyIncreasing (map (λ (o : Oif). o.vif) (oif ∷ oifs))
    → AreInRange (oif ∷ oifs) → oif.vif + length (oif ∷ oifs) ≤ 32
length_oifs-from_vif oif [] up within = omega (arith, within.0.0)
length_oifs-from_vif oif (next ∷ oifs) up within =
    let first : oif.vif < next.vif = up 0 (omega arith) in
    let rest = length_oifs-from_vif next oifs
    (tail-ascends oif.vif (map (λ (o : Oif). o.vif) (next ∷ oifs)) up)
    within.1 in
    omega (arith, first, rest)

length_oifs-at_most_32 : (oifs : List Oif) → IsStrictlyIncreasing (map (λ (o : Oif). o.vif) oifs)
    → AreInRange oifs
    → length oifs ≤ 32
length_oifs-at_most_32 [] up within = omega arith
length_oifs-at_most_32 (oif ∷ oifs) up within =
    let h = length_oifs-from_vif oif oifs up within in
    omega (arith, h)

-- a valid entry has at most 32 outgoing vifs
pub length_entry_oifs-at_most_32 : (entry : EntryValue) → IsValidEntry entry → length entry.oifs ≤ 32
length_entry_oifs-at_most_32 entry ok = length_oifs-at_most_32 entry.oifs ok.ascending ok.ranges

-- words are read as at most 32 outgoing vifs
pub oifs_in_gives_at_most_32 : (words : List (List ℕ)) (oifs : List Oif) → oifs_in words ≡ Ok oifs
    → length oifs ≤ 32
oifs_in_gives_at_most_32 words oifs e =
    let entry : EntryValue = record { iif = 0; oifs = oifs } in
    length_entry_oifs-at_most_32 entry
    (oifs-valid_entry words entry (omega arith) (oifs_in-denotes words oifs e))

-- ---- the entries of a table

-- the entry of a resolved row is valid
abbrev pub HaveValidEntries : List RowValue → Type 0
HaveValidEntries rows = AllByRecursion (λ row. IfSome row.entry IsValidEntry) rows

-- lines denote rows with valid entries
pub rows-have_valid_entries : (order : Order) (lines : List LineText) (rows : List RowValue)
    → EachDenotes (LineDenotesRow order) lines rows → HaveValidEntries rows
rows-have_valid_entries order [] [] denoted = tt
rows-have_valid_entries order [] (row ∷ rows) denoted = absurd denoted
rows-have_valid_entries order (line ∷ lines) [] denoted = absurd denoted
rows-have_valid_entries order (line ∷ lines) (row ∷ rows) denoted = (
  row_entry-is_valid order
      (words_of line.bytes) row denoted.0.words,
  rows-have_valid_entries order lines rows denoted.1,
)

-- what is found is the first entry, or one of the others
find-valid_entry_cons : (key : ℕ × ℕ) (o : Option ((ℕ × ℕ) × EntryValue)) (rest : List ((ℕ × ℕ) × EntryValue))
    → IfSome o (λ exact. IsValidEntry exact.1) → IfSome (fin.find key_cmp key rest) IsValidEntry
    → IfSome (fin.find key_cmp key (cons_option o rest)) IsValidEntry
find-valid_entry_cons key None rest valid others = others
find-valid_entry_cons key (Some exact) rest valid others =
    elim (same_key key exact.0) as
    (λ b. IfSome (cond b (Some exact.1) (fin.find key_cmp key rest)) IsValidEntry) [
      | true ↦ valid
      | false ↦ others
    ]

-- a row for one source has its entry, and one for every source has none
exact_entry-is_valid : (b : Bool) (key : ℕ × ℕ) (entry : Option EntryValue) → IfSome entry IsValidEntry
    → IfSome {T = (ℕ × ℕ) × EntryValue} (cond b None (option_map (λ e. (key, e)) entry))
    (λ exact. IsValidEntry exact.1)
exact_entry-is_valid true key entry valid = tt
exact_entry-is_valid false key None valid = tt
exact_entry-is_valid false key (Some entry) valid = valid

-- an entry that is found among those of the rows is valid
pub find-valid_entry : (key : ℕ × ℕ) (rows : List RowValue) → HaveValidEntries rows
    → IfSome (fin.find key_cmp key (filter_map exact_entry rows)) IsValidEntry
find-valid_entry key [] valid = tt
find-valid_entry key (row ∷ rows) valid =
    find-valid_entry_cons key (exact_entry row) (filter_map exact_entry rows)
    (exact_entry-is_valid (row.origin == 0) (row.origin, row.group) row.entry valid.0)
    (find-valid_entry key rows valid.1)
