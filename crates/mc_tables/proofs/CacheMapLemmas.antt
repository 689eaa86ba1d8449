-- What the maps and lists of a cache hold, as its table.
use Rattle.std.proofs.Common.{◌≡◌, ℕ, zero, suc, ◌+◌, ◌<◌, true, false, cond, List, [], ◌∷◌}
use Rattle.std.proofs.Common.{◌++◌, length, Option, Some, None, refl, sym, ap, subst, ◌∙◌, inl, inr}
use Rattle.std.proofs.Common.{arith}
use Rattle.std.specs.Prelude.{is_some, IfSome, slice_get, option_and_then}
use Rattle.std.specs.Option.{option_map}
use Rattle.std.specs.List.{cons_option}
use Rattle.std.specs.Ordering.{nat_cmp, eq_by_cmp, ordering_then}
use Rattle.std.specs.declared.cmp.Ordering.TheVariants.{Less, Equal, Greater}
use Rattle.std.specs.FinMap as map
use Rattle.std.specs.FinMap.{IsAntisymmetric, nat_cmp-IsAntisymmetric}
use Rattle.std.specs.FinSet as set
use Rattle.std.proofs.lemmas.Bool.{cases_Bool}
use Rattle.std.proofs.lemmas.List.{length_push}
use Rattle.std.specs.BTreeMap.{is_at}
use Rattle.std.specs.Map.{lookup}
use Rattle.mc_tables.specs.CacheTable.{EntryValue, CacheValue, key_cmp}
use Rattle.mc_tables.specs.CacheNumbers.{entries_by_key, number_of_key, AreEntryNumbers, KeptRowsValue}
use Rattle.mc_tables.specs.CacheNumbers.{AddsNumber}
use Rattle.mc_tables.specs.ListedRows.{ListedSet}
use Rattle.mc_tables.proofs.CacheLemmas.{key_cmp-total, same_key-equivalence}

-- the table of numbers, entries and groups
abbrev pub table_from_numbers : List ((ℕ × ℕ) × ℕ) → List EntryValue → set.FinSet nat_cmp → CacheValue
table_from_numbers numbers es groups = record {
  entries = map.from_entries (entries_by_key numbers es);
  numbered = es;
  wildcards = groups;
}

abbrev pub table_of_kept : List ((ℕ × ℕ) × ℕ) → List EntryValue → List ℕ → CacheValue
table_of_kept numbers es groups = table_from_numbers numbers es (set.from_list groups)

-- the rows that are kept, of these
abbrev pub kept_rows_value : ListedSet → List ((ℕ × ℕ) × ℕ) → List EntryValue → List ℕ → KeptRowsValue
kept_rows_value listed numbers es groups =
    record { table = table_of_kept numbers es groups; listed = listed; groups = groups }

-- only equal keys are equal in order
pub key_cmp-antisymmetric : IsAntisymmetric key_cmp
key_cmp-antisymmetric x y is =
    elim (nat_cmp x.0 y.0) as
    (λ r. nat_cmp x.0 y.0 ≡ r → ordering_then r (nat_cmp x.1 y.1) ≡ Equal → x ≡ y) [
      | Less ↦ λ _ e. absurd cc
      | Equal ↦ λ first e.
          let source = nat_cmp-IsAntisymmetric x.0 y.0 first in
          let group = nat_cmp-IsAntisymmetric x.1 y.1 e in
          ap (λ n. (n, x.1)) source ∙ ap (λ n. (y.0, n)) group
      | Greater ↦ λ _ e. absurd cc
    ] refl is

-- a look-up of a key finds what the map has there
lookup-find : (key : ℕ × ℕ) (es : List ((ℕ × ℕ) × EntryValue))
    → lookup (is_at (key_cmp key)) es ≡ map.find key_cmp key es
lookup-find key [] = refl
lookup-find key (e ∷ es) =
    ap (cond (eq_by_cmp key_cmp key e.0) (Some e.1)) (lookup-find key es)

-- a look-up of a key among the entries finds what their map has there
pub lookup-from_entries : (key : ℕ × ℕ) (es : List ((ℕ × ℕ) × EntryValue)) →
    lookup (is_at (key_cmp key)) es ≡ map.get (map.from_entries {R = key_cmp} es) key
lookup-from_entries key es = lookup-find key es ∙ sym (map.get-from_entries key_cmp-total es key)

-- a look-up among the numbers with one more
lookup-other_key : (key own : ℕ × ℕ) (o : Option EntryValue) (rest : List ((ℕ × ℕ) × EntryValue))
    → is_at (key_cmp key) own ≡ false
    → lookup (is_at (key_cmp key)) (cons_option (option_map (λ e. (own, e)) o) rest)
    ≡ lookup (is_at (key_cmp key)) rest
lookup-other_key key own None rest other = refl
lookup-other_key key own (Some e) rest other = rw other refl

-- the number that a look-up finds
lookup-same_key : (key own : ℕ × ℕ) (es : List EntryValue) (number : ℕ) (rest : List ((ℕ × ℕ) × EntryValue))
    → is_at (key_cmp key) own ≡ true → number < length es
    → lookup (is_at (key_cmp key))
    (cons_option (option_map (λ e. (own, e)) (slice_get es number)) rest) ≡ slice_get es number
lookup-same_key key own [] number rest same within = absurd (omega (arith, within))
lookup-same_key key own (e ∷ es) zero rest same within = rw same refl
lookup-same_key key own (e ∷ es) (suc number) rest same within =
    lookup-same_key key own es number rest same (omega (arith, within))

-- a key has the entry of its number
pub lookup-entries_by_key : (key : ℕ × ℕ) (numbers : List ((ℕ × ℕ) × ℕ)) (es : List EntryValue)
    → IfSome (number_of_key numbers key) (λ number. number < length es)
    → lookup (is_at (key_cmp key)) (entries_by_key numbers es)
    ≡ option_and_then (slice_get es) (number_of_key numbers key)
lookup-entries_by_key key [] es within = refl
lookup-entries_by_key key (p ∷ numbers) es within =
    elim (cases_Bool (is_at (key_cmp key) p.0)) [
      | inl same ↦
          let own : p.1 < length es =
          subst (λ b. IfSome (cond b (Some p.1) (number_of_key numbers key)) (λ n. n < length es)) same
          within in
          lookup-same_key key p.0 es p.1 (entries_by_key numbers es) same own
          ∙ ap (λ b. option_and_then (slice_get es) (cond b (Some p.1) (number_of_key numbers key)))
          (sym same)
      | inr other ↦
          let rest =
          subst (λ b. IfSome (cond b (Some p.1) (number_of_key numbers key)) (λ n. n < length es)) other
          within in
          lookup-other_key key p.0 (slice_get es p.1) (entries_by_key numbers es) other
          ∙ lookup-entries_by_key key numbers es rest
          ∙ ap (λ b. option_and_then (slice_get es) (cond b (Some p.1) (number_of_key numbers key)))
          (sym other)
    ]

-- a number finds an entry
is_some-slice_get_number : (es : List EntryValue) (o : Option ℕ) → IfSome o (λ n. n < length es)
    → is_some (option_and_then (slice_get es) o) ≡ is_some o
is_some-slice_get_number es None within = refl
is_some-slice_get_number [] (Some n) within = absurd (omega (arith, within))
is_some-slice_get_number (e ∷ es) (Some zero) within = refl
is_some-slice_get_number (e ∷ es) (Some (suc n)) within =
    is_some-slice_get_number es (Some n) (omega (arith, within))

-- a key has an entry if it has a number
pub is_some_get-entries_by_key : (key : ℕ × ℕ) (numbers : List ((ℕ × ℕ) × ℕ)) (es : List EntryValue)
    → AreEntryNumbers numbers es
    → is_some (map.get (map.from_entries {R = key_cmp} (entries_by_key numbers es)) key)
    ≡ is_some (number_of_key numbers key)
is_some_get-entries_by_key key numbers es own =
    ap is_some (sym (lookup-from_entries key (entries_by_key numbers es))
    ∙ lookup-entries_by_key key numbers es (own key))
    ∙ is_some-slice_get_number es (number_of_key numbers key) (own key)

-- what a number finds stays found with one more entry behind
slice_get-push_earlier : (es : List EntryValue) (entry : EntryValue) (o : Option ℕ)
    → IfSome o (λ n. n < length es)
    → option_and_then (slice_get (es ++ entry ∷ [])) o ≡ option_and_then (slice_get es) o
slice_get-push_earlier es entry None within = refl
slice_get-push_earlier [] entry (Some n) within = absurd (omega (arith, within))
slice_get-push_earlier (e ∷ es) entry (Some zero) within = refl
slice_get-push_earlier (e ∷ es) entry (Some (suc n)) within =
    slice_get-push_earlier es entry (Some n) (omega (arith, within))

-- the last number finds the last entry
slice_get-push_last : (es : List EntryValue) (entry : EntryValue)
    → slice_get (es ++ entry ∷ []) (length es) ≡ Some entry
slice_get-push_last [] entry = refl
slice_get-push_last (e ∷ es) entry = slice_get-push_last es entry

-- a number below one is below the next
if_some_less-more : (n : ℕ) (o : Option ℕ) → IfSome o (λ m. m < n) → IfSome o (λ m. m < n + 1)
if_some_less-more n None within = tt
if_some_less-more n (Some m) within = omega (arith, within)

-- with the next number and one more entry, each number is that of an entry
pub are_entry_numbers-push : (key : ℕ × ℕ) (entry : EntryValue) (es : List EntryValue)
    (numbers more : List ((ℕ × ℕ) × ℕ)) → AreEntryNumbers numbers es
    → AddsNumber key (length es) numbers more → AreEntryNumbers more (es ++ entry ∷ [])
are_entry_numbers-push key entry es numbers more own grown = λ q.
    let size : length (es ++ entry ∷ []) ≡ length es + 1 = length_push es entry in
    let within : IfSome (cond (is_at (key_cmp key) q) (Some (length es)) (number_of_key numbers q))
    (λ m. m < length es + 1) =
    elim (is_at (key_cmp key) q) as
    (λ b. IfSome (cond b (Some (length es)) (number_of_key numbers q)) (λ m. m < length es + 1)) [
      | true ↦ omega arith
      | false ↦ if_some_less-more (length es) (number_of_key numbers q) (own q)
    ] in
    subst (λ n. IfSome (number_of_key more q) (λ m. m < n)) (sym size)
    (subst (λ o. IfSome o (λ m. m < length es + 1)) (sym (grown q)) within)

-- and the entry has the number
pub lookup-entries_by_key_push : (key : ℕ × ℕ) (entry : EntryValue) (es : List EntryValue)
    (numbers more : List ((ℕ × ℕ) × ℕ)) → AreEntryNumbers numbers es
    → AddsNumber key (length es) numbers more → (q : ℕ × ℕ)
    → lookup (is_at (key_cmp q)) (entries_by_key more (es ++ entry ∷ []))
    ≡ cond (is_at (key_cmp key) q) (Some entry)
    (lookup (is_at (key_cmp q)) (entries_by_key numbers es))
lookup-entries_by_key_push key entry es numbers more own grown q =
    lookup-entries_by_key q more (es ++ entry ∷ [])
    (are_entry_numbers-push key entry es numbers more own grown q)
    ∙ ap (option_and_then (slice_get (es ++ entry ∷ []))) (grown q)
    ∙ elim (is_at (key_cmp key) q) as
    (λ b. option_and_then (slice_get (es ++ entry ∷ []))
    (cond b (Some (length es)) (number_of_key numbers q))
    ≡ cond b (Some entry) (lookup (is_at (key_cmp q)) (entries_by_key numbers es))) [
      | true ↦ slice_get-push_last es entry
      | false ↦ slice_get-push_earlier es entry (number_of_key numbers q) (own q)
          ∙ sym (lookup-entries_by_key q numbers es (own q))
    ]

-- entries that give what those before and one more give are the map with that one
pub from_entries-insert : (key : ℕ × ℕ) (entry : EntryValue) (es more : List ((ℕ × ℕ) × EntryValue)) →
    ((q : ℕ × ℕ) → lookup (is_at (key_cmp q)) more
    ≡ cond (is_at (key_cmp key) q) (Some entry) (lookup (is_at (key_cmp q)) es)) →
    map.from_entries {R = key_cmp} more ≡ map.insert (map.from_entries {R = key_cmp} es) key entry
from_entries-insert key entry es more answers =
    map.same_map key_cmp-total key_cmp-antisymmetric _ _ (λ q.
    sym (lookup-from_entries q more) ∙ answers q
    ∙ ap (λ b. cond b (Some entry) (lookup (is_at (key_cmp q)) es)) (same_key-equivalence.symm key q)
    ∙ ap (cond (eq_by_cmp key_cmp q key) (Some entry)) (lookup-from_entries q es)
    ∙ sym (map.get-insert key_cmp-total (map.from_entries {R = key_cmp} es) key entry q))
