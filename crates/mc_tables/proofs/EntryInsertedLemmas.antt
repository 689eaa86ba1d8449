-- What is kept after an entry was inserted, or was not, by what became of its key's number.
use Rattle.std.proofs.Common.{◌≡◌, ℕ, ◌∙◌, [], ◌∷◌, ◌++◌, List, length, sym, ap, subst}
use Rattle.std.specs.Prelude.{is_some}
use Rattle.std.proofs.lemmas.List.{length-map, map_push}
use Rattle.mc_tables.specs.declared.cache.entry.Oif.{Oif}
use Rattle.mc_tables.specs.declared.listed.listed_entry_numbers.Inserted.{Inserted}
use Rattle.mc_tables.specs.declared.listed.listed_entry_numbers.Inserted.TheVariants.{New, Repeated, Unlisted}
use Rattle.mc_tables.specs.CacheTable.{EntryValue}
use Rattle.mc_tables.specs.CacheNumbers.{AddsNumber, AreEntryNumbers, EntryNumbersValue, IsNumberInserted}
use Rattle.mc_tables.specs.CacheNumbers.{KeptRowsValue, entries_by_key, lists_with_new}
use Rattle.mc_tables.specs.FlatRows.{entry_of, entries_of}
use Rattle.mc_tables.specs.SummarySoFar.{IsEntryInserted}
use Rattle.mc_tables.proofs.CacheMapLemmas.{table_of_kept, is_some_get-entries_by_key, from_entries-insert}
use Rattle.mc_tables.proofs.CacheMapLemmas.{lookup-entries_by_key_push, kept_rows_value}

-- what is kept, of numbers and the lists of the entries
abbrev pub kept_of_lists : EntryNumbersValue → List (ℕ × List Oif) → List ℕ → KeptRowsValue
kept_of_lists numbers lists groups =
    kept_rows_value numbers.listed numbers.numbers (entries_of lists) groups

-- numbers and lists that didn't change
kept_of_lists-same : (old new : EntryNumbersValue) (lists more : List (ℕ × List Oif)) (groups : List ℕ)
    → new ≡ old → more ≡ lists → kept_of_lists new more groups ≡ kept_of_lists old lists groups
kept_of_lists-same old new lists more groups same same_lists =
    ap (λ ls. kept_of_lists new ls groups) same_lists
    ∙ ap (λ numbers. kept_of_lists numbers lists groups) same

-- The entry's number is how many entries there were, which is the place at which it was pushed.
pub entry_inserted-of_lists : (key : ℕ × ℕ) (iif : ℕ) (oifs : List Oif) (old new : EntryNumbersValue)
    (lists more : List (ℕ × List Oif)) (groups : List ℕ) (inserted : Inserted)
    → AreEntryNumbers old.numbers (entries_of lists)
    → IsNumberInserted key (length lists) old new inserted
    → more ≡ lists_with_new lists (iif, oifs) inserted
    → IsEntryInserted key (record { iif = iif; oifs = oifs }) (kept_of_lists old lists groups)
    (kept_of_lists new more groups) inserted
entry_inserted-of_lists key iif oifs old new lists more groups New are_numbers own more_is =
    let entry : EntryValue = record { iif = iif; oifs = oifs } in
    let es = entries_of lists in
    let pushed = ap entries_of more_is ∙ map_push entry_of lists (iif, oifs) in
    let grown = from_entries-insert key entry (entries_by_key old.numbers es)
    (entries_by_key new.numbers (es ++ entry ∷ []))
    (lookup-entries_by_key_push key entry es old.numbers new.numbers are_numbers
    (subst (λ (n : ℕ). AddsNumber key n old.numbers new.numbers) (sym (length-map lists entry_of))
    own.3)) in (
      own.0,
      is_some_get-entries_by_key key old.numbers es are_numbers ∙ ap is_some own.1,
      ap (λ (all : List EntryValue). kept_rows_value new.listed new.numbers all groups) pushed
          ∙ ap (λ l. kept_rows_value l new.numbers (es ++ entry ∷ []) groups) own.2
          ∙ ap (λ m. let k : KeptRowsValue = record {
            table = record {
              entries = m;
              numbered = es ++ entry ∷ [];
              wildcards = (table_of_kept old.numbers es groups).wildcards;
            };
            listed = old.listed;
            groups = groups;
          } in k) grown,
    )
entry_inserted-of_lists key iif oifs old new lists more groups Repeated are_numbers own more_is = (
  own.0,
  is_some_get-entries_by_key key old.numbers (entries_of lists) are_numbers ∙ own.1,
  kept_of_lists-same old new lists more groups own.2 more_is,
)
entry_inserted-of_lists key iif oifs old new lists more groups Unlisted are_numbers own more_is =
    (own.0, kept_of_lists-same old new lists more groups own.1 more_is)
