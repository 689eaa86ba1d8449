-- A cache that is read with a summary of its rows.
use Rattle.std.proofs.Common.{◌≡◌, ℕ, ◌+◌, ◌≤◌, Bool, true, false, cond, List, [], ◌∷◌, ◌++◌}
use Rattle.std.proofs.Common.{length}
use Rattle.std.proofs.Common.{drop, Option, Some, None, Result, Ok, Err, refl, sym, ap, subst, ◌∙◌, inl, inr}
use Rattle.std.specs.Prelude.{◌&&◌, ◌||◌, not, nat_lt, filter, is_some, map as map_list, codes}
use Rattle.std.specs.FinMap as map
use Rattle.std.specs.FinSet as set
use Rattle.std.specs.List.{filter_map, cons_option, list_any}
use Rattle.std.specs.Ordering.{eq_by_cmp}
use Rattle.std.proofs.lemmas.Bool.{cases_Bool, le-ltb}
use Rattle.std.proofs.lemmas.List.{append-nil, length_push, map-append}
use Rattle.std.proofs.lemmas.List.Elements.{filter_map-append}
use Rattle.mc_text.specs.declared.text.addr.Order.{Order}
use Rattle.mc_text.specs.Lines.{LineText, lines_of, words_of}
use Rattle.mc_text.specs.Steps.{◌>>=◌}
use Rattle.mc_text.proofs.StepLemmas.{None-from_is_some_false}
use Rattle.std.proofs.Math.Bool.{and-false}
use Rattle.mc_tables.specs.declared.fault.TableFault.{TableFault}
use Rattle.mc_tables.specs.declared.fault.TableFaultKind.{TableFaultKind}
use Rattle.mc_tables.specs.declared.fault.TableFaultKind.TheVariants.{RepeatedEntry, TooLarge, Unended}
use Rattle.mc_tables.specs.declared.summary.summarized_cache.SummarizedCache.{SummarizedCache}
use Rattle.mc_tables.specs.Steps.{at_line, demand}
use Rattle.mc_tables.specs.TableLines.{lines_after_header, rows_after}
use Rattle.mc_tables.specs.LinesSoFar.{header_line}
use Rattle.mc_tables.specs.LinesSoFar.{ReadsInSteps}
use Rattle.mc_tables.specs.CacheTable.{CacheValue, EntryValue, RowValue, key_cmp, key_of, same_key}
use Rattle.mc_tables.specs.CacheTable.{table_of}
use Rattle.mc_tables.specs.CacheNumbers.{KeptRowsValue}
use Rattle.mc_tables.specs.CacheReading.{cache_rows_in, entry_repeats, row_at_line, row_in_line, row_in_words}
use Rattle.mc_tables.specs.CacheSteps.{row_with_room}
use Rattle.mc_tables.specs.ListedRows.{set_has_key, is_listed, kept_rows, listed_in, listed_set}
use Rattle.mc_tables.specs.UnlistedRows.{UnlistedRow, without_repeat}
use Rattle.mc_tables.specs.RowsSoFar.{ListedRowsSoFar, RowsSoFar, first_fault, line_added}
use Rattle.mc_tables.specs.RowsSoFar.{row_added_so_far, any_row_added, row_step, table_from}
use Rattle.mc_tables.specs.Summary.{every_source_entry, group_first, in_order, keys_for_every_source}
use Rattle.mc_tables.specs.Summary.{summary_of, shown_pairs, unresolved_key}
use Rattle.mc_tables.specs.SummarySoFar.{KeptPairs, SummarySoFar, summary_with_every_source}
use Rattle.mc_tables.specs.SummarySoFar.{summary_with_exact, summary_with_line}
use Rattle.mc_tables.specs.SummarySoFar.{with_entry_if_new, empty_summary, summary_of_lines, with_pair}
use Rattle.mc_tables.specs.SummarySoFar.{summary_with_read}
use Rattle.mc_tables.specs.SummarySoFar.{summary_with_row, finished_summary}
use Rattle.mc_tables.specs.SummarySoFar.{summary_with_unresolved, with_first_entry}
use Rattle.mc_tables.specs.SummaryReading.{SummarizedRowsSoFar, summary_start, summary_rows_start}
use Rattle.mc_tables.specs.SummaryReading.{summary_from, summary_if, summary_in, summary_step}
use Rattle.mc_tables.specs.SummaryReading.{table_without_summary}
use Rattle.mc_text.proofs.StepLemmas.{bind_ok, ok_injective}
use Rattle.mc_tables.proofs.StepLemmas.{at_line-ok, demand-bind_ok}
use Rattle.mc_tables.proofs.CacheLemmas.{key_cmp-total}
use Rattle.mc_tables.proofs.CacheMapLemmas.{key_cmp-antisymmetric}
use Rattle.mc_tables.proofs.KeptRowLemmas.{same_key-listed_differs}
use Rattle.mc_tables.proofs.ListedLemmas.{set_has_key-listed_set}
use Rattle.mc_tables.proofs.LowestLemmas.{shown_pairs-none, shown_pairs-push}
use Rattle.mc_tables.proofs.UnlistedRowLemmas.{same_key-equal}
use Rattle.mc_tables.specs.RowsSoFar.{refusal_at}
use Rattle.mc_tables.proofs.RowsSoFarLemmas.{table_from-unended}
use Rattle.mc_tables.proofs.RowsSoFarLemmas.{filter-push_passing, filter-push_failing}
use Rattle.mc_tables.proofs.RowsSoFarLemmas.{cache_if-start}

-- ---- line by line

-- a fault is no value
bind_err-not_ok : {A : Type 0} (r : Result (Unit {0}) TableFault) (fault : TableFault) (x : A)
    → (r >>= λ _. Err fault) ≡ Ok x → ⊥
bind_err-not_ok (Ok u) fault x e = cc
bind_err-not_ok (Err first) fault x e = cc

-- a value that is found after a check for repeats is a value
first_fault-ok : {A : Type 0} (others : List UnlistedRow) (r : Result A TableFault) (x : A)
    → first_fault others r ≡ Ok x → r ≡ Ok x
first_fault-ok others (Ok y) x e = e
first_fault-ok others (Err fault) x e = absurd (bind_err-not_ok (without_repeat others) fault x e)

-- the row of a line changes no byte order
row_step-same_order : (so_far more : ListedRowsSoFar) (line : LineText) → row_step so_far line ≡ Ok more
    → more.order ≡ so_far.order
row_step-same_order so_far more line is =
    let added = at_line-ok line.number (line_added so_far line) more
    (first_fault-ok so_far.rows.others (at_line line.number (line_added so_far line)) more is) in
    let read = bind_ok (row_with_room so_far.order so_far.rows.count line)
    (λ row. row_added_so_far so_far row line.number) more added in
    let make : RowsSoFar → ListedRowsSoFar = λ r.
    record { order = so_far.order; listed = so_far.listed; rows = r } in
    let one = bind_ok (any_row_added so_far.listed so_far.rows read.0 line.number) (λ r. Ok (make r)) more
    read.2 in
    sym (ap (λ (s : ListedRowsSoFar). s.order) (ok_injective {E = TableFaultKind} (make one.0) more one.2))

-- the table and the summary
abbrev pub with_summary : Order → SummarySoFar → List LineText → CacheValue
    → Result SummarizedCache TableFault
with_summary order summary lines table =
    Ok (record { table = table; summary = finished_summary (summary_of_lines order summary lines) })

-- the lines are read one after the other
pub summary_reads_in_steps : ReadsInSteps summary_from summary_step
summary_reads_in_steps = record {
  line = λ so_far line lines.
      let order = so_far.rows.order in
      let summary = summary_with_line order so_far.summary line in
      elim (row_step so_far.rows line) as (λ r. row_step so_far.rows line ≡ r
      → ((r >>= λ more. table_from more lines) >>= with_summary order summary lines)
      ≡ ((r >>= λ rows. let all : Result SummarizedRowsSoFar TableFault =
      Ok (record { rows = rows; summary = summary }) in all) >>= λ more. summary_from more lines)) [
        | Err fault ↦ λ is. refl
        | Ok more ↦ λ is. ap (λ (o : Order). table_from more lines >>= with_summary o summary lines)
            (sym (row_step-same_order so_far.rows more line is))
      ] refl;
}

-- a line that isn't ended is refused, if no earlier row repeats another
pub summary_from-unended : (so_far : SummarizedRowsSoFar) (number : ℕ) (bytes : List ℕ)
    → summary_from so_far (record { number = number; bytes = bytes; ended = false } ∷ [])
    ≡ Err (refusal_at so_far.rows.rows.others number Unended)
summary_from-unended so_far number bytes =
    let line : LineText = record { number = number; bytes = bytes; ended = false } in
    ap (λ r. r >>= with_summary so_far.rows.order so_far.summary (line ∷ []))
    (table_from-unended so_far.rows number bytes)

-- ---- the table is that without the summary

-- what is read is the table that is read without a summary, with the summary of the lines to come
lines_after_header-summary_from : (so_far : SummarizedRowsSoFar) (lines : List LineText)
    → (lines_after_header (codes "Group") lines >>= summary_from so_far)
    ≡ ((lines_after_header (codes "Group") lines >>= table_from so_far.rows)
    >>= with_summary so_far.rows.order so_far.summary (drop 1 lines))
lines_after_header-summary_from so_far [] = refl
lines_after_header-summary_from so_far (header ∷ lines) =
    elim (header_line (codes "Group") header) as (λ r.
    ((at_line 1 r >>= λ _. Ok lines) >>= summary_from so_far)
    ≡ (((at_line 1 r >>= λ _. Ok lines) >>= table_from so_far.rows)
    >>= with_summary so_far.rows.order so_far.summary lines)) [
      | Err kind ↦ refl
      | Ok u ↦ refl
    ]

-- ---- the summary of some rows

-- the listed keys, the others, and the entries of listed keys
abbrev listed_of : List (ℕ × ℕ) → List (ℕ × ℕ) → List (ℕ × ℕ)
listed_of listed keys = filter (is_listed (Some listed)) keys

abbrev unlisted_of : List (ℕ × ℕ) → List (ℕ × ℕ) → List (ℕ × ℕ)
unlisted_of listed keys = filter (λ key. not (is_listed (Some listed) key)) keys

abbrev listed_entries_of : List (ℕ × ℕ) → List ((ℕ × ℕ) × EntryValue) → List ((ℕ × ℕ) × EntryValue)
listed_entries_of listed exacts = filter (λ exact. is_listed (Some listed) exact.0) exacts

-- the pairs that are kept, and whether they are all
abbrev kept_pairs_of : Bool → List (ℕ × ℕ) → KeptPairs
kept_pairs_of all pairs = record { all = all; pairs = pairs }

-- The summary so far is that of rows of which these are the keys of the unresolved ones, the entries of
-- those for every source, and the keys of the others.
record IsSummaryOfKeys (all : Bool) (listed unresolved : List (ℕ × ℕ)) (exacts : List ((ℕ × ℕ) × EntryValue))
    (keys : List (ℕ × ℕ)) (summary : SummarySoFar) : Type 0 where
  pub listed_is : summary.listed ≡ listed_set (Some listed)
  pub first_listed : summary.first.listed ≡ listed_set (Some (keys_for_every_source listed))
  pub unresolved_is : summary.unresolved ≡ set.from_list (listed_of listed unresolved)
  pub first_is : summary.first.table.entries
      ≡ map.from_entries (listed_entries_of (keys_for_every_source listed) exacts)
  pub unlisted_is : summary.unlisted ≡ length (unlisted_of listed keys)
  pub lowest_is : summary.lowest
      ≡ kept_pairs_of all (shown_pairs all (in_order (map_list group_first (unlisted_of listed keys))))

-- entries, of which the last has a key that none before it has
from_entries-push_new : (es : List ((ℕ × ℕ) × EntryValue)) (exact : (ℕ × ℕ) × EntryValue)
    → is_some (map.get (map.from_entries {R = key_cmp} es) exact.0) ≡ false
    → map.from_entries {R = key_cmp} (es ++ exact ∷ [])
    ≡ map.insert (map.from_entries es) exact.0 exact.1
from_entries-push_new es exact none =
    map.from_entries_push key_cmp-total key_cmp-antisymmetric es exact.0 exact.1
    (sym (map.get-from_entries key_cmp-total es exact.0)
    ∙ None-from_is_some_false (map.get (map.from_entries {R = key_cmp} es) exact.0) none)

-- what is found stays found with one more behind it
find-push_found : (q : ℕ × ℕ) (es : List ((ℕ × ℕ) × EntryValue)) (exact : (ℕ × ℕ) × EntryValue)
    → is_some (map.find key_cmp q es) ≡ true
    → map.find key_cmp q (es ++ exact ∷ []) ≡ map.find key_cmp q es
find-push_found q [] exact there = absurd cc
find-push_found q (e ∷ es) exact there =
    elim (eq_by_cmp key_cmp q e.0) as (λ b. is_some (cond b (Some e.1) (map.find key_cmp q es)) ≡ true
    → cond b (Some e.1) (map.find key_cmp q (es ++ exact ∷ []))
    ≡ cond b (Some e.1) (map.find key_cmp q es)) [
      | true ↦ λ _. refl
      | false ↦ find-push_found q es exact
    ] there

-- and another key isn't found there
find-push_other : (q : ℕ × ℕ) (es : List ((ℕ × ℕ) × EntryValue)) (exact : (ℕ × ℕ) × EntryValue)
    → eq_by_cmp key_cmp q exact.0 ≡ false
    → map.find key_cmp q (es ++ exact ∷ []) ≡ map.find key_cmp q es
find-push_other q [] exact other = ap (λ b. cond b (Some exact.1) None) other
find-push_other q (e ∷ es) exact other =
    ap (cond (eq_by_cmp key_cmp q e.0) (Some e.1)) (find-push_other q es exact other)

-- entries, of which the last has the key of one before it
from_entries-push_repeated : (es : List ((ℕ × ℕ) × EntryValue)) (exact : (ℕ × ℕ) × EntryValue)
    → is_some (map.get (map.from_entries {R = key_cmp} es) exact.0) ≡ true
    → map.from_entries {R = key_cmp} (es ++ exact ∷ []) ≡ map.from_entries es
from_entries-push_repeated es exact there =
    let found : is_some (map.find key_cmp exact.0 es) ≡ true =
    ap is_some (sym (map.get-from_entries key_cmp-total es exact.0)) ∙ there in
    map.same_map key_cmp-total key_cmp-antisymmetric _ _ (λ q.
    map.get-from_entries key_cmp-total (es ++ exact ∷ []) q
    ∙ elim (cases_Bool (eq_by_cmp key_cmp q exact.0)) [
      | inl same ↦ find-push_found q es exact
          (ap (λ (k : ℕ × ℕ). is_some (map.find key_cmp k es)) (same_key-equal q exact.0 same) ∙ found)
      | inr other ↦ find-push_other q es exact other
    ]
    ∙ sym (map.get-from_entries key_cmp-total es q))

module _ (all : Bool) (listed unresolved : List (ℕ × ℕ)) (exacts : List ((ℕ × ℕ) × EntryValue))
    (keys : List (ℕ × ℕ)) (summary : SummarySoFar)
    (before : IsSummaryOfKeys all listed unresolved exacts keys summary) where
  set_has_key-listed : (key : ℕ × ℕ) → set_has_key summary.listed key ≡ is_listed (Some listed) key
  set_has_key-listed key =
      ap (λ l. set_has_key l key) before.listed_is ∙ set_has_key-listed_set (Some listed) key

  -- one more row that may be unresolved
  is_summary-unresolved_more : (own : Option (ℕ × ℕ))
      → IsSummaryOfKeys all listed (unresolved ++ cons_option own []) exacts keys
      (summary_with_unresolved summary own)
  is_summary-unresolved_more None = rw append-nil before
  is_summary-unresolved_more (Some key) = record {
    listed_is = before.listed_is;
    first_listed = before.first_listed;
    unresolved_is = elim (cases_Bool (is_listed (Some listed) key)) [
      | inl is ↦
          ap (λ b. cond b (set.insert summary.unresolved key) summary.unresolved)
          (set_has_key-listed key ∙ is)
          ∙ ap (λ s. set.insert s key) before.unresolved_is
          ∙ sym (set.from_list_push key_cmp-total key_cmp-antisymmetric (listed_of listed unresolved) key)
          ∙ ap (λ l. set.from_list l) (sym (filter-push_passing (is_listed (Some listed)) unresolved key is))
      | inr other ↦
          ap (λ b. cond b (set.insert summary.unresolved key) summary.unresolved)
          (set_has_key-listed key ∙ other)
          ∙ before.unresolved_is
          ∙ ap (λ l. set.from_list l)
          (sym (filter-push_failing (is_listed (Some listed)) unresolved key other))
    ];
    first_is = before.first_is;
    unlisted_is = before.unlisted_is;
    lowest_is = before.lowest_is;
  }

  -- one more row that may be for every source
  is_summary-every_source_more : (own : Option ((ℕ × ℕ) × EntryValue))
      → IsSummaryOfKeys all listed unresolved (exacts ++ cons_option own []) keys
      (summary_with_every_source summary own)
  is_summary-every_source_more None = rw append-nil before
  is_summary-every_source_more (Some exact) =
      let groups = keys_for_every_source listed in
      let old = summary.first in
      let first = listed_entries_of groups exacts in
      let one = with_first_entry old exact.0 exact.1 in
      let there = is_some (map.get old.table.entries exact.0) in
      let known : set_has_key old.listed exact.0 ≡ is_listed (Some groups) exact.0 =
      ap (λ l. set_has_key l exact.0) before.first_listed ∙ set_has_key-listed_set (Some groups) exact.0 in
      let kept : with_entry_if_new old exact.0 exact.1
      ≡ cond (is_listed (Some groups) exact.0 && not there) one old =
      ap (λ b. cond (b && not there) one old) known in
      let has_it : is_some (map.get (map.from_entries {R = key_cmp} first) exact.0) ≡ there =
      ap (λ (m : map.FinMap key_cmp EntryValue). is_some (map.get m exact.0)) (sym before.first_is) in
      let more : List ((ℕ × ℕ) × EntryValue) → Type 0 = λ l.
      (cond (is_listed (Some groups) exact.0 && not there) one old).table.entries
      ≡ map.from_entries l in
      record {
        listed_is = before.listed_is;
        first_listed = ap (λ (k : KeptRowsValue). k.listed) kept
            ∙ elim (is_listed (Some groups) exact.0 && not there) as (λ b.
            (cond b one old).listed ≡ listed_set (Some groups)) [
              | true ↦ before.first_listed
              | false ↦ before.first_listed
            ];
        unresolved_is = before.unresolved_is;
        first_is = ap (λ (k : KeptRowsValue). k.table.entries) kept
            ∙ elim (cases_Bool (is_listed (Some groups) exact.0)) [
              | inr other ↦
                  ap (λ b. (cond (b && not there) one old).table.entries) other
                  ∙ before.first_is
                  ∙ ap (λ l. map.from_entries l)
                  (sym (filter-push_failing (λ e. is_listed (Some groups) e.0) exacts exact other))
              | inl is ↦
                  ap (λ b. (cond (b && not there) one old).table.entries) is
                  ∙ elim (cases_Bool there) [
                    | inl again ↦
                        ap (λ b. (cond (not b) one old).table.entries) again
                        ∙ before.first_is
                        ∙ sym (from_entries-push_repeated first exact (has_it ∙ again))
                    | inr new ↦
                        ap (λ b. (cond (not b) one old).table.entries) new
                        ∙ ap (λ (m : map.FinMap key_cmp EntryValue). map.insert m exact.0 exact.1)
                        before.first_is
                        ∙ sym (from_entries-push_new first exact (has_it ∙ new))
                  ]
                  ∙ ap (λ l. map.from_entries l)
                  (sym (filter-push_passing (λ e. is_listed (Some groups) e.0) exacts exact is))
            ];
        unlisted_is = before.unlisted_is;
        lowest_is = before.lowest_is;
      }

  -- one more row that may be for one source
  is_summary-key_more : (own : Option (ℕ × ℕ))
      → IsSummaryOfKeys all listed unresolved exacts (keys ++ cons_option own [])
      (summary_with_exact summary own)
  is_summary-key_more None = rw append-nil before
  is_summary-key_more (Some key) =
      let passes : ℕ × ℕ → Bool = λ k. not (is_listed (Some listed) k) in
      elim (cases_Bool (is_listed (Some listed) key)) [
        | inl is ↦
            rw (set_has_key-listed key ∙ is) (record {
              listed_is = before.listed_is;
              first_listed = before.first_listed;
              unresolved_is = before.unresolved_is;
              first_is = before.first_is;
              unlisted_is = before.unlisted_is
                  ∙ ap length (sym (filter-push_failing passes keys key (ap not is)));
              lowest_is = before.lowest_is
                  ∙ ap (λ l. kept_pairs_of all (shown_pairs all (in_order (map_list group_first l))))
                  (sym (filter-push_failing passes keys key (ap not is)));
            })
        | inr other ↦
            rw (set_has_key-listed key ∙ other) (record {
              listed_is = before.listed_is;
              first_listed = before.first_listed;
              unresolved_is = before.unresolved_is;
              first_is = before.first_is;
              unlisted_is = ap (λ n. n + 1) before.unlisted_is
                  ∙ sym (length_push (unlisted_of listed keys) key)
                  ∙ ap length (sym (filter-push_passing passes keys key (ap not other)));
              lowest_is = ap (with_pair (group_first key)) before.lowest_is
                  ∙ ap (kept_pairs_of all)
                  (sym (shown_pairs-push all (map_list group_first (unlisted_of listed keys))
                  (group_first key)))
                  ∙ ap (λ l. kept_pairs_of all (shown_pairs all (in_order l)))
                  (sym (map-append group_first (unlisted_of listed keys) (key ∷ [])))
                  ∙ ap (λ l. kept_pairs_of all (shown_pairs all (in_order (map_list group_first l))))
                  (sym (filter-push_passing passes keys key (ap not other)));
            })
      ]

-- the summary so far is that of these rows
abbrev IsSummaryOfRows : Bool → List (ℕ × ℕ) → List RowValue → SummarySoFar → Type 0
IsSummaryOfRows all listed rows summary =
    IsSummaryOfKeys all listed (filter_map unresolved_key rows) (filter_map every_source_entry rows)
    (filter_map key_of rows) summary

-- with one more row
is_summary-row_more : (all : Bool) (listed : List (ℕ × ℕ)) (rows : List RowValue) (row : RowValue)
    (summary : SummarySoFar)
    → IsSummaryOfRows all listed rows summary
    → IsSummaryOfRows all listed (rows ++ row ∷ []) (summary_with_row summary row)
is_summary-row_more all listed rows row summary before =
    let us = filter_map unresolved_key rows in
    let es = filter_map every_source_entry rows in
    let ks = filter_map key_of rows in
    let u = unresolved_key row in
    let e = every_source_entry row in
    let first = is_summary-unresolved_more all listed us es ks summary before u in
    let second = is_summary-every_source_more all listed (us ++ cons_option u []) es ks
    (summary_with_unresolved summary u) first e in
    let third = is_summary-key_more all listed (us ++ cons_option u []) (es ++ cons_option e []) ks
    (summary_with_every_source (summary_with_unresolved summary u) e) second (key_of row) in
    rw (
      filter_map-append unresolved_key rows (row ∷ []),
      filter_map-append every_source_entry rows (row ∷ []),
      filter_map-append key_of rows (row ∷ []),
    ) third

-- the summary of no rows
is_summary-none : (all : Bool) (listed : List (ℕ × ℕ))
    → IsSummaryOfRows all listed [] (empty_summary all listed)
is_summary-none all listed = record {
  listed_is = refl;
  first_listed = refl;
  unresolved_is = refl;
  first_is = refl;
  unlisted_is = refl;
  lowest_is = ap (kept_pairs_of all) (shown_pairs-none all);
}

-- the summary when all rows have been read
finished_summary-of_rows : (all : Bool) (listed : List (ℕ × ℕ)) (rows : List RowValue)
    (summary : SummarySoFar)
    → IsSummaryOfRows all listed rows summary → finished_summary summary ≡ summary_of all listed rows
finished_summary-of_rows all listed rows summary summarizes =
    rw (summarizes.unresolved_is, summarizes.first_is, summarizes.unlisted_is, summarizes.lowest_is) refl

-- ---- the summary of a text's rows

-- a line that is read after others is read as a row
pub row_in_line-words : (order : Order) (earlier : List RowValue) (line : LineText) (row : RowValue)
    → row_in_line order earlier line ≡ Ok row → row_in_words order (words_of line.bytes) ≡ Ok row
unfolding row_in_line
row_in_line-words order earlier line row is =
    let words = words_of line.bytes in
    let judge : RowValue → Result RowValue TableFaultKind = λ r.
    demand (not (entry_repeats earlier r)) RepeatedEntry >>= λ _. Ok r in
    let ended = demand-bind_ok line.ended Unended
    (λ _. demand (nat_lt (length earlier) 65536) TooLarge
    >>= λ _. row_in_words order words >>= judge) row is in
    let room = demand-bind_ok (nat_lt (length earlier) 65536) TooLarge
    (λ _. row_in_words order words >>= judge) row ended.1 in
    let read = bind_ok (row_in_words order words) judge row room.1 in
    let kept = demand-bind_ok (not (entry_repeats earlier read.0)) RepeatedEntry (λ _. Ok read.0) row
    read.2 in
    read.1 ∙ kept.1

-- the lines after some rows
is_summary-lines : (all : Bool) (order : Order) (listed : List (ℕ × ℕ)) (lines : List LineText)
    (earlier rows : List RowValue) (summary : SummarySoFar) → IsSummaryOfRows all listed earlier summary
    → rows_after (row_at_line order) earlier lines ≡ Ok rows
    → IsSummaryOfRows all listed rows (summary_of_lines order summary lines)
is_summary-lines all order listed [] earlier rows summary summarizes is =
    subst (λ (r : List RowValue). IsSummaryOfRows all listed r summary)
    (ok_injective {E = TableFault} earlier rows is) summarizes
is_summary-lines all order listed (line ∷ lines) earlier rows summary summarizes is =
    let read = bind_ok (row_at_line order earlier line)
    (λ row. rows_after (row_at_line order) (earlier ++ row ∷ []) lines) rows is in
    let row = read.0 in
    let words : row_in_words order (words_of line.bytes) ≡ Ok row =
    row_in_line-words order earlier line row
    (at_line-ok line.number (row_in_line order earlier line) row read.1) in
    let summarized : summary_with_line order summary line ≡ summary_with_row summary row =
    ap (summary_with_read summary) words in
    is_summary-lines all order listed lines (earlier ++ row ∷ []) rows (summary_with_line order summary line)
    (subst (λ (n : SummarySoFar). IsSummaryOfRows all listed (earlier ++ row ∷ []) n) (sym summarized)
    (is_summary-row_more all listed earlier row summary summarizes)) read.2

-- the lines after a header
lines_after_header-drop : (lines rest : List LineText) → lines_after_header (codes "Group") lines ≡ Ok rest
    → drop 1 lines ≡ rest
lines_after_header-drop [] rest is = absurd cc
lines_after_header-drop (header ∷ lines) rest is =
    let read = bind_ok (at_line 1 (header_line (codes "Group") header)) (λ _. Ok lines) rest is in
    ok_injective {E = TableFault} lines rest read.2

-- fed to a new reader, a text is read as the whole text
pub summary_if-start : (all : Bool) (order : Order) (listed : List (ℕ × ℕ)) (text : List ℕ)
    → length text ≤ 16777216
    → summary_if (summary_start all order listed) text ≡ summary_in all order listed text
summary_if-start all order listed text within =
    let fits : nat_lt 16777216 (length text) ≡ false = le-ltb 16777216 (length text) within in
    let start = summary_rows_start all order listed in
    let left = drop 1 (lines_of text) in
    lines_after_header-summary_from start (lines_of text)
    ∙ ap (λ r. r >>= with_summary order (empty_summary all listed) left)
    (cache_if-start order (Some listed) text within)
    ∙ elim (cache_rows_in order text) as (λ r. cache_rows_in order text ≡ r
    → ((r >>= λ rows. Ok (table_of (kept_rows (Some listed) rows)))
    >>= with_summary order (empty_summary all listed) left)
    ≡ (r >>= λ rows. Ok (record {
      table = table_of (kept_rows (Some listed) rows);
      summary = summary_of all listed rows;
    }))) [
      | Err fault ↦ λ is. refl
      | Ok rows ↦ λ is.
          let read = bind_ok (lines_after_header (codes "Group") (lines_of text))
          (rows_after (row_at_line order) [])
          rows (rw fits at is) in
          let summarizes = is_summary-lines all order listed left [] rows (empty_summary all listed)
          (is_summary-none all listed)
          (ap (rows_after (row_at_line order) []) (lines_after_header-drop (lines_of text) read.0 read.1)
          ∙ read.2) in
          ap (λ n. Ok (record { table = table_of (kept_rows (Some listed) rows); summary = n }))
          (finished_summary-of_rows all listed rows
          (summary_of_lines order (empty_summary all listed) left) summarizes)
    ] refl

-- ---- what a summary says of the rows

-- the table is that without the summary
pub table_without_summary-listed_in : (all : Bool) (order : Order) (listed : List (ℕ × ℕ)) (text : List ℕ)
    → listed_in order (Some listed) text
    ≡ table_without_summary (summary_in all order listed text)
table_without_summary-listed_in all order listed text =
    elim (cache_rows_in order text) as (λ r.
    (r >>= λ rows. Ok (table_of (kept_rows (Some listed) rows)))
    ≡ table_without_summary (r >>= λ rows. Ok (record {
      table = table_of (kept_rows (Some listed) rows);
      summary = summary_of all listed rows;
    }))) [
      | Err fault ↦ refl
      | Ok rows ↦ refl
    ]

-- a listed key is not the same as one that isn't listed
is_listed-unlisted_key : (listed : List (ℕ × ℕ)) (key k : ℕ × ℕ) (b : Bool)
    → is_listed (Some listed) k ≡ false
    → (is_listed (Some listed) key && b) ≡ (is_listed (Some listed) key && (same_key key k || b))
is_listed-unlisted_key listed key k b other =
    elim (cases_Bool (same_key key k)) [
      | inl same ↦
          let none : is_listed (Some listed) key ≡ false =
          ap (is_listed (Some listed)) (same_key-equal key k same) ∙ other in
          rw none refl
      | inr differs ↦ ap (λ c. is_listed (Some listed) key && (c || b)) (sym differs)
    ]

-- a key that is the same as a listed one is listed
is_listed-listed_key : (listed : List (ℕ × ℕ)) (key k : ℕ × ℕ) (b : Bool) → is_listed (Some listed) k ≡ true
    → (same_key key k || (is_listed (Some listed) key && b))
    ≡ (is_listed (Some listed) key && (same_key key k || b))
is_listed-listed_key listed key k b is =
    elim (cases_Bool (same_key key k)) [
      | inl same ↦
          let own : is_listed (Some listed) key ≡ true =
          ap (is_listed (Some listed)) (same_key-equal key k same) ∙ is in
          rw (same, own) refl
      | inr differs ↦ rw differs refl
    ]

-- a key is among the listed keys of some exactly if it is listed and among them
list_any-listed_of : (listed keys : List (ℕ × ℕ)) (key : ℕ × ℕ)
    → list_any (same_key key) (listed_of listed keys)
    ≡ (is_listed (Some listed) key && list_any (same_key key) keys)
list_any-listed_of listed [] key = sym (and-false (is_listed (Some listed) key))
list_any-listed_of listed (k ∷ keys) key =
    let rest = list_any (same_key key) keys in
    elim (cases_Bool (is_listed (Some listed) k)) [
      | inl is ↦
          ap (λ b. list_any (same_key key) (cond b (k ∷ listed_of listed keys) (listed_of listed keys))) is
          ∙ ap (λ b. same_key key k || b) (list_any-listed_of listed keys key)
          ∙ is_listed-listed_key listed key k rest is
      | inr other ↦
          ap (λ b. list_any (same_key key) (cond b (k ∷ listed_of listed keys) (listed_of listed keys))) other
          ∙ list_any-listed_of listed keys key
          ∙ is_listed-unlisted_key listed key k rest other
    ]

-- the summary has a key as unresolved exactly if it is listed and an unresolved row has it
pub summary_of-unresolved : (all : Bool) (listed : List (ℕ × ℕ)) (rows : List RowValue) (key : ℕ × ℕ)
    → set.contains (summary_of all listed rows).unresolved key
    ≡ (is_listed (Some listed) key && list_any (same_key key) (filter_map unresolved_key rows))
summary_of-unresolved all listed rows key =
    set.contains-from_list key_cmp-total (listed_of listed (filter_map unresolved_key rows)) key
    ∙ list_any-listed_of listed (filter_map unresolved_key rows) key

-- a listed key is found among the listed ones as among all
find-listed_entries : (listed : List (ℕ × ℕ)) (es : List ((ℕ × ℕ) × EntryValue)) (key : ℕ × ℕ)
    → is_listed (Some listed) key ≡ true
    → map.find key_cmp key (listed_entries_of listed es) ≡ map.find key_cmp key es
find-listed_entries listed [] key is = refl
find-listed_entries listed (e ∷ es) key is =
    let rest = listed_entries_of listed es in
    elim (cases_Bool (is_listed (Some listed) e.0)) [
      | inl passes ↦
          ap (λ b. map.find key_cmp key (cond b (e ∷ rest) rest)) passes
          ∙ ap (cond (same_key key e.0) (Some e.1)) (find-listed_entries listed es key is)
      | inr other ↦
          let differs = same_key-listed_differs (Some listed) key e.0 true is other in
          ap (λ b. map.find key_cmp key (cond b (e ∷ rest) rest)) other
          ∙ find-listed_entries listed es key is
          ∙ ap (λ b. cond b (Some e.1) (map.find key_cmp key es)) (sym differs)
    ]

-- at a listed group the summary has the first entry for every source
pub summary_of-every_source : (all : Bool) (listed : List (ℕ × ℕ)) (rows : List RowValue) (group : ℕ)
    → is_listed (Some (keys_for_every_source listed)) (0, group) ≡ true
    → map.get (summary_of all listed rows).for_every_source (0, group)
    ≡ map.find key_cmp (0, group) (filter_map every_source_entry rows)
summary_of-every_source all listed rows group is =
    let es = filter_map every_source_entry rows in
    map.get-from_entries key_cmp-total (listed_entries_of (keys_for_every_source listed) es) (0, group)
    ∙ find-listed_entries (keys_for_every_source listed) es (0, group) is
