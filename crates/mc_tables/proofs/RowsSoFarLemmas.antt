-- Reading a cache in pieces, of which the rows of listed sources and groups are kept.
use Rattle.std.proofs.Common.{◌≡◌, ℕ, ◌+◌, ◌≤◌, Bool, true, false, cond, eqb, List, [], ◌∷◌, ◌++◌}
use Rattle.std.proofs.Common.{length, arith, Some, None, Result, Ok, Err, refl, sym, ap, subst}
use Rattle.std.proofs.Common.{◌∙◌, inl, inr}
use Rattle.std.specs.Prelude.{◌⊎◌, nat_lt, not, filter, map, codes}
use Rattle.std.specs.List.{filter_map, cons_option, list_any, slice_split}
use Rattle.std.proofs.lemmas.Bool.{cases_Bool, le-ltb}
use Rattle.std.proofs.lemmas.Bool.Decides.{nat_tests}
use Rattle.std.proofs.lemmas.List.{append-nil, length-append, map-append}
use Rattle.std.proofs.lemmas.List.Elements.{filter-append, filter_map-append}
use Rattle.mc_text.specs.declared.text.addr.Order.{Order}
use Rattle.mc_text.specs.Lines.{LineText, numbered, lines_of}
use Rattle.mc_text.specs.Lines.{words_of}
use Rattle.mc_tables.specs.declared.fault.TableFault.{TableFault}
use Rattle.mc_tables.specs.declared.fault.TableFaultKind.{TableFaultKind}
use Rattle.mc_tables.specs.declared.fault.TableFaultKind.TheVariants.{Unended, RepeatedEntry}
use Rattle.mc_tables.specs.declared.fault.TableFaultKind.TheVariants.{TooLarge}
use Rattle.mc_text.specs.Steps.{◌>>=◌}
use Rattle.mc_tables.specs.Steps.{demand, at_line}
use Rattle.mc_tables.specs.TableLines.{is_among, lines_after_header, rows_after}
use Rattle.mc_tables.specs.LinesSoFar.{header_line, ReadsInSteps}
use Rattle.mc_tables.specs.CacheTable.{RowValue, CacheValue, same_key}
use Rattle.mc_tables.specs.CacheTable.{key_of, table_of}
use Rattle.mc_tables.specs.CacheReading.{row_in_words, entry_repeats, row_in_line, row_at_line}
use Rattle.mc_tables.specs.CacheSteps.{row_with_room, row_added}
use Rattle.mc_tables.specs.ListedRows.{Listed, is_kept, kept_rows, listed_in}
use Rattle.mc_tables.specs.ListedRows.{listed_set, is_kept_by_set}
use Rattle.mc_tables.specs.UnlistedRows.{UnlistedRow, first_repeat, repeat_fault}
use Rattle.mc_tables.specs.RowsSoFar.{refusal_at, first_of_faults}
use Rattle.mc_tables.specs.RowsSoFar.{RowsSoFar, unlisted_added, kept_added, any_row_added, ListedRowsSoFar}
use Rattle.mc_tables.specs.RowsSoFar.{rows_start, row_added_so_far, line_added, first_fault, row_step}
use Rattle.mc_tables.specs.RowsSoFar.{table_from, cache_start, cache_if}
use Rattle.mc_text.proofs.StepLemmas.{bind_ok, ok_injective}
use Rattle.mc_tables.proofs.CacheStepLemmas.{row_added-table_of}
use Rattle.mc_tables.proofs.ListedLemmas.{is_kept_by_set-listed_set}
use Rattle.mc_tables.proofs.UnlistedRowLemmas.{first_repeat-none, AreBefore, are_before-next, are_before-push}
use Rattle.mc_tables.proofs.UnlistedRowLemmas.{first_repeat-stays, first_repeat-begins}
use Rattle.mc_tables.proofs.KeptRowLemmas.{is_among-kept_rows, any_key-unlisted_rows, key_of-unlisted_row}
use Rattle.mc_tables.proofs.KeptRowLemmas.{unlisted_row_keys}

-- ---- row by row

-- a step that may fail, and two that don't
bind-demand_twice : {A B C E : Type 0} (b : Bool) (d : E) (x : A) (f : A → B) (g : B → C)
    → (((demand b d >>= λ _. Ok x) >>= λ a. Ok (f a)) >>= λ y. Ok (g y))
    ≡ ((demand b d >>= λ _. Ok (f x)) >>= λ y. Ok (g y))
bind-demand_twice true d x f g = refl
bind-demand_twice false d x f g = refl

-- a filter's result with one more element that passes, and with one that doesn't
pub filter-push_passing : {X : Type 0} (p : X → Bool) (xs : List X) (x : X) → p x ≡ true
    → filter p (xs ++ x ∷ []) ≡ filter p xs ++ x ∷ []
filter-push_passing p xs x is =
    filter-append p xs (x ∷ []) ∙ ap (λ b. filter p xs ++ cond b (x ∷ []) []) is

pub filter-push_failing : {X : Type 0} (p : X → Bool) (xs : List X) (x : X) → p x ≡ false
    → filter p (xs ++ x ∷ []) ≡ filter p xs
filter-push_failing p xs x is =
    filter-append p xs (x ∷ []) ∙ ap (λ b. filter p xs ++ cond b (x ∷ []) []) is
    ∙ append-nil (filter p xs)

-- the keys of rows with one more
filter_map_key_of-push : (rows : List RowValue) (row : RowValue) (key : ℕ × ℕ) → key_of row ≡ Some key
    → filter_map key_of (rows ++ row ∷ []) ≡ filter_map key_of rows ++ key ∷ []
filter_map_key_of-push rows row key is =
    filter_map-append key_of rows (row ∷ [])
    ∙ ap (λ k. filter_map key_of rows ++ cons_option k []) is

-- one more row that is kept isn't among the others
unlisted_row_keys-push_kept : (listed : Listed) (rows : List RowValue) (row : RowValue)
    → is_kept listed row ≡ true
    → unlisted_row_keys listed (rows ++ row ∷ []) ≡ unlisted_row_keys listed rows
unlisted_row_keys-push_kept listed rows row is =
    ap (filter_map key_of) (filter-push_failing (λ r. not (is_kept listed r)) rows row (ap not is))

-- one more row that isn't kept is among the others
unlisted_row_keys-push : (listed : Listed) (rows : List RowValue) (row : RowValue) (key : ℕ × ℕ)
    → is_kept listed row ≡ false → key_of row ≡ Some key
    → unlisted_row_keys listed (rows ++ row ∷ []) ≡ unlisted_row_keys listed rows ++ key ∷ []
unlisted_row_keys-push listed rows row key is own =
    ap (filter_map key_of) (filter-push_passing (λ r. not (is_kept listed r)) rows row (ap not is))
    ∙ filter_map_key_of-push (filter (λ r. not (is_kept listed r)) rows) row key own

-- the number of rows with one more
pub length-push_row : (rows : List RowValue) (row : RowValue) → length (rows ++ row ∷ []) ≡ length rows + 1
length-push_row rows row = length-append rows (row ∷ [])

-- ---- lines with their numbers

-- the lines are numbered from this one on
abbrev AreNumberedFrom : ℕ → List LineText → Type 0
AreNumberedFrom n [] = Unit {0}
AreNumberedFrom n (line ∷ lines) = (line.number ≡ n) × AreNumberedFrom (n + 1) lines

-- the lines of a text are
numbered-from : (n : ℕ) (parts : List (List ℕ)) → AreNumberedFrom n (numbered n parts)
numbered-from n [] = tt
numbered-from n ([] ∷ []) = tt
numbered-from n ((b ∷ part) ∷ []) =
    let some : eqb (length (b ∷ part)) 0 ≡ false = grind (arith, nat_tests) in
    rw some (refl, tt)
numbered-from n (part ∷ next ∷ parts) = (refl, numbered-from (n + 1) (next ∷ parts))

-- ---- line by line

-- the rows so far of the rows that were read, with the others of them
abbrev rows_so_far_of : Order → Listed → List RowValue → List UnlistedRow → ListedRowsSoFar
rows_so_far_of order listed rows others = record {
  order = order;
  listed = listed_set listed;
  rows = record { table = table_of (kept_rows listed rows); others = others; count = length rows };
}

-- a line takes no row from the others, and adds at most one
abbrev GrewByAtMostOne : List UnlistedRow → ℕ → List UnlistedRow → Type 0
GrewByAtMostOne others line new =
    (new ≡ others) ⊎ ((key : ℕ × ℕ) × (new ≡ others ++ (key, line) ∷ []))

line_added-grows_unlisted : (so_far new : ListedRowsSoFar) (line : LineText) → line_added so_far line ≡ Ok new
    → GrewByAtMostOne so_far.rows.others line.number new.rows.others
line_added-grows_unlisted so_far new line added =
    let rows = so_far.rows in
    let read = bind_ok (row_with_room so_far.order rows.count line)
    (λ row. row_added_so_far so_far row line.number) new added in
    let row = read.0 in
    let key : ℕ × ℕ = (row.origin, row.group) in
    let make : RowsSoFar → ListedRowsSoFar = λ r.
    record { order = so_far.order; listed = so_far.listed; rows = r } in
    let one = bind_ok (any_row_added so_far.listed rows row line.number) (λ r. Ok (make r)) new read.2 in
    let is : one.0 ≡ new.rows =
    ap (λ (s : ListedRowsSoFar). s.rows) (ok_injective {E = TableFaultKind} (make one.0) new one.2) in
    elim (cases_Bool (is_kept_by_set so_far.listed row)) [
      | inl kept ↦
          let grown : kept_added rows row ≡ Ok one.0 =
          sym (ap (λ b. cond b (kept_added rows row) (Ok (unlisted_added rows key line.number))) kept)
          ∙ one.1 in
          let with : CacheValue → RowsSoFar = λ t.
          record { table = t; others = rows.others; count = rows.count + 1 } in
          let table = bind_ok (row_added rows.table row) (λ t. Ok (with t)) one.0 grown in
          inl (ap (λ (r : RowsSoFar). r.others)
          (sym is ∙ sym (ok_injective {E = TableFaultKind} (with table.0) one.0 table.2)))
      | inr other ↦
          let grown : Ok (unlisted_added rows key line.number) ≡ Ok one.0 =
          sym (ap (λ b. cond b (kept_added rows row) (Ok (unlisted_added rows key line.number))) other)
          ∙ one.1 in
          inr (
            key,
            ap (λ (r : RowsSoFar). r.others)
                (sym is ∙ sym (ok_injective {E = TableFaultKind}
                (unlisted_added rows key line.number) one.0 grown)),
          )
    ]

-- the first repeat stays the first
first_repeat-kept : (others new : List UnlistedRow) (line first : ℕ) → GrewByAtMostOne others line new
    → AreBefore others line → first_repeat others ≡ Some first
    → (first_repeat new ≡ Some first) × AreBefore new (line + 1)
first_repeat-kept others new line first grew before is =
    elim grew [
      | inl same ↦ rw same (is, are_before-next others line before)
      | inr more ↦ rw more.1
          (first_repeat-stays others more.0 line first before is, are_before-push others more.0 line before)
    ]

-- if one of the others is a repeat, the first one is the fault, whatever lines follow
table_from-repeat_fault : (so_far : ListedRowsSoFar) (lines : List LineText) (n first : ℕ)
    → AreNumberedFrom n lines
    → AreBefore so_far.rows.others n → first_repeat so_far.rows.others ≡ Some first
    → table_from so_far lines ≡ Err (record { line = first; kind = RepeatedEntry })
table_from-repeat_fault so_far [] n first numbered before is = rw is refl
table_from-repeat_fault so_far (line ∷ lines) n first numbered before is =
    let others = so_far.rows.others in
    elim (line_added so_far line) as (λ r. line_added so_far line ≡ r →
    (first_fault others (at_line line.number r) >>= λ more. table_from more lines)
    ≡ Err (record { line = first; kind = RepeatedEntry })) [
      | Err kind ↦ λ _. rw is refl
      | Ok more ↦ λ added.
          let grew = subst (λ k. GrewByAtMostOne others k more.rows.others) numbered.0
          (line_added-grows_unlisted so_far more line added) in
          let kept = first_repeat-kept others more.rows.others n first grew before is in
          table_from-repeat_fault more lines (n + 1) first numbered.1 kept.1 kept.0
    ] refl

-- what lines after some rows are read as
abbrev table_after : Order → Listed → List RowValue → List LineText → Result CacheValue TableFault
table_after order listed rows lines =
    rows_after (row_at_line order) rows lines >>= λ all. Ok (table_of (kept_rows listed all))

-- the same if none of the rows is a repeat
abbrev ReadsAfter : Order → Listed → List RowValue → List LineText → ℕ → Type 0
ReadsAfter order listed rows lines n =
    (others : List UnlistedRow) → map (λ (r : UnlistedRow). r.0) others ≡ unlisted_row_keys listed rows
    → AreBefore others n → first_repeat others ≡ None
    → table_from (rows_so_far_of order listed rows others) lines ≡ table_after order listed rows lines

-- a row that was read, kept or not
module _ (order : Order) (listed : Listed) (lines : List LineText) (n : ℕ) (rows : List RowValue)
    (row : RowValue) (others : List UnlistedRow)
    (keys : map (λ (r : UnlistedRow). r.0) others ≡ unlisted_row_keys listed rows)
    (before : AreBefore others n) (none : first_repeat others ≡ None)
    (numbered : AreNumberedFrom (n + 1) lines)
    (rest : ReadsAfter order listed (rows ++ row ∷ []) lines (n + 1)) where
  -- what is to be shown of it
  abbrev ReadsOn : Result ListedRowsSoFar TableFaultKind → Type 0
  ReadsOn added =
      (first_fault others (at_line n added) >>= λ more. table_from more lines)
      ≡ ((at_line n (demand (not (entry_repeats rows row)) RepeatedEntry >>= λ _. Ok row)
      >>= λ row. rows_after (row_at_line order) (rows ++ row ∷ []) lines)
      >>= λ all. Ok (table_of (kept_rows listed all)))

  -- a row that is kept
  kept_row-reads_on : is_kept listed row ≡ true
      → ReadsOn (row_added_so_far (rows_so_far_of order listed rows others) row n)
  kept_row-reads_on kept =
      let so_far = rows_so_far_of order listed rows others in
      let repeats : entry_repeats (kept_rows listed rows) row ≡ entry_repeats rows row =
      is_among-kept_rows listed rows (key_of row) kept in
      let with : CacheValue → RowsSoFar = λ t.
      record { table = t; others = others; count = length rows + 1 } in
      let make : RowsSoFar → ListedRowsSoFar = λ r.
      record { order = order; listed = listed_set listed; rows = r } in
      let grown : row_added_so_far so_far row n
      ≡ ((demand (not (entry_repeats rows row)) RepeatedEntry
      >>= λ _. Ok (with (table_of (kept_rows listed rows ++ row ∷ [])))) >>= λ r. Ok (make r)) =
      ap (λ b. cond b (kept_added so_far.rows row)
      (Ok (unlisted_added so_far.rows (row.origin, row.group) n)) >>= λ r. Ok (make r))
      (is_kept_by_set-listed_set listed row ∙ kept)
      ∙ ap (λ r. (r >>= λ t. Ok (with t)) >>= λ r. Ok (make r))
      (row_added-table_of (kept_rows listed rows) row)
      ∙ ap (λ b. ((demand (not b) RepeatedEntry
      >>= λ _. Ok (table_of (kept_rows listed rows ++ row ∷ []))) >>= λ t. Ok (with t))
      >>= λ r. Ok (make r)) repeats
      ∙ bind-demand_twice (not (entry_repeats rows row)) RepeatedEntry
      (table_of (kept_rows listed rows ++ row ∷ [])) with make in
      let whole : make (with (table_of (kept_rows listed rows ++ row ∷ [])))
      ≡ rows_so_far_of order listed (rows ++ row ∷ []) others =
      ap (λ k. make (record { table = table_of k; others = others; count = length rows + 1 }))
      (sym (filter-push_passing (is_kept listed) rows row kept))
      ∙ ap (λ c. make (record {
        table = table_of (kept_rows listed (rows ++ row ∷ []));
        others = others;
        count = c;
      })) (sym (length-push_row rows row)) in
      subst ReadsOn (sym grown) (elim (entry_repeats rows row) as (λ b.
      (first_fault others (at_line n ((demand (not b) RepeatedEntry
      >>= λ _. Ok (with (table_of (kept_rows listed rows ++ row ∷ [])))) >>= λ r. Ok (make r)))
      >>= λ more. table_from more lines)
      ≡ ((at_line n (demand (not b) RepeatedEntry >>= λ _. Ok row)
      >>= λ row. rows_after (row_at_line order) (rows ++ row ∷ []) lines)
      >>= λ all. Ok (table_of (kept_rows listed all)))) [
        | true ↦ rw none refl
        | false ↦ ap (λ s. table_from s lines) whole
            ∙ rest others (keys ∙ sym (unlisted_row_keys-push_kept listed rows row kept))
            (are_before-next others n before) none
      ])

  -- a row that isn't kept
  unlisted_row-reads_on : is_kept listed row ≡ false
      → ReadsOn (row_added_so_far (rows_so_far_of order listed rows others) row n)
  unlisted_row-reads_on other =
      let key : ℕ × ℕ = (row.origin, row.group) in
      let so_far = rows_so_far_of order listed rows others in
      let own = key_of-unlisted_row listed row (eqb row.origin 0) row.entry other in
      let new = others ++ (key, n) ∷ [] in
      let make : RowsSoFar → ListedRowsSoFar = λ r.
      record { order = order; listed = listed_set listed; rows = r } in
      let grown : row_added_so_far so_far row n ≡ Ok (make (unlisted_added so_far.rows key n)) =
      ap (λ b. cond b (kept_added so_far.rows row) (Ok (unlisted_added so_far.rows key n))
      >>= λ r. Ok (make r)) (is_kept_by_set-listed_set listed row ∙ other) in
      let whole : make (unlisted_added so_far.rows key n)
      ≡ rows_so_far_of order listed (rows ++ row ∷ []) new =
      ap (λ k. make (record { table = table_of k; others = new; count = length rows + 1 }))
      (sym (filter-push_failing (is_kept listed) rows row other))
      ∙ ap (λ c. make (record {
        table = table_of (kept_rows listed (rows ++ row ∷ []));
        others = new;
        count = c;
      })) (sym (length-push_row rows row)) in
      let among : list_any (same_key key) (map (λ (r : UnlistedRow). r.0) others) ≡ entry_repeats rows row =
      ap (list_any (same_key key)) keys
      ∙ any_key-unlisted_rows listed key rows own.1
      ∙ ap (λ k. is_among same_key k (filter_map key_of rows)) (sym own.0) in
      let begins : first_repeat new ≡ cond (entry_repeats rows row) (Some n) None =
      first_repeat-begins others key n before none ∙ ap (λ b. cond b (Some n) None) among in
      subst ReadsOn (sym grown) (ap (λ s. table_from s lines) whole
      ∙ elim (entry_repeats rows row) as (λ b. first_repeat new ≡ cond b (Some n) None →
      table_from (rows_so_far_of order listed (rows ++ row ∷ []) new) lines
      ≡ ((at_line n (demand (not b) RepeatedEntry >>= λ _. Ok row)
      >>= λ row. rows_after (row_at_line order) (rows ++ row ∷ []) lines)
      >>= λ all. Ok (table_of (kept_rows listed all)))) [
        | true ↦ λ is. table_from-repeat_fault (rows_so_far_of order listed (rows ++ row ∷ []) new) lines
            (n + 1) n
            numbered (are_before-push others key n before) is
        | false ↦ λ is. rest new
            (map-append (λ (r : UnlistedRow). r.0) others ((key, n) ∷ [])
            ∙ ap (λ k. k ++ key ∷ []) keys
            ∙ sym (unlisted_row_keys-push listed rows row key other own.0))
            (are_before-push others key n before) is
      ] begins)

  row-reads_on : ReadsOn (row_added_so_far (rows_so_far_of order listed rows others) row n)
  row-reads_on =
      elim (cases_Bool (is_kept listed row)) [
        | inl kept ↦ kept_row-reads_on kept
        | inr other ↦ unlisted_row-reads_on other
      ]

-- a row that was read, if it was
row_words-reads_on : (order : Order) (listed : Listed) (lines : List LineText) (n : ℕ)
    (rows : List RowValue) (others : List UnlistedRow)
    → map (λ (r : UnlistedRow). r.0) others ≡ unlisted_row_keys listed rows → AreBefore others n
    → first_repeat others ≡ None → AreNumberedFrom (n + 1) lines
    → ((row : RowValue) → ReadsAfter order listed (rows ++ row ∷ []) lines (n + 1))
    → (read : Result RowValue TableFaultKind)
    → (first_fault others (at_line n (read >>= λ row.
    row_added_so_far (rows_so_far_of order listed rows others) row n)) >>= λ more. table_from more lines)
    ≡ ((at_line n (read >>= λ row. demand (not (entry_repeats rows row)) RepeatedEntry
    >>= λ _. Ok row) >>= λ row. rows_after (row_at_line order) (rows ++ row ∷ []) lines)
    >>= λ all. Ok (table_of (kept_rows listed all)))
row_words-reads_on order listed lines n rows others keys before none numbered rest (Err kind) = rw none refl
row_words-reads_on order listed lines n rows others keys before none numbered rest (Ok row) =
    row-reads_on order listed lines n rows row others keys before none numbered (rest row)

-- a line after the rows so far is read as after the rows
line-reads_on : (order : Order) (listed : Listed) (line : LineText) (lines : List LineText)
    (rows : List RowValue) (others : List UnlistedRow)
    → map (λ (r : UnlistedRow). r.0) others ≡ unlisted_row_keys listed rows
    → AreBefore others line.number → first_repeat others ≡ None → AreNumberedFrom (line.number + 1) lines
    → ((row : RowValue) → ReadsAfter order listed (rows ++ row ∷ []) lines (line.number + 1))
    → table_from (rows_so_far_of order listed rows others) (line ∷ lines)
    ≡ table_after order listed rows (line ∷ lines)
unfolding row_in_line
line-reads_on order listed line lines rows others keys before none numbered rest =
    elim (cases_Bool line.ended) [
      | inr unended_fault ↦ rw (unended_fault, none) refl
      | inl ended ↦ elim (cases_Bool (nat_lt (length rows) 65536)) [
        | inr full ↦ rw (ended, full, none) refl
        | inl room ↦ rw (ended, room) (row_words-reads_on order listed lines line.number rows others keys
            before none numbered rest (row_in_words order (words_of line.bytes)))
      ]
    ]

-- the lines after the rows so far are read as after the rows
table_from-rows : (order : Order) (listed : Listed) (lines : List LineText) (n : ℕ)
    (rows : List RowValue) → AreNumberedFrom n lines → ReadsAfter order listed rows lines n
table_from-rows order listed [] n rows numbered = λ others keys before none. rw none refl
table_from-rows order listed (line ∷ lines) n rows numbered = λ others keys before none.
    let next : line.number + 1 ≡ n + 1 = ap (λ k. k + 1) numbered.0 in
    line-reads_on order listed line lines rows others keys
    (subst (AreBefore others) (sym numbered.0) before) none
    (subst (λ k. AreNumberedFrom k lines) (sym next) numbered.1)
    (λ row. table_from-rows order listed lines (line.number + 1) (rows ++ row ∷ [])
    (subst (λ k. AreNumberedFrom k lines) (sym next) numbered.1))

-- the lines are read one after the other
pub table_reads_in_steps : ReadsInSteps table_from row_step
table_reads_in_steps = record { line = λ so_far line lines. refl }

-- the lines after the header are read from no rows on
lines_after_header-table_from : (order : Order) (listed : Listed) (lines : List LineText)
    → AreNumberedFrom 1 lines
    → (lines_after_header (codes "Group") lines >>= table_from (rows_start order (listed_set listed)))
    ≡ ((lines_after_header (codes "Group") lines >>= rows_after (row_at_line order) [])
    >>= λ all. Ok (table_of (kept_rows listed all)))
lines_after_header-table_from order listed [] numbered = refl
lines_after_header-table_from order listed (header ∷ lines) numbered =
    elim (header_line (codes "Group") header) as (λ r.
    ((at_line 1 r >>= λ _. Ok lines) >>= table_from (rows_start order (listed_set listed)))
    ≡ (((at_line 1 r >>= λ _. Ok lines) >>= rows_after (row_at_line order) [])
    >>= λ all. Ok (table_of (kept_rows listed all)))) [
      | Err kind ↦ refl
      | Ok _ ↦ table_from-rows order listed lines 2 [] numbered.1 [] refl tt first_repeat-none
    ]

-- fed to a new reader, a text is read as the whole text
pub cache_if-start : (order : Order) (listed : Listed) (text : List ℕ) → length text ≤ 16777216
    → cache_if (cache_start order listed) text ≡ listed_in order listed text
cache_if-start order listed text within =
    let fits : nat_lt 16777216 (length text) ≡ false = le-ltb 16777216 (length text) within in
    lines_after_header-table_from order listed (lines_of text)
    (numbered-from 1 (slice_split (λ b. eqb b 10) text))
    ∙ ap (λ b. (cond b (Err (record { line = 0; kind = TooLarge }))
    (lines_after_header (codes "Group") (lines_of text)) >>= rows_after (row_at_line order) [])
    >>= λ all. Ok (table_of (kept_rows listed all))) (sym fits)

-- a line that isn't ended is refused, if no earlier row repeats another
pub table_from-unended : (so_far : ListedRowsSoFar) (number : ℕ) (bytes : List ℕ)
    → table_from so_far (record { number = number; bytes = bytes; ended = false } ∷ [])
    ≡ Err (refusal_at so_far.rows.others number Unended)
table_from-unended so_far number bytes = elim (first_repeat so_far.rows.others) as (λ o.
    ((repeat_fault o >>= λ _. let refused : Result ListedRowsSoFar TableFault =
    Err (record { line = number; kind = Unended }) in refused) >>= λ more. table_from more [])
    ≡ Err (first_of_faults (repeat_fault o) (record { line = number; kind = Unended }))) [
      | None ↦ refl
      | Some line ↦ refl
    ]
