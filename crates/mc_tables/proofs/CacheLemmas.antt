-- What reading a cache gives is what its text denotes.
use Rattle.std.proofs.Common.{◌≡◌, ℕ, ◌<◌, ◌≤◌, true, false, ltb, List, [], ◌∷◌, ◌++◌, length}
use Rattle.std.proofs.Common.{Option, Some, None, Result, Ok, Err, refl, sym, ap, subst, ◌∙◌, inl}
use Rattle.std.proofs.Common.{inr, arith}
use Rattle.std.specs.Prelude.{nat_lt, not, codes, IfOk}
use Rattle.std.specs.Char.{digit_value}
use Rattle.std.specs.Cmp.{IsEquivalence, IsTotalOrder}
use Rattle.std.specs.Option.{ok_or}
use Rattle.std.specs.List.{IsDistinct, filter_map}
use Rattle.std.specs.Str.{bytes_eq}
use Rattle.std.proofs.lemmas.Bool.{cases_Bool, not-true, ltb-true, lt-ltb, false_from_ne_true}
use Rattle.std.proofs.lemmas.Cmp.{nat_cmp_total, on_total, then_total, eq_by_cmp_equiv}
use Rattle.std.proofs.lemmas.List.{length-append}
use Rattle.std.proofs.lemmas.List.Elements.{filter_map-append}
use Rattle.std.proofs.lemmas.Slice.Eq.{bytes_eq-Decides}
use Rattle.mc_text.specs.declared.text.addr.Order.{Order}
use Rattle.mc_text.specs.Lines.{LineText, words_of}
use Rattle.mc_tables.specs.CacheTable.{EntryValue}
use Rattle.mc_tables.specs.declared.fault.TableFault.{TableFault}
use Rattle.mc_tables.specs.declared.fault.TableFaultKind.TheVariants.{Unended, BadCounter}
use Rattle.mc_tables.specs.declared.fault.TableFaultKind.TheVariants.{BadAddress, RepeatedEntry}
use Rattle.mc_tables.specs.declared.fault.TableFaultKind.TheVariants.{TooLarge}
use Rattle.mc_tables.specs.Steps.{out_of_memory}
use Rattle.mc_tables.specs.TableWords.{is_counter, number_in, address_in, WordDenotesNumber}
use Rattle.mc_tables.specs.TableLines.{EachDenotes, lines_in, rows_after}
use Rattle.mc_tables.specs.CacheTable.{RowValue, WordsDenoteEntry, WordsDenoteRow, LineDenotesRow, key_cmp}
use Rattle.mc_tables.specs.CacheTable.{same_key, key_of, DenotesCacheRows, CacheValue, table_of}
use Rattle.mc_tables.specs.CacheTable.{DenotesCache}
use Rattle.mc_tables.specs.CacheReading.{oifs_in, incoming_number, incoming_in, entry_in}
use Rattle.mc_tables.specs.CacheReading.{row_in_words, entry_repeats, row_in_line, row_at_line}
use Rattle.mc_tables.specs.CacheReading.{cache_rows_in, cache_in}
use Rattle.mc_text.proofs.StepLemmas.{bind_ok, ok_or_ok, ok_injective}
use Rattle.mc_tables.proofs.StepLemmas.{demand-bind_ok, at_line-ok}
use Rattle.mc_tables.proofs.WordLemmas.{number_in-denotes, number_in-from_denotes}
use Rattle.mc_tables.proofs.AddressLemmas.{address_in-denotes, address_in-from_denotes}
use Rattle.mc_tables.proofs.KeyLemmas.{is_distinct-push_key, is_among-distinct_before}
use Rattle.mc_tables.proofs.RowLemmas.{lines_in-has_header, lines_in-from_header, ReadsRows}
use Rattle.mc_tables.proofs.RowLemmas.{rows_after-denotes, rows_after-from_denotes}
use Rattle.mc_tables.proofs.OifLemmas.{oifs_in-denotes, oifs_in-from_denotes}

-- ---- the incoming vif and the outgoing ones

-- a number is read as the incoming vif
incoming_number-some : (o i : Option ℕ) → incoming_number o ≡ Ok i → (n : ℕ) × (o ≡ Some n) × (i ≡ Some n)
incoming_number-some None i e = absurd cc
incoming_number-some (Some n) i e = (n, refl, cc)

-- the entry that is read is the one that the words denote
entry_in-denotes : (iif : List ℕ) (outgoing : List (List ℕ)) (i : Option ℕ) (entry : Option EntryValue)
    → incoming_in iif ≡ Ok i → entry_in i outgoing ≡ Ok entry → WordsDenoteEntry iif outgoing entry
entry_in-denotes iif [] None entry incoming e =
    let none : None ≡ entry = ok_injective None entry e in
    elim (cases_Bool (bytes_eq iif (codes "-1"))) [
      | inl is ↦ subst (WordsDenoteEntry iif []) none ((bytes_eq-Decides iif (codes "-1")).0 is, refl)
      | inr other ↦ let n = incoming_number-some (number_in 0 31 iif) None (rw other at incoming) in
          absurd (let wrong_if : None ≡ Some n.0 = n.2 in cc)
    ]
entry_in-denotes iif (word ∷ words) None entry incoming e = absurd cc
entry_in-denotes iif outgoing (Some number) entry incoming e =
    let b = bind_ok (oifs_in outgoing)
    (λ oifs. Ok (Some (record { iif = number; oifs = oifs }))) entry e in
    let made : EntryValue = record { iif = number; oifs = b.0 } in
    let same : Some made ≡ entry = ok_injective (Some made) entry b.2 in
    elim (cases_Bool (bytes_eq iif (codes "-1"))) [
      | inl is ↦ absurd (let wrong_if = rw is at incoming in cc)
      | inr other ↦ let n = incoming_number-some (number_in 0 31 iif) (Some number) (rw other at incoming) in
          let is : n.0 ≡ number = cc in
          let writes : WordsDenoteEntry iif outgoing (Some made) =
          (number_in-denotes 0 31 iif number (n.1 ∙ ap Some is), oifs_in-denotes outgoing b.0 b.1) in
          subst (WordsDenoteEntry iif outgoing) same writes
    ]

-- a word that denotes a number isn't `-1`
bytes_eq-number_is_not_unresolved : (iif : List ℕ) (n : ℕ) → WordDenotesNumber 0 31 iif n
    → bytes_eq iif (codes "-1") ≡ false
bytes_eq-number_is_not_unresolved iif n h =
    false_from_ne_true (bytes_eq iif (codes "-1")) (λ is.
    let same : iif ≡ codes "-1" = (bytes_eq-Decides iif (codes "-1")).0 is in
    let minus = subst (λ (w : List ℕ). WordDenotesNumber 0 31 w n) same h in
    let digit : digit_value 45 < 10 = minus.0.0.1.0 in
    absurd (omega (arith, digit)))

-- the entry that the words denote is read
entry_in-from_denotes : (iif : List ℕ) (outgoing : List (List ℕ)) (entry : Option EntryValue)
    → WordsDenoteEntry iif outgoing entry → (i : Option ℕ) × (incoming_in iif ≡ Ok i)
    × (entry_in i outgoing ≡ Ok entry)
entry_in-from_denotes iif outgoing None h =
    let is : bytes_eq iif (codes "-1") ≡ true = (bytes_eq-Decides iif (codes "-1")).1 h.0 in
    (None, rw is refl, rw h.1 refl)
entry_in-from_denotes iif outgoing (Some entry) h = (
  Some entry.iif,
  rw (bytes_eq-number_is_not_unresolved iif entry.iif h.0, number_in-from_denotes 0 31 iif entry.iif h.0)
      refl,
  rw (oifs_in-from_denotes outgoing entry.oifs h.1) refl,
)

-- ---- the words of a row

-- the row that is read is the one that the words denote
pub row_in_words-denotes : (order : Order) (words : List (List ℕ)) (row : RowValue)
    → row_in_words order words ≡ Ok row → WordsDenoteRow order words row
unfolding row_in_words
row_in_words-denotes order (group ∷ origin ∷ iif ∷ packets ∷ bytes ∷ wrong_if ∷ outgoing) row e =
    let g = bind_ok (ok_or (address_in order group) BadAddress) _ row e in
    let o = bind_ok (ok_or (address_in order origin) BadAddress) _ row g.2 in
    let i = bind_ok (incoming_in iif) _ row o.2 in
    let c1 = demand-bind_ok (is_counter packets) BadCounter _ row i.2 in
    let c2 = demand-bind_ok (is_counter bytes) BadCounter _ row c1.1 in
    let c3 = demand-bind_ok (is_counter wrong_if) BadCounter _ row c2.1 in
    let x = bind_ok (entry_in i.0 outgoing) _ row c3.1 in
    let made : RowValue = record { group = g.0; origin = o.0; entry = x.0 } in
    let words = group ∷ origin ∷ iif ∷ packets ∷ bytes ∷ wrong_if ∷ outgoing in
    let all : WordsDenoteRow order words made = (
      address_in-denotes order group g.0 (ok_or_ok (address_in order group) BadAddress g.0 g.1),
      address_in-denotes order origin o.0 (ok_or_ok (address_in order origin) BadAddress o.0 o.1),
      c1.0,
      c2.0,
      c3.0,
      entry_in-denotes iif outgoing i.0 x.0 i.1 x.1,
    ) in
    subst (WordsDenoteRow order words) (ok_injective made row x.2) all
row_in_words-denotes order words row e = absurd cc

-- the row that the words denote is read
row_in_words-from_denotes : (order : Order) (words : List (List ℕ)) (row : RowValue)
    → WordsDenoteRow order words row → row_in_words order words ≡ Ok row
unfolding row_in_words
row_in_words-from_denotes order (group ∷ origin ∷ iif ∷ packets ∷ bytes ∷ wrong_if ∷ outgoing) row h =
    let x = entry_in-from_denotes iif outgoing row.entry h.5 in
    rw (
      address_in-from_denotes order group row.group h.0,
      address_in-from_denotes order origin row.origin h.1,
      x.1,
      h.2,
      h.3,
      h.4,
      x.2,
    ) refl
row_in_words-from_denotes order words row h = absurd h

-- ---- the rows

-- there is room for the row, and it repeats no earlier one's key
abbrev pub MayFollow : List RowValue → RowValue → Type 0
MayFollow earlier row = (length earlier < 65536) × (entry_repeats earlier row ≡ false)

-- there are at most as many rows as allowed, and no two have the same key
abbrev pub AreValid : List RowValue → Type 0
AreValid rows = (length rows ≤ 65536) × IsDistinct same_key (filter_map key_of rows)

-- keys are in a total order
pub key_cmp-total : IsTotalOrder key_cmp
key_cmp-total = then_total (on_total (λ key. key.0) nat_cmp_total)
    (on_total (λ key. key.1) nat_cmp_total)

-- being the same key is an equivalence
pub same_key-equivalence : IsEquivalence same_key
same_key-equivalence = eq_by_cmp_equiv key_cmp-total

-- the row that a line is read as is denoted by it and may follow the earlier ones
pub row_in_line-denotes : (order : Order) (earlier : List RowValue) (line : LineText) (row : RowValue)
    → row_in_line order earlier line ≡ Ok row → LineDenotesRow order line row × MayFollow earlier row
unfolding row_in_line
row_in_line-denotes order earlier line row e =
    let d = demand-bind_ok line.ended Unended _ row e in
    let n = demand-bind_ok (nat_lt (length earlier) 65536) TooLarge _ row d.1 in
    let w = bind_ok (row_in_words order (words_of line.bytes)) _ row n.1 in
    let r = demand-bind_ok (not (entry_repeats earlier w.0)) RepeatedEntry _ row w.2 in
    let denoted : LineDenotesRow order line w.0 = record {
      ended = d.0;
      words = row_in_words-denotes order (words_of line.bytes) w.0 w.1;
    } in
    subst (λ (x : RowValue). LineDenotesRow order line x × MayFollow earlier x) (ok_injective w.0 row r.1)
    (denoted, (ltb-true (length earlier) 65536 n.0, not-true _ r.0))

-- a row that a line denotes and that may follow the earlier ones is read
row_in_line-from_denotes : (order : Order) (earlier : List RowValue) (line : LineText) (row : RowValue)
    → LineDenotesRow order line row → MayFollow earlier row → row_in_line order earlier line ≡ Ok row
unfolding row_in_line
row_in_line-from_denotes order earlier line row denoted new =
    let room : ltb (length earlier) 65536 ≡ true = lt-ltb (length earlier) 65536 new.0 in
    rw (denoted.ended, room, row_in_words-from_denotes order (words_of line.bytes) row denoted.words, new.1)
    refl

-- the same for reading with the line's number
row_at_line-denotes : (order : Order) (earlier : List RowValue) (line : LineText) (row : RowValue)
    → row_at_line order earlier line ≡ Ok row → LineDenotesRow order line row × MayFollow earlier row
row_at_line-denotes order earlier line row e =
    row_in_line-denotes order earlier line row
    (at_line-ok line.number (row_in_line order earlier line) row e)

-- and the other direction
row_at_line-from_denotes : (order : Order) (earlier : List RowValue) (line : LineText) (row : RowValue)
    → LineDenotesRow order line row → MayFollow earlier row → row_at_line order earlier line ≡ Ok row
row_at_line-from_denotes order earlier line row denoted new =
    rw (row_in_line-from_denotes order earlier line row denoted new) refl

-- allowed rows stay allowed when one that may follow them is added
rows-valid_push : (earlier : List RowValue) (row : RowValue) → AreValid earlier → MayFollow earlier row
    → AreValid (earlier ++ row ∷ [])
rows-valid_push earlier row valid new = (
  omega (arith, new.0, length-append earlier (row ∷ [])),
  rw filter_map-append (is_distinct-push_key same_key-equivalence _ (key_of row) valid.1 new.1),
)

-- in allowed rows each may follow those before it
rows-may_follow : (earlier : List RowValue) (row : RowValue) (later : List RowValue)
    → AreValid (earlier ++ row ∷ later) → MayFollow earlier row
rows-may_follow earlier row later valid = (
  omega (arith, valid.0, length-append earlier (row ∷ later)),
  is_among-distinct_before same_key-equivalence _ (key_of row) _ (rw filter_map-append at valid.1),
)

-- so lines are read as the rows that they denote
row_at_line-reads_rows : (order : Order)
    → ReadsRows (row_at_line order) (LineDenotesRow order) MayFollow AreValid
row_at_line-reads_rows order = record {
  found = row_at_line-denotes order;
  only = row_at_line-from_denotes order;
  grows = rows-valid_push;
  follows = rows-may_follow;
}

-- no rows are allowed
rows-valid_none : AreValid []
unfolding IsDistinct
rows-valid_none = (omega arith, tt)

-- ---- the text

-- the rows that are read are those that the text denotes
cache_rows_in-denotes : (order : Order) (text : List ℕ) (rows : List RowValue)
    → cache_rows_in order text ≡ Ok rows
    → DenotesCacheRows order text rows
cache_rows_in-denotes order text rows e =
    let b = bind_ok (lines_in (codes "Group") text) (rows_after (row_at_line order) []) rows e in
    let t = rows_after-denotes (row_at_line order) (LineDenotesRow order) MayFollow AreValid
    (row_at_line-reads_rows order) b.0 [] rows rows-valid_none b.2 in
    record {
      lines = b.0;
      header = lines_in-has_header (codes "Group") text b.0 b.1;
      denoted = subst (EachDenotes (LineDenotesRow order) b.0) t.1 t.2;
      count = t.3.0;
      keys_differ = t.3.1;
    }

-- the rows that the text denotes are read
cache_rows_in-from_denotes : (order : Order) (text : List ℕ) (rows : List RowValue)
    → DenotesCacheRows order text rows
    → cache_rows_in order text ≡ Ok rows
cache_rows_in-from_denotes order text rows h =
    let e = lines_in-from_header (codes "Group") text h.lines h.header in
    rw e (rows_after-from_denotes (row_at_line order) (LineDenotesRow order) MayFollow AreValid
    (row_at_line-reads_rows order) h.lines [] rows h.denoted (h.count, h.keys_differ))

-- the table that is read is the one that the text denotes
pub cache_in-denotes : (order : Order) (text : List ℕ) (table : CacheValue)
    → cache_in order text ≡ Ok table → DenotesCache order text table
cache_in-denotes order text table e =
    let b = bind_ok (cache_rows_in order text) (λ rows. Ok (table_of rows)) table e in
    record {
      rows = b.0;
      lines = cache_rows_in-denotes order text b.0 b.1;
      as_table = sym (ok_injective (table_of b.0) table b.2);
    }

-- the table that the text denotes is read
pub cache_in-from_denotes : (order : Order) (text : List ℕ) (table : CacheValue)
    → DenotesCache order text table → cache_in order text ≡ Ok table
cache_in-from_denotes order text table h =
    rw (cache_rows_in-from_denotes order text h.rows h.lines) (ap Ok (sym h.as_table))

-- unless memory runs out, the table that is read is the one that the text denotes
pub cache_result-denotes : (order : Order) (text : List ℕ) (read : Result CacheValue TableFault)
    → ((read ≡ Err out_of_memory → ⊥) → read ≡ cache_in order text)
    → IfOk read (DenotesCache order text)
cache_result-denotes order text (Ok table) exact =
    cache_in-denotes order text table (sym (exact (λ e. absurd cc)))
cache_result-denotes order text (Err fault) exact = tt
