-- What reading a vif table gives is what its text denotes.
use Rattle.std.proofs.Common.{◌≡◌, ℕ, ◌≤◌, false, List, [], ◌∷◌, ◌++◌, length, Result, Ok, Err}
use Rattle.std.proofs.Common.{refl, sym, ap, subst}
use Rattle.std.specs.Prelude.{nat_eq, not, map, codes, IfOk}
use Rattle.std.specs.Option.{ok_or}
use Rattle.std.specs.List.{IsDistinct, AllByRecursion, filter_map}
use Rattle.std.specs.Ordering.{nat_cmp}
use Rattle.std.specs.FinMap.{FinMap, from_entries}
use Rattle.std.specs.Str.{bytes_eq}
use Rattle.std.specs.Str.Parse.{digits_value}
use Rattle.std.proofs.lemmas.Bool.{not-true}
use Rattle.std.proofs.lemmas.Cmp.{nat_eq_equiv, nat_list_eq_equiv}
use Rattle.std.proofs.lemmas.List.{map-append}
use Rattle.std.proofs.lemmas.List.Elements.{filter_map-append}
use Rattle.std.proofs.lemmas.Map.Keys.{IsDistinct-push}
use Rattle.mc_text.specs.Lines.{LineText}
use Rattle.mc_text.specs.Lines.{words_of}
use Rattle.mc_text.specs.Names.{is_device_name}
use Rattle.mc_tables.specs.declared.fault.TableFaultKind.TheVariants.{Unended, WordCount, BadIndex}
use Rattle.mc_tables.specs.declared.fault.TableFaultKind.TheVariants.{BadDevice, BadCounter}
use Rattle.mc_tables.specs.declared.fault.TableFaultKind.TheVariants.{BadFlags, BadAddress}
use Rattle.mc_tables.specs.declared.fault.TableFaultKind.TheVariants.{RepeatedIndex, RepeatedDevice}
use Rattle.mc_tables.specs.declared.fault.TableFault.{TableFault}
use Rattle.mc_tables.specs.Steps.{out_of_memory}
use Rattle.mc_tables.specs.TableWords.{is_counter, is_hexadecimal, number_in}
use Rattle.mc_tables.specs.TableLines.{EachDenotes, lines_in, rows_after}
use Rattle.mc_tables.specs.VifTable.{VifValue, is_tunnel, is_register, device_of, WordsDenoteVif}
use Rattle.mc_tables.specs.VifTable.{LineDenotesVif, DenotesVifRows, DenotesVifs}
use Rattle.mc_tables.specs.VifReading.{device_in, flags_in, vif_in_words, index_repeats}
use Rattle.mc_tables.specs.VifReading.{device_repeats, vif_in_line, vif_at_line, vif_rows_in, vifs_in}
use Rattle.mc_text.proofs.StepLemmas.{bind_ok, if_ok, ok_or_ok, ok_injective}
use Rattle.mc_tables.proofs.StepLemmas.{demand-bind_ok, at_line-ok}
use Rattle.mc_tables.proofs.WordLemmas.{number_in-denotes, number_in-from_denotes}
use Rattle.mc_tables.proofs.KeyLemmas.{list_any-distinct_middle, is_distinct-push_key}
use Rattle.mc_tables.proofs.KeyLemmas.{is_among-distinct_before}
use Rattle.mc_tables.proofs.RowLemmas.{lines_in-has_header, lines_in-from_header, ReadsRows}
use Rattle.mc_tables.proofs.RowLemmas.{rows_after-denotes, rows_after-from_denotes}

-- the vif that is read is the one that the words denote
pub vif_in_words-denotes : (words : List (List ℕ)) (row : ℕ × VifValue) → vif_in_words words ≡ Ok row
    → WordsDenoteVif words row
unfolding vif_in_words
vif_in_words-denotes (index ∷ device ∷ bytes_in ∷ packets_in ∷ bytes_out ∷ packets_out ∷ flags ∷ local
    ∷ remote ∷ []) row e =
    let i = bind_ok (ok_or (number_in 0 31 index) BadIndex) _ row e in
    let d = bind_ok (device_in device) _ row i.2 in
    let c1 = demand-bind_ok (is_counter bytes_in) BadCounter _ row d.2 in
    let c2 = demand-bind_ok (is_counter packets_in) BadCounter _ row c1.1 in
    let c3 = demand-bind_ok (is_counter bytes_out) BadCounter _ row c2.1 in
    let c4 = demand-bind_ok (is_counter packets_out) BadCounter _ row c3.1 in
    let f = bind_ok (flags_in flags) _ row c4.1 in
    let l = demand-bind_ok (is_hexadecimal 8 8 local) BadAddress _ row f.2 in
    let r = demand-bind_ok (is_hexadecimal 8 8 remote) BadAddress _ row l.1 in
    let name = if_ok (is_device_name device) BadDevice device d.0 d.1 in
    let bits = if_ok (is_hexadecimal 5 8 flags) BadFlags (digits_value 16 flags) f.0 f.1 in
    let made : ℕ × VifValue = (
      i.0,
      record {
        device = d.0;
        tunnel = is_tunnel f.0;
        register = is_register f.0;
      },
    ) in
    let same : made ≡ row = ok_injective made row r.1 in
    let number = number_in-denotes 0 31 index i.0 (ok_or_ok (number_in 0 31 index) BadIndex i.0 i.1) in
    let all : WordsDenoteVif
    (index ∷ device ∷ bytes_in ∷ packets_in ∷ bytes_out ∷ packets_out ∷ flags ∷ local ∷ remote ∷ [])
    made = (
      number,
      (name.0, sym name.1),
      c1.0,
      c2.0,
      c3.0,
      c4.0,
      record {
        digits = bits.0;
        tunnel = ap is_tunnel (sym bits.1);
        register = ap is_register (sym bits.1);
      },
      l.0,
      r.0,
    ) in
    subst (λ (x : ℕ × VifValue). WordsDenoteVif
    (index ∷ device ∷ bytes_in ∷ packets_in ∷ bytes_out ∷ packets_out ∷ flags ∷ local ∷ remote ∷ [])
    x) same all
vif_in_words-denotes words row e = absurd cc

-- the vif that the words denote is read
pub vif_in_words-from_denotes : (words : List (List ℕ)) (row : ℕ × VifValue) → WordsDenoteVif words row
    → vif_in_words words ≡ Ok row
unfolding vif_in_words
vif_in_words-from_denotes (index ∷ device ∷ bytes_in ∷ packets_in ∷ bytes_out ∷ packets_out ∷ flags ∷ local
    ∷ remote ∷ []) row h =
    let number = number_in-from_denotes 0 31 index row.0 h.0 in
    rw (
      number,
      h.1.0,
      h.2,
      h.3,
      h.4,
      h.5,
      h.6.digits,
      h.7,
      h.8,
      ← h.1.1,
      ← h.6.tunnel,
      ← h.6.register,
    ) refl
vif_in_words-from_denotes words row h = absurd h

-- the row repeats neither the index nor the device of an earlier one
abbrev pub MayFollow : List (ℕ × VifValue) → ℕ × VifValue → Type 0
MayFollow earlier row = (index_repeats earlier row ≡ false) × (device_repeats earlier row ≡ false)

-- indexes and devices differ
abbrev pub AreValid : List (ℕ × VifValue) → Type 0
AreValid rows = IsDistinct nat_eq (map (λ row. row.0) rows)
    × IsDistinct bytes_eq (filter_map device_of rows)

-- the vif that a line is read as is denoted by it and may follow the earlier ones
vif_in_line-denotes : (earlier : List (ℕ × VifValue)) (line : LineText) (row : ℕ × VifValue)
    → vif_in_line earlier line ≡ Ok row → LineDenotesVif line row × MayFollow earlier row
unfolding vif_in_line
vif_in_line-denotes earlier line row e =
    let d = demand-bind_ok line.ended Unended _ row e in
    let w = bind_ok (vif_in_words (words_of line.bytes)) _ row d.1 in
    let i = demand-bind_ok (not (index_repeats earlier w.0)) RepeatedIndex _ row w.2 in
    let v = demand-bind_ok (not (device_repeats earlier w.0)) RepeatedDevice _ row i.1 in
    let same : w.0 ≡ row = ok_injective w.0 row v.1 in
    let denoted : LineDenotesVif line w.0 = record {
      ended = d.0;
      words = vif_in_words-denotes (words_of line.bytes) w.0 w.1;
    } in
    subst (λ (x : ℕ × VifValue). LineDenotesVif line x × MayFollow earlier x) same
    (denoted, (not-true _ i.0, not-true _ v.0))

-- a vif that a line denotes and that may follow the earlier ones is read
vif_in_line-from_denotes : (earlier : List (ℕ × VifValue)) (line : LineText) (row : ℕ × VifValue)
    → LineDenotesVif line row → MayFollow earlier row → vif_in_line earlier line ≡ Ok row
unfolding vif_in_line
vif_in_line-from_denotes earlier line row denoted new =
    rw (denoted.ended, vif_in_words-from_denotes (words_of line.bytes) row denoted.words, new.0, new.1) refl

-- allowed vifs stay allowed when one that may follow them is added
rows-valid_push : (earlier : List (ℕ × VifValue)) (row : ℕ × VifValue) → AreValid earlier
    → MayFollow earlier row → AreValid (earlier ++ row ∷ [])
rows-valid_push earlier row valid new = (
  rw map-append (IsDistinct-push nat_eq_equiv _ row.0 valid.0 new.0),
  rw filter_map-append (is_distinct-push_key nat_list_eq_equiv _ (device_of row) valid.1 new.1),
)

-- in allowed vifs each may follow those before it
rows-may_follow : (earlier : List (ℕ × VifValue)) (row : ℕ × VifValue) (later : List (ℕ × VifValue))
    → AreValid (earlier ++ row ∷ later) → MayFollow earlier row
rows-may_follow earlier row later valid = (
  list_any-distinct_middle nat_eq_equiv _ row.0 _ (rw map-append at valid.0),
  is_among-distinct_before nat_list_eq_equiv _ (device_of row) _ (rw filter_map-append at valid.1),
)

-- the same for reading with the line's number
vif_at_line-denotes : (earlier : List (ℕ × VifValue)) (line : LineText) (row : ℕ × VifValue)
    → vif_at_line earlier line ≡ Ok row → LineDenotesVif line row × MayFollow earlier row
vif_at_line-denotes earlier line row e =
    vif_in_line-denotes earlier line row (at_line-ok line.number (vif_in_line earlier line) row e)

-- and the other direction
vif_at_line-from_denotes : (earlier : List (ℕ × VifValue)) (line : LineText) (row : ℕ × VifValue)
    → LineDenotesVif line row → MayFollow earlier row → vif_at_line earlier line ≡ Ok row
vif_at_line-from_denotes earlier line row denoted new =
    rw (vif_in_line-from_denotes earlier line row denoted new) refl

-- no vifs are allowed
rows-valid_none : AreValid []
unfolding IsDistinct
rows-valid_none = (tt, tt)

-- so lines are read as the vifs that they denote
pub vif_at_line-reads_rows : ReadsRows vif_at_line LineDenotesVif MayFollow AreValid
vif_at_line-reads_rows =
    record {
      found = vif_at_line-denotes;
      only = vif_at_line-from_denotes;
      grows = rows-valid_push;
      follows =
          rows-may_follow;
    }

-- the vifs that are read are those that the text denotes
vif_rows_in-denotes : (text : List ℕ) (rows : List (ℕ × VifValue)) → vif_rows_in text ≡ Ok rows
    → DenotesVifRows text rows
vif_rows_in-denotes text rows e =
    let b = bind_ok (lines_in (codes "Interface") text) (rows_after vif_at_line []) rows e in
    let t = rows_after-denotes vif_at_line LineDenotesVif MayFollow AreValid vif_at_line-reads_rows b.0 []
    rows rows-valid_none
    b.2 in
    record {
      lines = b.0;
      header = lines_in-has_header (codes "Interface") text b.0 b.1;
      denoted = subst (EachDenotes LineDenotesVif b.0) t.1 t.2;
      indexes_differ = t.3.0;
      devices_differ = t.3.1;
    }

-- the vifs that the text denotes are read
vif_rows_in-from_denotes : (text : List ℕ) (rows : List (ℕ × VifValue)) → DenotesVifRows text rows
    → vif_rows_in text ≡ Ok rows
vif_rows_in-from_denotes text rows h =
    let e = lines_in-from_header (codes "Interface") text h.lines h.header in
    rw e (rows_after-from_denotes vif_at_line LineDenotesVif MayFollow AreValid vif_at_line-reads_rows h.lines
    [] rows h.denoted
    (h.indexes_differ, h.devices_differ))

-- the table that is read is the one that the text denotes
pub vifs_in-denotes : (text : List ℕ) (vifs : FinMap nat_cmp VifValue) → vifs_in text ≡ Ok vifs
    → DenotesVifs text vifs
vifs_in-denotes text vifs e =
    let b = bind_ok (vif_rows_in text) (λ rows. Ok (from_entries rows)) vifs e in
    record {
      rows = b.0;
      lines = vif_rows_in-denotes text b.0 b.1;
      as_map = sym (ok_injective (from_entries b.0) vifs b.2);
    }

-- the table that the text denotes is read
pub vifs_in-from_denotes : (text : List ℕ) (vifs : FinMap nat_cmp VifValue) → DenotesVifs text vifs
    → vifs_in text ≡ Ok vifs
vifs_in-from_denotes text vifs h = rw (vif_rows_in-from_denotes text h.rows h.lines, h.as_map) refl

-- words other than nine are no vif
pub vif_needs_nine_words : (words : List (List ℕ)) → (length words ≡ 9 → ⊥)
    → vif_in_words words ≡ Err WordCount
unfolding vif_in_words
vif_needs_nine_words
    (index ∷ device ∷ bytes_in ∷ packets_in ∷ bytes_out ∷ packets_out ∷ flags ∷ local ∷ remote
    ∷ []) other = absurd (other refl)
vif_needs_nine_words words other = refl

-- the index that words denote is at most 31
denoted_vif-at_most_31 : (words : List (List ℕ)) (row : ℕ × VifValue) → WordsDenoteVif words row → row.0 ≤ 31
denoted_vif-at_most_31 (index ∷ device ∷ bytes_in ∷ packets_in ∷ bytes_out ∷ packets_out ∷ flags ∷ local
    ∷ remote ∷ []) row h = h.0.2
denoted_vif-at_most_31 words row h = absurd h

-- the indexes are 0 to 31
abbrev pub HaveIndexesTo31 : List (ℕ × VifValue) → Type 0
HaveIndexesTo31 rows = AllByRecursion (λ row. row.0 ≤ 31) rows

-- lines denote only such indexes
pub denoted_vifs-at_most_31 : (lines : List LineText) (rows : List (ℕ × VifValue))
    → EachDenotes LineDenotesVif lines rows → HaveIndexesTo31 rows
denoted_vifs-at_most_31 [] [] denoted = tt
denoted_vifs-at_most_31 [] (row ∷ rows) denoted = absurd denoted
denoted_vifs-at_most_31 (line ∷ lines) [] denoted = absurd denoted
denoted_vifs-at_most_31 (line ∷ lines) (row ∷ rows) denoted = (
  denoted_vif-at_most_31
      (words_of line.bytes) row denoted.0.words,
  denoted_vifs-at_most_31 lines rows denoted.1,
)

-- unless memory runs out, the table that is read is the one that the text denotes
pub vifs_result-denotes : (text : List ℕ) (read : Result (FinMap nat_cmp VifValue) TableFault)
    → ((read ≡ Err out_of_memory → ⊥) → read ≡ vifs_in text) → IfOk read (DenotesVifs text)
vifs_result-denotes text (Ok vifs) exact = vifs_in-denotes text vifs (sym (exact (λ e. absurd cc)))
vifs_result-denotes text (Err fault) exact = tt
