-- Rows that are read one after the other are the rows that the lines denote.
use Rattle.std.proofs.Common.{◌≡◌, ℕ, Bool, true, false, cond, ltb, length, List, [], ◌∷◌, ◌++◌}
use Rattle.std.proofs.Common.{Result, Ok, Err, refl, sym, ap, subst, ◌∙◌, append_assoc}
use Rattle.std.specs.Prelude.{IsTrue}
use Rattle.std.proofs.lemmas.Bool.{ltb-false, le-ltb}
use Rattle.std.proofs.lemmas.List.{append-nil}
use Rattle.mc_text.specs.Lines.{LineText, lines_of}
use Rattle.mc_text.specs.Lines.{words_of}
use Rattle.mc_tables.specs.declared.fault.TableFault.{TableFault}
use Rattle.mc_tables.specs.declared.fault.TableFaultKind.TheVariants.{NoHeader, Unended, TooLarge}
use Rattle.mc_text.specs.Steps.{◌>>=◌}
use Rattle.mc_tables.specs.Steps.{demand, at_line}
use Rattle.mc_tables.specs.TableLines.{begins_with, HasHeader, EachDenotes, lines_after_header, lines_in}
use Rattle.mc_tables.specs.TableLines.{rows_after}
use Rattle.mc_text.proofs.StepLemmas.{bind_ok, ok_injective}
use Rattle.mc_tables.proofs.StepLemmas.{demand-ok, demand-bind_ok, at_line-ok}

-- the lines that are read follow a header that ends and has its first word
lines_after_header-ok : (first : List ℕ) (all lines : List LineText) → lines_after_header first all ≡ Ok lines
    → (header : LineText) × (all ≡ header ∷ lines) × IsTrue header.ended
    × IsTrue (begins_with first (words_of header.bytes))
lines_after_header-ok first [] lines e = absurd cc
lines_after_header-ok first (header ∷ rest) lines e =
    let b = bind_ok (at_line 1
    (demand header.ended Unended >>= λ _. demand
    (begins_with first (words_of header.bytes)) NoHeader)) (λ _. Ok rest) lines e in
    let d = demand-bind_ok header.ended Unended
    (λ _. demand (begins_with first (words_of header.bytes)) NoHeader) b.0
    (at_line-ok 1 _ b.0 b.1) in (
      header,
      ap (λ (ls : List LineText). header ∷ ls) (ok_injective rest lines b.2),
      d.0,
      demand-ok (begins_with first (words_of header.bytes)) NoHeader b.0 d.1,
    )

-- a text that is read is within the limit
cond-err_else : {A : Type 0} (b : Bool) (d : TableFault) (r : Result A TableFault) (y : A)
    → cond b (Err d) r ≡ Ok y → (b ≡ false) × (r ≡ Ok y)
cond-err_else true d r y e = absurd cc
cond-err_else false d r y e = (refl, e)

-- the lines after the header are read
pub lines_in-has_header : (first text : List ℕ) (lines : List LineText) → lines_in first text ≡ Ok lines
    → HasHeader first text lines
lines_in-has_header first text lines e =
    let f = cond-err_else (ltb 16777216 (length text)) (record { line = 0; kind = TooLarge })
    (lines_after_header first (lines_of text)) lines e in
    let h = lines_after_header-ok first (lines_of text) lines f.1 in
    record {
      size = ltb-false 16777216 (length text) f.0;
      header = h.0;
      whole = h.1;
      ended = h.2;
      begins = h.3;
    }

-- the lines of a text with its header are read
pub lines_in-from_header : (first text : List ℕ) (lines : List LineText) → HasHeader first text lines
    → lines_in first text ≡ Ok lines
lines_in-from_header first text lines h =
    let size : ltb 16777216 (length text) ≡ false = le-ltb 16777216 (length text) h.size in
    rw (size, h.whole, h.ended, h.begins) refl

-- A line is read as the row that it denotes, if the row may follow the earlier ones. Allowed lists grow
-- by such rows.
pub record ReadsRows {L R E : Type 0} (row_in : List R → L → Result R E) (Denotes : L → R → Type 0)
    (MayFollow : List R → R → Type 0) (AreValid : List R → Type 0) : Type 0 where
  pub found : (earlier : List R) (line : L) (row : R) → row_in earlier line ≡ Ok row
      → Denotes line row × MayFollow earlier row
  pub only : (earlier : List R) (line : L) (row : R) → Denotes line row → MayFollow earlier row
      → row_in earlier line ≡ Ok row
  pub grows : (earlier : List R) (row : R) → AreValid earlier → MayFollow earlier row
      → AreValid (earlier ++ row ∷ [])
  pub follows : (earlier : List R) (row : R) (later : List R) → AreValid (earlier ++ row ∷ later)
      → MayFollow earlier row

module _ {L R E : Type 0} (row_in : List R → L → Result R E) (Denotes : L → R → Type 0)
    (MayFollow : List R → R → Type 0) (AreValid : List R → Type 0)
    (reads : ReadsRows row_in Denotes MayFollow AreValid) where
  -- what is read is denoted
  pub rows_after-denotes : (lines : List L) (earlier all : List R) → AreValid earlier
      → rows_after row_in earlier lines ≡ Ok all
      → (rows : List R) × (earlier ++ rows ≡ all) × EachDenotes Denotes lines rows × AreValid all
  rows_after-denotes [] earlier all valid e =
      let same : earlier ≡ all = cc in
      ([], append-nil earlier ∙ same, tt, subst AreValid same valid)
  rows_after-denotes (line ∷ lines) earlier all valid e =
      let b = bind_ok (row_in earlier line)
      (λ row. rows_after row_in (earlier ++ row ∷ []) lines) all e in
      let row = b.0 in
      let f = reads.found earlier line row b.1 in
      let rest = rows_after-denotes lines (earlier ++ row ∷ []) all
      (reads.grows earlier row valid f.1) b.2 in
      (row ∷ rest.0, sym (append_assoc earlier (row ∷ []) rest.0) ∙ rest.1, (f.0, rest.2), rest.3)

  -- what is denoted is read
  pub rows_after-from_denotes : (lines : List L) (earlier rows : List R) → EachDenotes Denotes lines rows
      → AreValid (earlier ++ rows)
      → rows_after row_in earlier lines ≡ Ok (earlier ++ rows)
  rows_after-from_denotes [] earlier [] denoted valid = ap Ok (sym (append-nil earlier))
  rows_after-from_denotes [] earlier (row ∷ rows) denoted valid = absurd denoted
  rows_after-from_denotes (line ∷ lines) earlier [] denoted valid = absurd denoted
  rows_after-from_denotes (line ∷ lines) earlier (row ∷ rows) denoted valid =
      let regrouped = append_assoc earlier (row ∷ []) rows in
      let first = reads.only earlier line row denoted.0 (reads.follows earlier row rows valid) in
      let rest = rows_after-from_denotes lines (earlier ++ row ∷ []) rows denoted.1
      (subst AreValid (sym regrouped) valid) in
      rw first (rest ∙ ap Ok regrouped)
