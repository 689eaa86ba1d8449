-- The lines of a text that comes in pieces.
use Rattle.std.proofs.Common.{◌≡◌, ℕ, ◌+◌, ◌<◌, ◌≤◌, true, false, eqb, cond, List, [], ◌∷◌, ◌++◌}
use Rattle.std.proofs.Common.{length, take, drop, Some, Result, Ok, Err, refl}
use Rattle.std.proofs.Common.{sym, ap, ◌∙◌, arith, eq-eqb, inl, inr}
use Rattle.std.specs.Prelude.{nat_lt, position}
use Rattle.std.proofs.lemmas.Bool.{false_from_ne_true, cases_Bool, eqb-true, ltb-true, ltb-false}
use Rattle.std.proofs.lemmas.Bool.Decides.{nat_tests}
use Rattle.std.proofs.lemmas.List.{append-nil, length-append, nil_from_length}
use Rattle.mc_text.specs.Lines.{LineText, HasNoLineFeed, lines_from}
use Rattle.mc_text.proofs.ByteLemmas.{HasNoByte-append}
use Rattle.mc_text.proofs.LineLemmas.{lines_from-unended}
use Rattle.mc_text.proofs.PieceLemmas.{lines_from-first_ended}
use Rattle.mc_text.proofs.StepLemmas.{bind-same}
use Rattle.mc_tables.specs.declared.fault.TableFault.{TableFault}
use Rattle.mc_tables.specs.declared.fault.TableFaultKind.{TableFaultKind}
use Rattle.mc_tables.specs.declared.fault.TableFaultKind.TheVariants.{TooLarge}
use Rattle.mc_tables.specs.Steps.{fault_at}
use Rattle.mc_text.specs.Steps.{◌>>=◌}
use Rattle.mc_tables.specs.Steps.{at_line}
use Rattle.mc_tables.specs.TableLines.{lines_after_header}
use Rattle.mc_tables.specs.LinesSoFar.{LinesSoFar, IsValidLinesSoFar, with_begun}
use Rattle.mc_tables.specs.LinesSoFar.{with_ended, line_begun, lines_to_come, read_after, header_line}
use Rattle.mc_tables.specs.LinesSoFar.{line_after, check_end_of_lines, ReadsInSteps}
use Rattle.mc_tables.specs.TableSoFar.{whole_if}

-- the state keeps its rules when bytes are taken
pub lines_so_far-with_begun : (lines : LinesSoFar) (size : ℕ) (bytes : List ℕ) → IsValidLinesSoFar lines
    → lines.size + size ≤ 16777216 → length bytes ≤ size → HasNoLineFeed bytes
    → IsValidLinesSoFar (with_begun lines size bytes)
lines_so_far-with_begun lines size bytes is within fewer without = record {
  within = within;
  numbers = omega (arith, is.numbers, length-append lines.begun bytes);
  begun = HasNoByte-append 10 lines.begun bytes is.begun without;
}

-- ---- lines

-- the first of the lines to come, if the next bytes have a line feed
pub lines_to_come-first : (lines : LinesSoFar) (rest more : List ℕ) (end : ℕ)
    → HasNoLineFeed lines.begun → position (λ b. eqb b 10) rest ≡ Some end
    → lines_to_come lines (rest ++ more)
    ≡ line_begun (with_begun lines (end + 1) (take end rest))
    ∷ lines_to_come (with_ended (with_begun lines (end + 1) (take end rest)))
    (drop (end + 1) rest ++ more)
lines_to_come-first lines rest more end without found =
    lines_from-first_ended (lines.ended + 1) lines.begun rest more end without found

-- ---- reading them

-- where a header is checked, the lines after it are read from the state on
lines_after_header-steps : {S A : Type 0} (read : S → List LineText → Result A TableFault)
    (state : S) (lines : List LineText) (judged : Result (Unit {0}) TableFaultKind)
    → ((at_line 1 judged >>= λ _. Ok lines) >>= read state)
    ≡ ((at_line 1 judged >>= λ _. Ok state) >>= λ more. read more lines)
lines_after_header-steps read state lines (Ok u) = refl
lines_after_header-steps read state lines (Err kind) = refl

-- what a function says of the line that has begun, by its number and bytes
pub judge-begun_line : {R : Type 0} (judge : ℕ → LineText → R) (begun now : LinesSoFar) (ended : ℕ)
    (line : LineText) → now ≡ begun → ended ≡ now.ended → line ≡ line_begun now
    → judge begun.ended (line_begun begun) ≡ judge ended line
judge-begun_line judge begun now ended line is number text =
    ap (λ (l : LinesSoFar). judge l.ended (line_begun l)) (sym is)
    ∙ ap (λ n. judge n (line_begun now)) (sym number) ∙ ap (judge ended) (sym text)

module _ {S A : Type 0} (first : List ℕ) (read : S → List LineText → Result A TableFault)
    (step : S → LineText → Result S TableFault) (steps : ReadsInSteps read step) where
  -- one line after a state, of which the first is the header
  lines_after_header-one_line : (ended : ℕ) (state : S) (line : LineText) (lines : List LineText)
      → cond (eqb ended 0) (lines_after_header first (line ∷ lines) >>= read state)
      (read state (line ∷ lines))
      ≡ (line_after first (step state) state ended line >>= λ new. read new lines)
  lines_after_header-one_line ended state line lines = elim (cases_Bool (eqb ended 0)) [
    | inl none ↦ rw none (lines_after_header-steps read state lines (header_line first line))
    | inr some ↦ rw some (steps.line state line lines)
  ]

  -- once a line has ended, the others are read
  read_after-with_ended : (lines : LinesSoFar) (state : S) (more : List ℕ)
      → read_after first (read state) (with_ended lines) more
      ≡ read state (lines_to_come (with_ended lines) more)
  read_after-with_ended lines state more =
      let some : eqb (lines.ended + 1) 0 ≡ false = grind (arith, nat_tests) in
      rw some refl

  -- a line that ends is read, and then the others
  pub read_after-line : (lines : LinesSoFar) (state : S) (rest more : List ℕ) (end : ℕ)
      → HasNoLineFeed lines.begun → position (λ b. eqb b 10) rest ≡ Some end
      → read_after first (read state) lines (rest ++ more)
      ≡ (line_after first (step state) state lines.ended
      (line_begun (with_begun lines (end + 1) (take end rest))) >>= λ new.
      read_after first (read new) (with_ended (with_begun lines (end + 1) (take end rest)))
      (drop (end + 1) rest ++ more))
  read_after-line lines state rest more end without found =
      let begun = with_begun lines (end + 1) (take end rest) in
      let later = drop (end + 1) rest ++ more in
      ap (λ all. cond (eqb lines.ended 0) (lines_after_header first all >>= read state) (read state all))
      (lines_to_come-first lines rest more end without found)
      ∙ lines_after_header-one_line lines.ended state (line_begun begun)
      (lines_to_come (with_ended begun) later)
      ∙ bind-same (line_after first (step state) state lines.ended (line_begun begun))
      (λ new. read new (lines_to_come (with_ended begun) later))
      (λ new. read_after first (read new) (with_ended begun) later)
      (λ new. sym (read_after-with_ended begun new later))

  -- a line that was read
  pub read_after-taken : (lines : LinesSoFar) (state new : S) (rest more : List ℕ) (end : ℕ)
      → HasNoLineFeed lines.begun → position (λ b. eqb b 10) rest ≡ Some end
      → line_after first (step state) state lines.ended
      (line_begun (with_begun lines (end + 1) (take end rest))) ≡ Ok new
      → read_after first (read state) lines (rest ++ more)
      ≡ read_after first (read new) (with_ended (with_begun lines (end + 1) (take end rest)))
      (drop (end + 1) rest ++ more)
  read_after-taken lines state new rest more end without found taken =
      let begun = with_begun lines (end + 1) (take end rest) in
      read_after-line lines state rest more end without found
      ∙ ap (λ r. r >>= λ new.
      read_after first (read new) (with_ended begun) (drop (end + 1) rest ++ more)) taken

  -- a line that was refused
  pub read_after-refused : (lines : LinesSoFar) (state : S) (fault : TableFault) (rest more : List ℕ)
      (end : ℕ) → HasNoLineFeed lines.begun → position (λ b. eqb b 10) rest ≡ Some end
      → line_after first (step state) state lines.ended
      (line_begun (with_begun lines (end + 1) (take end rest))) ≡ Err fault
      → read_after first (read state) lines (rest ++ more) ≡ Err fault
  read_after-refused lines state fault rest more end without found refused =
      let begun = with_begun lines (end + 1) (take end rest) in
      read_after-line lines state rest more end without found
      ∙ ap (λ r. r >>= λ new.
      read_after first (read new) (with_ended begun) (drop (end + 1) rest ++ more)) refused

-- ---- the end of a text

-- the fault of a last line that isn't ended
abbrev pub last_line : LinesSoFar → LineText
last_line lines = record { number = lines.ended + 1; bytes = lines.begun; ended = false }

-- where a line has begun, it is the last one
lines_to_come-begun : (lines : LinesSoFar) → HasNoLineFeed lines.begun
    → eqb (length lines.begun) 0 ≡ false → lines_to_come lines [] ≡ last_line lines ∷ []
lines_to_come-begun lines without some =
    ap (lines_from (lines.ended + 1)) (append-nil lines.begun)
    ∙ lines_from-unended (lines.ended + 1) lines.begun without some

-- and else there is none
pub lines_to_come-none : (lines : LinesSoFar) → eqb (length lines.begun) 0 ≡ true
    → lines_to_come lines [] ≡ []
lines_to_come-none lines none =
    ap (lines_from (lines.ended + 1)) (append-nil lines.begun
    ∙ nil_from_length lines.begun (eqb-true (length lines.begun) 0 none))

module _ {A : Type 0} (first : List ℕ) (read : List LineText → Result A TableFault) where
  -- a text that ends in its header
  pub read_after-no_header : (lines : LinesSoFar) (then : Result A TableFault)
      → HasNoLineFeed lines.begun → lines.ended ≡ 0
      → read_after first read lines [] ≡ (check_end_of_lines lines >>= λ _. then)
  read_after-no_header lines then without zero_is =
      let none = eq-eqb lines.ended 0 zero_is in
      elim (cases_Bool (eqb (length lines.begun) 0)) [
        | inl empty ↦
            ap (λ all. cond (eqb lines.ended 0) (lines_after_header first all >>= read) (read all))
            (lines_to_come-none lines empty)
            ∙ rw (empty, none) refl
        | inr begun ↦
            ap (λ all. cond (eqb lines.ended 0) (lines_after_header first all >>= read) (read all))
            (lines_to_come-begun lines without begun)
            ∙ rw (begun, none, zero_is) refl
      ]

  -- a text that ends in a later line
  pub read_after-unended : (lines : LinesSoFar) (fault : TableFault) → HasNoLineFeed lines.begun
      → (lines.ended ≡ 0 → ⊥) → check_end_of_lines lines ≡ Err fault
      → read_after first read lines [] ≡ read (last_line lines ∷ [])
  read_after-unended lines fault without some is =
      let later = false_from_ne_true (eqb lines.ended 0) (λ none. some (eqb-true lines.ended 0 none)) in
      elim (cases_Bool (eqb (length lines.begun) 0)) [
        | inl empty ↦ absurd (let wrong = rw (empty, later) at is in cc)
        | inr begun ↦
            ap (λ all. cond (eqb lines.ended 0) (lines_after_header first all >>= read) (read all))
            (lines_to_come-begun lines without begun)
            ∙ rw later refl
      ]

-- ---- a text in one piece

-- What is answered after the only piece of a text is what the whole text is read as, by what reading
-- ends with before and after the piece.
pub whole_if-only_piece : {A : Type 0} (before behind : List ℕ → Result A TableFault) (text : List ℕ)
    (size : ℕ) (answer : Result A TableFault) → size ≡ 0
    → (size + length (text ++ []) ≤ 16777216 → behind [] ≡ before (text ++ [])) → answer ≡ behind []
    → (16777216 < size + length text → answer ≡ Err (fault_at 0 TooLarge)) → answer ≡ whole_if before text
whole_if-only_piece before behind text size answer none goes_on is too_large =
    elim (cases_Bool (nat_lt 16777216 (length text))) [
      | inl more ↦
          let large = ltb-true 16777216 (length text) more in
          rw more (too_large (omega (arith, large, none)))
      | inr fits ↦
          let within = ltb-false 16777216 (length text) fits in
          rw fits (is ∙ goes_on (omega (arith, within, none, length-append text []))
          ∙ ap before (append-nil text))
    ]

-- what a whole text is read as, if each text within the limit is, and a larger one is refused
pub whole_if-is : {A : Type 0} (read : List ℕ → Result A TableFault) (text : List ℕ)
    (whole : Result A TableFault) → (length text ≤ 16777216 → read text ≡ whole)
    → (nat_lt 16777216 (length text) ≡ true → whole ≡ Err (fault_at 0 TooLarge))
    → whole_if read text ≡ whole
whole_if-is read text whole reads over = elim (cases_Bool (nat_lt 16777216 (length text))) [
  | inl more ↦ rw more (sym (over more))
  | inr fits ↦ rw fits (reads (ltb-false 16777216 (length text) fits))
]
