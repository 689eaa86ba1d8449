-- Reading a report list whose text comes in pieces.
use Rattle.std.proofs.Common.{◌≡◌, ℕ, ◌+◌, ◌≤◌, false, eqb, cond, List, [], ◌∷◌, ◌++◌, length}
use Rattle.std.proofs.Common.{take, drop, Some, None, Ok, Err, refl, sym, ap, ◌∙◌, arith, ◌⊎◌, zero-add}
use Rattle.std.specs.Prelude.{position, nat_lt}
use Rattle.std.proofs.lemmas.Bool.Decides.{nat_tests}
use Rattle.std.proofs.lemmas.List.{append-nil}
use Rattle.mc_text.specs.Lines.{LineText, HasNoLineFeed, lines_from, lines_of}
use Rattle.mc_text.proofs.LineLemmas.{lines_from-unended}
use Rattle.mc_text.proofs.PieceLemmas.{lines_from-first_ended}
use Rattle.mc_text.proofs.StepLemmas.{with_front, with_front-none}
use Rattle.mc_igmp.specs.declared.record.Record.{Record}
use Rattle.mc_igmp.specs.declared.fault.ListFault.{ListFault}
use Rattle.mc_igmp.specs.declared.fault.ListFaultKind.TheVariants.{TooLarge, Unended}
use Rattle.mc_igmp.specs.ReadingList.{IsMemory, fault_at, bytes_of_line, read_line, read_lines}
use Rattle.mc_igmp.specs.ReadingList.{read_list}
use Rattle.mc_igmp.specs.ListSoFar.{ListSoFar, line_after, read_rest_of_lines}
use Rattle.mc_igmp.specs.ListSoFar.{list_if, no_list}
use Rattle.mc_igmp.proofs.ListLemmas.{read_lines_more}

-- ---- reading on

-- after one more line that was read, the rest of the lines reads alike
pub read_rest_of_lines_more : (old first new : List Record) (ended : ℕ) (begun rest more : List ℕ) (end : ℕ)
    → HasNoLineFeed begun → position (λ b. eqb b 10) rest ≡ Some end
    → read_line (line_after ended (begun ++ take end rest)) ≡ Ok first → new ≡ old ++ first
    → read_rest_of_lines old ended (begun ++ (rest ++ more))
    ≡ read_rest_of_lines new (ended + 1) (drop (end + 1) rest ++ more)
read_rest_of_lines_more old first new ended begun rest more end without found read grown =
    sym (read_lines_more old first new (line_after ended (begun ++ take end rest))
    (lines_from (ended + 1) (begun ++ (rest ++ more)))
    (lines_from (ended + 1 + 1) (drop (end + 1) rest ++ more)) _
    (lines_from-first_ended (ended + 1) begun rest more end without found) read grown refl)

-- a line that was refused gives the fault of the rest of the lines
read_lines-first_fault : (old : List Record) (line : LineText) (all lines : List LineText)
    (fault : ListFault) → all ≡ line ∷ lines → read_line line ≡ Err fault
    → with_front old (read_lines all) ≡ Err fault
unfolding read_lines
read_lines-first_fault old line all lines fault is refused = rw (is, refused) refl

-- the fault of the next line is that of the rest of the lines, unless memory ran out
pub read_rest_of_lines-fault : (old : List Record) (ended : ℕ) (begun rest more : List ℕ) (end : ℕ)
    (fault : ListFault) → HasNoLineFeed begun → position (λ b. eqb b 10) rest ≡ Some end
    → IsMemory fault ⊎ (read_line (line_after ended (begun ++ take end rest)) ≡ Err fault)
    → IsMemory fault ⊎ (read_rest_of_lines old ended (begun ++ (rest ++ more)) ≡ Err fault)
read_rest_of_lines-fault old ended begun rest more end fault without found why =
    let refused = read_lines-first_fault old (line_after ended (begun ++ take end rest))
    (lines_from (ended + 1) (begun ++ (rest ++ more)))
    (lines_from (ended + 1 + 1) (drop (end + 1) rest ++ more)) fault
    (lines_from-first_ended (ended + 1) begun rest more end without found) in
    grind (arith, refused)

-- ---- a text from its front to its end

-- fed to a new reader, a text is read as a whole
pub list_if-no_list : (text : List ℕ) → list_if no_list text ≡ read_list text
unfolding read_list
list_if-no_list text = rw zero-add (ap (λ r. cond (nat_lt 16777216 (length text))
    (Err (fault_at 0 0 TooLarge)) r) (with_front-none (read_lines (lines_of text))))

-- bytes after the last line feed are a line that none ends
read_rest_of_lines-unended : (records : List Record) (ended : ℕ) (begun : List ℕ) → HasNoLineFeed begun
    → eqb (length begun) 0 ≡ false
    → read_rest_of_lines records ended begun ≡ Err (fault_at (ended + 1) 0 Unended)
unfolding read_lines read_line bytes_of_line
read_rest_of_lines-unended records ended begun without some =
    rw (lines_from-unended (ended + 1) begun without some) refl

-- without bytes no line is left
read_rest_of_lines-none : (records : List Record) (ended : ℕ)
    → read_rest_of_lines records ended [] ≡ Ok records
unfolding read_lines
read_rest_of_lines-none records ended = ap Ok (append-nil records)

-- the end of a text within the limit, of which no line was refused
list_if-nothing_more : (so_far : ListSoFar) → so_far.size ≤ 16777216 → so_far.fault ≡ None
    → list_if so_far [] ≡ read_rest_of_lines so_far.records so_far.ended so_far.begun
list_if-nothing_more so_far within none =
    let few : nat_lt 16777216 (so_far.size + 0) ≡ false = grind (arith, nat_tests) in
    rw (few, none, append-nil so_far.begun) refl

-- if a line has begun where the text ends, the fault is that none ends it
pub list_if-unended : (so_far : ListSoFar) → so_far.size ≤ 16777216 → so_far.fault ≡ None
    → HasNoLineFeed so_far.begun → eqb (length so_far.begun) 0 ≡ false
    → list_if so_far [] ≡ Err (fault_at (so_far.ended + 1) 0 Unended)
list_if-unended so_far within none without some = list_if-nothing_more so_far within none
    ∙ read_rest_of_lines-unended so_far.records so_far.ended so_far.begun without some

-- if no line has begun where the text ends, the records that were read are the list
pub list_if-ended : (so_far : ListSoFar) → so_far.size ≤ 16777216 → so_far.fault ≡ None
    → so_far.begun ≡ [] → list_if so_far [] ≡ Ok so_far.records
list_if-ended so_far within none nothing = list_if-nothing_more so_far within none
    ∙ rw nothing (read_rest_of_lines-none so_far.records so_far.ended)
