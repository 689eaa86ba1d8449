use Rattle.std.proofs.Common.{◌≡◌, ◌+◌, false, List, [], ◌∷◌, ℕ, Option, None, Result, Err, ap, sym, ◌∙◌}
use Rattle.mc_text.specs.Lines.{LineText}
use Rattle.mc_text.specs.Steps.{◌>>=◌}
use Rattle.mc_tables.specs.declared.fault.TableFault.{TableFault}
use Rattle.mc_tables.specs.LinesSoFar.{LinesSoFar, read_after}
use Rattle.mc_tables.specs.Steps.{unless_fault}
use Rattle.mc_tables.specs.TableSoFar.{TableSoFar, table_if}
use Rattle.mc_tables.proofs.PieceLemmas.{read_after-no_header, read_after-unended}
use Rattle.mc_tables.proofs.lines.table_reader.TableReader.finish.Goals as goal

-- what reading ends with, by the parts of a reader without a fault
by_parts : {R A : Type 0} (first : List ℕ) (read : R → List LineText → Result A TableFault)
    (lines : LinesSoFar) (rows : R) (fault : Option TableFault) (reader : TableSoFar R)
    (answer : Result A TableFault) → answer ≡ read_after first (read rows) lines []
    → fault ≡ None → record { lines = lines; rows = rows; fault = fault } ≡ reader
    → answer ≡ table_if first read reader []
by_parts first read lines rows fault reader answer is none view =
    is ∙ ap (λ f. unless_fault f (read_after first (read rows) lines [])) (sym none)
    ∙ ap (λ s. table_if first read s []) view

-- No line has ended, so that the text has no header.
pub returns-then-ended-eq0 : goal.returns-then-ended-eq0
returns-then-ended-eq0 g c =
    let first = g.R.TableRows.header in
    let read = g.R.TableRows.table in
    let lines = c.self.inside.lines in
    let rows = c.self.inside.rows in
    by_parts first read lines rows c.self.inside.fault c.args.self (Err c.in-Err.fault)
    (ap (λ r. r >>= λ _. Err c.in-Err.fault) c.in-Err.ensures.end
    ∙ sym (read_after-no_header first (read rows) lines (Err c.in-Err.fault) c.check_end.ensures.rules.begun
    (sym c.ended.ensures.ended ∙ c.if-ended-eq0.true)))
    c.in_default.is c.self.view_is

-- The last line has no line feed, and the rows say with which fault such a text ends.
pub returns-in-Err : goal.returns-in-Err
returns-in-Err g c =
    let first = g.R.TableRows.header in
    let read = g.R.TableRows.table in
    let lines = c.self.inside.lines in
    let rows = c.self.inside.rows in
    by_parts first read lines rows c.self.inside.fault c.args.self (Err c.unended_fault.result)
    (sym (read_after-unended first (read rows) lines c.in-Err.fault c.check_end.ensures.rules.begun
    (λ none. c.if-ended-eq0.false (c.ended.ensures.ended ∙ none)) (sym c.in-Err.ensures.end)
    ∙ ap (λ n. read rows (record { number = n + 1; bytes = lines.begun; ended = false } ∷ []))
    (sym c.ended-in-Err.ensures.ended)
    ∙ c.unended_fault.ensures lines.begun))
    c.in_default.is c.self.view_is
