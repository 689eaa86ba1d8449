use Rattle.std.proofs.Common.{◌+◌, ◌++◌, take, drop, sym, ◌∙◌, ap, refl}
use Rattle.std.proofs.lemmas.Result.{err_from_is_err_and}
use Rattle.mc_text.specs.LineView.{line_text}
use Rattle.mc_tables.specs.LinesSoFar.{LinesSoFar, with_begun, read_after, line_after}
use Rattle.mc_tables.proofs.PieceLemmas.{read_after-taken, read_after-refused, judge-begun_line}
use Rattle.mc_tables.proofs.lines.rows.read_whole_line.Goals as goal

-- The line is the one that the buffer would have. What is read
-- after it is what the bytes behind its line feed are.
pub returns-clause-reads : goal.returns-clause-reads
returns-clause-reads g c = λ more.
    let header = g.R.TableRows.header in
    let table = g.R.TableRows.table in
    let step = g.R.TableRows.step in
    let lines = c.args.lines.now in
    let rows = c.args.rows.now in
    let rest = c.args.rest.now in
    let end = c.args.end in
    let new = c.add_line.new.self in
    let begun = with_begun lines (end + 1) (take end rest) in
    let judged = judge-begun_line (line_after header (step rows) rows) begun begun c.ended.result
    (line_text c.line_of.result) refl c.ended.ensures.ended c.line_of.ensures.value in
    read_after-taken header table step c.requires.steps lines rows new rest more end
    c.ended.ensures.rules.begun c.requires.end (judged ∙ c.in_ok-add_line.ensures.added)
    ∙ ap (λ (l : LinesSoFar). read_after header (table new) l (drop (end + 1) rest ++ more))
    (sym c.skip_line.ensures.change)

-- A fault of the line is that of the text, whatever follows.
pub returns-in_err-add_line-clause-fault : goal.returns-in_err-add_line-clause-fault
returns-in_err-add_line-clause-fault g c = λ more.
    let header = g.R.TableRows.header in
    let table = g.R.TableRows.table in
    let step = g.R.TableRows.step in
    let lines = c.args.lines.now in
    let rows = c.args.rows.now in
    let rest = c.args.rest.now in
    let end = c.args.end in
    let begun = with_begun lines (end + 1) (take end rest) in
    let judged = judge-begun_line (line_after header (step rows) rows) begun begun c.ended.result
    (line_text c.line_of.result) refl c.ended.ensures.ended c.line_of.ensures.value in
    let p = err_from_is_err_and c.from_residual.result c.from_residual.ensures.1 in
    rw (p.1, p.2) (λ there. read_after-refused header table step c.requires.steps lines rows
    c.in_err-add_line.field-0.0 rest more end c.ended.ensures.rules.begun c.requires.end
    (judged ∙ c.in_err-add_line.ensures.fault there))
