use Rattle.std.proofs.Common.{◌+◌, ◌++◌, take, drop, sym, ◌∙◌, ap}
use Rattle.std.proofs.lemmas.Result.{err_from_is_err_and}
use Rattle.mc_text.specs.LineView.{line_text}
use Rattle.mc_tables.specs.LinesSoFar.{LinesSoFar, with_begun, with_ended, read_after, line_after}
use Rattle.mc_tables.proofs.PieceLemmas.{read_after-taken, read_after-refused, judge-begun_line}
use Rattle.mc_tables.proofs.lines.rows.read_begun_line.Goals as goal

-- The buffer now has the whole line. What is read after it is what the bytes behind its line feed are.
pub returns-clause-reads : goal.returns-clause-reads
returns-clause-reads g c = λ more.
    let header = g.R.TableRows.header in
    let table = g.R.TableRows.table in
    let step = g.R.TableRows.step in
    let lines = c.args.lines.now in
    let rows = c.args.rows.now in
    let rest = c.args.rest.now in
    let end = c.in-Some.end in
    let new = c.add_line.new.self in
    let found = rw c.in-Some.is at c.in_ok-end.ensures.taken in
    let begun = with_begun lines (end + 1) (take end rest) in
    let judged = judge-begun_line (line_after header (step rows) rows) begun c.take_to_line_feed.new.self
    c.ended.result (line_text c.line.result) found.1 c.ended.ensures.ended c.line.ensures in
    read_after-taken header table step c.requires.steps lines rows new rest more end
    c.take_to_line_feed.ensures.rules.begun found.0 (judged ∙ c.in_ok-add_line.ensures.added)
    ∙ ap (λ (l : LinesSoFar). read_after header (table new) (with_ended l)
    (drop (end + 1) rest ++ more)) (sym found.1)
    ∙ ap (λ (l : LinesSoFar). read_after header (table new) l (drop (end + 1) rest ++ more))
    (sym c.begin_next_line.ensures.change)

-- A fault of the line is that of the text, whatever follows.
pub returns-in_err-add_line-clause-fault : goal.returns-in_err-add_line-clause-fault
returns-in_err-add_line-clause-fault g c = λ more.
    let header = g.R.TableRows.header in
    let table = g.R.TableRows.table in
    let step = g.R.TableRows.step in
    let lines = c.args.lines.now in
    let rows = c.args.rows.now in
    let rest = c.args.rest.now in
    let end = c.in-Some.end in
    let found = rw c.in-Some.is at c.in_ok-end.ensures.taken in
    let begun = with_begun lines (end + 1) (take end rest) in
    let judged = judge-begun_line (line_after header (step rows) rows) begun c.take_to_line_feed.new.self
    c.ended.result (line_text c.line.result) found.1 c.ended.ensures.ended c.line.ensures in
    let result = c.from_residual-in_err-add_line in
    let p = err_from_is_err_and result.result result.ensures.1 in
    rw (p.1, p.2) (λ there. read_after-refused header table step c.requires.steps lines rows
    c.in_err-add_line.field-0.0 rest more end c.take_to_line_feed.ensures.rules.begun found.0
    (judged ∙ c.in_err-add_line.ensures.fault there))
