use Rattle.std.proofs.Common.{◌+◌, length, length-append, sym, ap, ◌∙◌, arith, Err}
use Rattle.std.proofs.lemmas.Result.{err_from_is_err_and}
use Rattle.toml.specs.View.{view}
use Rattle.mc_topology.specs.declared.fault.TopologyFault.{TopologyFault}
use Rattle.mc_topology.specs.Faults.{locate_fault}
use Rattle.mc_topology.proofs.EachRow.{read_rows-more, read_rows-Err, read_rows-all}
use Rattle.mc_topology.proofs.read.rows.each_row.Goals as goal

-- The rows before this one were read, so that the first fault of all rows is this one's, unless memory
-- ran out.
pub returns-in_err-read_row-clause-rows : goal.returns-in_err-read_row-clause-rows
returns-in_err-read_row-clause-rows g c =
    let p = err_from_is_err_and c.from_residual.result c.from_residual.ensures.1 in
    let refused =
    read_rows-Err _ view (g.S.SectionRows.rows c.loop-index.section) c.args.rows.now c.loop-index.index
    c.index-rows-index.result c.in_err-read_row.field-0.0 c.loop-index-test.true
    c.index-rows-index.is in
    rw (p.1, p.2) (
    λ other.
    let fault =
    c.in_err-read_row.ensures.fault (λ e. other (ap (λ (f : TopologyFault). Err f) e)) in
    sym c.loop-index.invariant.rows ∙ refused (rw (c.loop-index.invariant.count) fault)
    )

-- One more row is read in view of those before it, and numbered by how many they are.
pub loop-index-preserved : goal.loop-index-preserved
loop-index-preserved g c =
    let added = c.in_ok-read_row.ensures.added in
    let earlier = g.S.SectionRows.rows c.loop-index.section in
    let next =
    read_rows-more _ view earlier c.args.rows.now c.loop-index.index
    c.index-rows-index.result added.0 c.loop-index-test.true c.index-rows-index.is
    (ap (locate_fault g.S.SectionRows.section (length earlier + 1)) added.1) in
    record {
      rows = rw added.2 (sym next ∙ c.loop-index.invariant.rows);
      count = rw (added.2, length-append) (omega (arith, c.loop-index.invariant.count));
    }

-- No row is left, so that reading the rest gives the rows that were read.
pub returns-clause-rows : goal.returns-clause-rows
returns-clause-rows g c =
    let all =
    read_rows-all _ view (g.S.SectionRows.rows c.loop-index.section) c.args.rows.now c.loop-index.index
    c.loop-index-test.false in
    λ _. sym c.loop-index.invariant.rows ∙ all
