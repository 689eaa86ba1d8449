use Rattle.std.proofs.Common.{◌≡◌, [], ◌∷◌, length, map, sym, ◌∙◌, arith}
use Rattle.std.proofs.lemmas.List.{length-map, map-append}
use Rattle.std.proofs.lemmas.Result.{err_from_is_err_and}
use Rattle.serde_json.specs.View.{view}
use Rattle.mc_topology.proofs.EachRow.{read_rows-more, read_rows-Err, read_rows-all}
use Rattle.mc_cert.proofs.rows.each_row.Goals as goal

-- The rows before were read, so that the first fault is this row's.
pub returns-in_err-item-clause-rows : goal.returns-in_err-item-clause-rows
returns-in_err-item-clause-rows g c =
    let p = err_from_is_err_and c.from_residual-in_err-item.result
    c.from_residual-in_err-item.ensures.1 in
    let item_view = g.R.RowReader.item_view in
    let items = c.loop-value.items.items in
    let long : c.len.result ≡ length items = omega arith in
    rw (p.1, p.2) (λ some. sym c.loop-value.invariant.rows
    ∙ read_rows-Err _ view (map item_view items) c.args.values.now c.loop-value.value-index
    c.value-item.result c.in_err-item.field-0.0 c.loop-value-test.true c.value-item.is
    (rw (length-map items item_view, ← long) (c.in_err-item.ensures.gives some)))

-- The row that was read is the first of those to come.
pub loop-value-preserved : goal.loop-value-preserved
loop-value-preserved g c =
    let item_view = g.R.RowReader.item_view in
    let items = c.loop-value.items.items in
    let long : c.len.result ≡ length items = omega arith in
    let next = read_rows-more _ view (map item_view items) c.args.values.now c.loop-value.value-index
    c.value-item.result (item_view c.in_ok-item.item) c.loop-value-test.true c.value-item.is
    (rw (length-map items item_view, ← long) c.in_ok-item.ensures.gives) in
    record {
      rows = rw (c.in_ok-push.ensures.items, map-append item_view items (c.in_ok-item.item ∷ []))
          (sym next ∙ c.loop-value.invariant.rows);
      count = omega (arith, c.in_ok-push.ensures.len);
    }

-- At the end no row is to come.
pub returns-clause-rows : goal.returns-clause-rows
returns-clause-rows g c = sym c.loop-value.invariant.rows
    ∙ read_rows-all _ view (map g.R.RowReader.item_view c.loop-value.items.items) c.args.values.now
    c.loop-value.value-index c.loop-value-test.false
