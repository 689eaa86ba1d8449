use Rattle.std.proofs.Common.{◌≡◌, [], map, drop, vec_len}
use Rattle.serde_json.specs.View.{view}
use Rattle.mc_cert.specs.Answer.{each_row}
use Rattle.mc_cert.proofs.rows.each_row.Given as goal

-- Reading the rows to come after those so far ends as reading all does.
abbrev pub invariant-loop-value : goal.invariant-loop-value
invariant-loop-value g l = record {
  rows : each_row (g.R.RowReader.row_value l.rows) (map g.R.RowReader.item_view l.items.items)
      (map view (drop l.value-index l.values))
      ≡ each_row (g.R.RowReader.row_value l.rows) [] (map view l.values);
  count : vec_len l.items ≡ l.value-index;
}
