use Rattle.std.proofs.Common.{◌≡◌, [], length, map, drop}
use Rattle.toml.specs.View.{view}
use Rattle.mc_topology.specs.EachRow.{each_row}
use Rattle.mc_topology.proofs.read.rows.each_row.Given as goal

-- Reading the rows that are left, after those so far, gives what reading them all gives.
abbrev pub invariant-loop-index : goal.invariant-loop-index
invariant-loop-index g l = record {
  rows : each_row g.S.SectionRows.section (g.S.SectionRows.row_value l.before)
      (g.S.SectionRows.rows l.section)
      (map view (drop l.index l.rows))
      ≡ each_row g.S.SectionRows.section (g.S.SectionRows.row_value l.before) [] (map view l.rows);
  count : length (g.S.SectionRows.rows l.section) ≡ l.index;
}
