use Rattle.std.proofs.Common.{◌≡◌, length, map, take}
use Rattle.std.specs.List.{AllByRecursion}
use Rattle.mc_forward.specs.Domains.{IsValidRow, row_in_cache}
use Rattle.mc_forward.specs.FlatRows.{rows_of}
use Rattle.mc_forward.proofs.flow_rows.flow_rows_of.Given as goal

-- The rows so far are those of the flows so far, in their order.
abbrev pub invariant-loop-flow : goal.invariant-loop-flow
invariant-loop-flow l = record {
  rows : rows_of l.rows.lists ≡ map (row_in_cache l.fn.cache) (take l.flow l.fn.topology.flows);
  valid : AllByRecursion IsValidRow (rows_of l.rows.lists);
  hints : length l.hints.items ≡ length l.fn.topology.flows;
}
