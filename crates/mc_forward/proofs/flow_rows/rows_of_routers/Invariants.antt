use Rattle.std.proofs.Common.{◌≡◌, length, take}
use Rattle.std.specs.List.{AllByRecursion}
use Rattle.mc_forward.specs.Assembling.{rows_by_tables}
use Rattle.mc_forward.specs.RouterTables.{HaveRows}
use Rattle.mc_forward.proofs.flow_rows.rows_of_routers.Given as goal

-- The rows so far are those of the routers so far, each with one for every flow.
abbrev pub invariant-loop-own : goal.invariant-loop-own
invariant-loop-own l = record {
  rows : l.rows.items ≡ rows_by_tables l.fn.topology.flows (take l.own-index l.fn.tables);
  each : AllByRecursion (HaveRows (length l.fn.topology.flows)) l.rows.items;
  hints : length l.hints.items ≡ length l.fn.topology.flows;
}
