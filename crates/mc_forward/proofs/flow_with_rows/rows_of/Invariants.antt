use Rattle.std.proofs.Common.{◌≡◌, length}
use Rattle.mc_forward.specs.FlightsInDomain.{net_in}
use Rattle.mc_forward.specs.RowValues.{AreRowsOf}
use Rattle.mc_forward.proofs.flow_with_rows.rows_of.Given as goal

-- The rows so far are those of the routers so far, each at its router's number.
abbrev pub invariant-loop-number : goal.invariant-loop-number
invariant-loop-number l = record {
  count : length l.rows.items ≡ l.number;
  rows : AreRowsOf (net_in l.fn.view) l.rows.items;
}
