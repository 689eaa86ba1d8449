use Rattle.mc_forward.specs.declared.row.RowFor.{RowFor}
use Rattle.mc_forward.specs.FlightsInDomain.{net_in}
use Rattle.mc_forward.specs.RowValues.{row_value, HasValidEntry}
use Rattle.mc_forward.proofs.IndexLemmas.{each_by_index-push, length-push}
use Rattle.std.proofs.Common.{◌≡◌, ℕ}
use Rattle.mc_forward.proofs.flow_with_rows.rows_of.Goals as goal

-- The row of the next router is pushed behind those of the routers before it, so that it gets its
-- router's number.
pub loop-number-preserved : goal.loop-number-preserved
loop-number-preserved c = record {
  count = length-push c.loop-number.rows.items c.push.new.self.items c.row.result
      c.loop-number.number c.in_ok-push.ensures.items c.loop-number.invariant.count;
  rows = each_by_index-push (λ (r : ℕ) (x : RowFor). (row_value x ≡ (net_in c.args.view.now).row r)
      × HasValidEntry x) c.loop-number.rows.items c.push.new.self.items c.row.result
      c.loop-number.number c.in_ok-push.ensures.items c.loop-number.invariant.count
      (c.row.ensures.row, c.row.ensures.valid) c.loop-number.invariant.rows;
}
