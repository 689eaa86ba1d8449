use Rattle.std.proofs.Common.{◌≡◌, ℕ, ◌<◌, [], length}
use Rattle.std.specs.Prelude.{slice_index_or}
use Rattle.mc_forward.specs.Assembling.{interfaces_by_vif_lans}
use Rattle.mc_forward.proofs.interfaces.interfaces_of_lans.Given as goal

-- Each LAN's list has the vifs of the routers so far, by router and then by vif.
abbrev pub invariant-loop-number : goal.invariant-loop-number
invariant-loop-number l = record {
  count : length l.lists.items ≡ l.fn.lans;
  each : (lan : ℕ) → lan < l.fn.lans → slice_index_or l.lists.items lan []
      ≡ interfaces_by_vif_lans l.fn.vif_lans l.number lan;
}
