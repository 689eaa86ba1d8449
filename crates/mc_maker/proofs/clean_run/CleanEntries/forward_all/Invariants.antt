-- The run went on to where the copies before this place were handled.
use Rattle.std.proofs.Common.{◌≡◌, ◌≤◌, [], length}
use Rattle.mc_forward.specs.FlightsInDomain.{net_in}
use Rattle.mc_maker.specs.CleanRuns.{GoesOnTo, GrowsTo, copies_so_far, flight_at}
use Rattle.mc_maker.proofs.clean_run.CleanEntries.forward_all.Given as goal

abbrev pub invariant-loop-place : goal.invariant-loop-place
invariant-loop-place l = record {
  run : GoesOnTo (net_in l.fn.view) l.fn.self.lans
      (flight_at (net_in l.fn.view) (copies_so_far l.fn.self).copies 0 [])
      (flight_at (net_in l.fn.view) (copies_so_far l.self).copies l.place []);
  within : l.place ≤ length l.self.entries;
  lans : l.self.lans ≡ l.fn.self.lans;
  grows : GrowsTo (net_in l.fn.view) l.fn.self l.self;
}
