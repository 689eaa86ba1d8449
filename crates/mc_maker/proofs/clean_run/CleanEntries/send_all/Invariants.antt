-- What leads on by the pairs that are left leads on by all pairs from the old copies.
use Rattle.std.proofs.Common.{◌≡◌, Some, drop}
use Rattle.mc_theory.specs.Flights.{sends}
use Rattle.mc_theory.specs.Reasons.{entry_on}
use Rattle.mc_forward.specs.Domains.{oif_pairs}
use Rattle.mc_forward.specs.FlightsInDomain.{net_in}
use Rattle.mc_maker.specs.CleanRuns.{CopiesSoFar, GrowsTo, Leads, copies_so_far, copy_of}
use Rattle.mc_maker.proofs.clean_run.CleanEntries.send_all.Given as goal

abbrev pub invariant-loop-oif : goal.invariant-loop-oif
invariant-loop-oif l = record {
  rest : (new : CopiesSoFar)
      → Leads (net_in l.fn.view) (sends (net_in l.fn.view) l.fn.router (copy_of l.fn.base).ttl
      (oif_pairs (drop l.oif-index l.fn.oifs))) (copies_so_far l.self) new
      → Leads (net_in l.fn.view) (sends (net_in l.fn.view) l.fn.router (copy_of l.fn.base).ttl
      (oif_pairs l.fn.oifs))
      (copies_so_far l.fn.self) new;
  lans : l.self.lans ≡ l.fn.self.lans;
  first : entry_on l.self.entries l.fn.base.lan ≡ Some l.fn.base;
  grows : GrowsTo (net_in l.fn.view) l.fn.self l.self;
}
