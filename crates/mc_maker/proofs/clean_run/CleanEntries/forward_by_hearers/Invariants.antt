-- What goes past those that wait at the interfaces that are left goes past all of them from the old copies.
use Rattle.std.proofs.Common.{◌≡◌, Some}
use Rattle.mc_theory.specs.Lists.{In}
use Rattle.mc_theory.specs.Nets.{Interface, interfaces}
use Rattle.mc_theory.specs.Reasons.{entry_on}
use Rattle.mc_forward.specs.FlightsInDomain.{net_in}
use Rattle.mc_maker.specs.CleanRuns.{CopiesSoFar, GoesPast, GrowsTo, copies_so_far, copy_of, waiting_at}
use Rattle.mc_maker.proofs.clean_run.CleanEntries.forward_by_hearers.Given as goal

abbrev pub invariant-loop-interface : goal.invariant-loop-interface
invariant-loop-interface l = record {
  rest : (new : CopiesSoFar)
      → GoesPast (net_in l.fn.view) (waiting_at (copy_of l.fn.base) l.interface-iterator)
      (copies_so_far l.self) new
      → GoesPast (net_in l.fn.view)
      (waiting_at (copy_of l.fn.base) (interfaces (net_in l.fn.view) l.fn.base.lan))
      (copies_so_far l.fn.self) new;
  placed : (i : Interface) → In i l.interface-iterator
      → (net_in l.fn.view).placed i.0 i.1 ≡ Some l.fn.base.lan;
  lans : l.self.lans ≡ l.fn.self.lans;
  first : entry_on l.self.entries l.fn.base.lan ≡ Some l.fn.base;
  grows : GrowsTo (net_in l.fn.view) l.fn.self l.self;
}
