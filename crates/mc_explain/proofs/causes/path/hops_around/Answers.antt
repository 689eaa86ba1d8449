-- The hops back to the copy's own LAN are those to the source's LAN, up to the first that takes from its own.
use Rattle.std.proofs.Common.{ap, length}
use Rattle.mc_theory.specs.Flights.{Copy}
use Rattle.mc_forward.specs.FlightsInDomain.{net_in}
use Rattle.mc_explain.proofs.BackLemmas.{hops_until-cut, hops_until-uncut}
use Rattle.mc_explain.proofs.causes.path.hops_around.Goals as goal

-- No hop takes from the copy's LAN, so none is left out.
pub returns-in_default : goal.returns-in_default
returns-in_default c = record {
  ok = (
      let cs = c.args.copies.now in
      let copy = c.args.copy.now in
      hops_until-uncut (net_in c.args.view.now) cs copy.lan c.copy.inside.lan (length cs) copy.lan copy.sender
      c.in_ok-hops.hops.items c.deref.result.now c.place_of_hop_from.result
      (ap (λ (x : Copy). x.lan) c.copy.view_is) c.in_ok-hops.ensures.ok c.deref.ensures.value
      c.place_of_hop_from.ensures c.in_default.is);
}

-- The hops are cut behind the first that takes from the copy's LAN.
pub returns : goal.returns
returns c = record {
  ok = (
      let cs = c.args.copies.now in
      let copy = c.args.copy.now in
      hops_until-cut (net_in c.args.view.now) cs copy.lan c.copy.inside.lan (length cs) copy.lan copy.sender
      c.in_ok-hops.hops.items c.deref.result.now c.truncate.new.self.items c.place_of_hop_from.result
      c.in-Some.place (ap (λ (x : Copy). x.lan) c.copy.view_is) c.in_ok-hops.ensures.ok
      c.deref.ensures.value c.place_of_hop_from.ensures c.in-Some.is c.truncate.ensures.items);
}
