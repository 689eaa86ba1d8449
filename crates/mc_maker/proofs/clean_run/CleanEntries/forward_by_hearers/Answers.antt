-- One interface more.
use Rattle.std.proofs.Common.{◌≡◌, ◌∙◌, [], ap, sym, subst, refl, inl, inr, List}
use Rattle.mc_theory.specs.Certificates.{Entry}
use Rattle.mc_theory.specs.Lists.{In}
use Rattle.mc_theory.specs.Nets.{Interface, interfaces}
use Rattle.mc_theory.proofs.PlacedInterfaces.{placed-member_of_interfaces}
use Rattle.mc_forward.specs.FlightsInDomain.{net_in}
use Rattle.mc_maker.specs.CleanRuns.{GoesPast, copies_so_far, copy_of, waiting_at}
use Rattle.mc_maker.proofs.CleanRunLemmas.{goes_past-nothing, grows-here, grows-then}
use Rattle.mc_maker.proofs.clean_run.CleanEntries.forward_by_hearers.Goals as goal

pub loop-interface-init : goal.loop-interface-init
loop-interface-init c =
    let net = net_in c.args.view.now in
    let all = c.into_iter-interface-iterator.ensures.into_iter_gives ∙ c.interfaces-interface-items.ensures.value
    ∙ ap (λ (x : Entry). interfaces net x.lan) c.base.view_is in
    record {
      rest = λ new past. subst (λ (is : List Interface). GoesPast net
          (waiting_at (copy_of c.args.base.now) is) (copies_so_far c.args.self.now) new) all past;
      placed = λ i h. placed-member_of_interfaces net i c.args.base.now.lan (subst (In i) all h);
      lans = refl;
      first = c.requires.first;
      grows = grows-here net c.args.self.now;
    }

pub forward_at-requires : goal.forward_at-requires
forward_at-requires c = record {
  lans = c.loop-interface.invariant.lans ∙ c.requires.lans;
  at = c.loop-interface.invariant.placed _ (subst (In _) (sym c.in-Some.ensures.steps) (inl refl));
  first = c.loop-interface.invariant.first;
}

pub loop-interface-preserved : goal.loop-interface-preserved
loop-interface-preserved c =
    let net = net_in c.args.view.now in
    let past = c.in_ok-forward_at.ensures.run c.if-not-branch.false in
    let grown = c.in_ok-forward_at.ensures.entries c.if-not-branch.false in
    record {
      rest = λ new later. c.loop-interface.invariant.rest new
          (subst (λ (is : List Interface). GoesPast net (waiting_at (copy_of c.args.base.now) is)
          (copies_so_far c.loop-interface.self) new) (sym c.in-Some.ensures.steps)
          (past.run c.next.new.self new later));
      placed = λ i h. c.loop-interface.invariant.placed i (subst (In i) (sym c.in-Some.ensures.steps) (inr h));
      lans = past.lans ∙ c.loop-interface.invariant.lans;
      first = grown.kept c.args.base.now.lan c.args.base.now c.loop-interface.invariant.first;
      grows = grows-then net c.args.self.now c.loop-interface.self c.forward_at.new.self
          c.loop-interface.invariant.grows grown;
    }

pub returns-clause-run : goal.returns-clause-run
returns-clause-run c same =
    let none : c.loop-interface.interface-iterator ≡ [] = c.in-None.ensures.steps.0 in
    c.loop-interface.invariant.rest (copies_so_far c.loop-interface.self)
    (rw none (goes_past-nothing (net_in c.args.view.now) (copies_so_far c.loop-interface.self)))
