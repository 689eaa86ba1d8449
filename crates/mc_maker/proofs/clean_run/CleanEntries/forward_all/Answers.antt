-- Each copy is handled in its turn.
use Rattle.std.proofs.Common.{◌≡◌, ◌∙◌, [], subst, arith, length, ℕ}
use Rattle.std.proofs.lemmas.Bool.{leb-true}
use Rattle.std.proofs.lemmas.List.{length-map}
use Rattle.mc_forward.specs.FlightsInDomain.{net_in}
use Rattle.mc_maker.specs.CleanRuns.{GoesOnTo, copies_so_far, copy_of, flight_at}
use Rattle.mc_maker.proofs.CleanRunLemmas.{goes_on_to-next, grows-then}
use Rattle.mc_maker.proofs.clean_run.CleanEntries.forward_all.Goals as goal

pub returns-then-place-len-clause-run : goal.returns-then-place-len-clause-run
returns-then-place-len-clause-run c same =
    let net = net_in c.args.view.now in
    let all : c.loop-place.place ≡ length (copies_so_far c.loop-place.self).copies =
    omega (
      arith,
      c.loop-place.invariant.within,
      c.if-place-len.true,
      c.len.ensures.count,
      length-map c.loop-place.self.entries copy_of,
    ) in
    record {
      run = subst (λ (k : ℕ). GoesOnTo net c.args.self.now.lans
          (flight_at net (copies_so_far c.args.self.now).copies 0 [])
          (flight_at net (copies_so_far c.loop-place.self).copies k [])) all c.loop-place.invariant.run;
      lans = c.loop-place.invariant.lans;
    }

pub loop-place-preserved : goal.loop-place-preserved
loop-place-preserved c =
    let net = net_in c.args.view.now in
    let past = c.in_ok-forward_by_hearers.ensures.run c.if-not-branch.false in
    let grown = c.in_ok-forward_by_hearers.ensures.entries c.if-not-branch.false in
    record {
      run = goes_on_to-next net c.args.self.now.lans _ (copy_of c.entry-base.result)
          c.loop-place.place
          (copies_so_far c.loop-place.self) (copies_so_far c.forward_by_hearers.new.self)
          c.loop-place.invariant.run c.entry-base.ensures.copy
          c.loop-place.invariant.lans past;
      within = omega (
        arith,
        past.more,
        c.if-place-len.false,
        c.len.ensures.count,
        length-map c.loop-place.self.entries copy_of,
        length-map c.forward_by_hearers.new.self.entries copy_of,
      );
      lans = past.lans ∙ c.loop-place.invariant.lans;
      grows = grows-then net c.args.self.now c.loop-place.self c.forward_by_hearers.new.self
          c.loop-place.invariant.grows grown;
    }

pub returns-clause-run : goal.returns-clause-run
returns-clause-run c few =
    let net = net_in c.args.view.now in
    let all : c.loop-place.place ≡ length (copies_so_far c.loop-place.self).copies =
    omega (
      arith,
      c.loop-place.invariant.within,
      c.loop-place-test.false,
      leb-true _ _ few,
      c.len-2.ensures.count,
      c.lans-2.ensures.count,
      c.lans-place-end.ensures.count,
      length-map c.loop-place.self.entries copy_of,
    ) in
    record {
      run = subst (λ (k : ℕ). GoesOnTo net c.args.self.now.lans
          (flight_at net (copies_so_far c.args.self.now).copies 0 [])
          (flight_at net (copies_so_far c.loop-place.self).copies k [])) all c.loop-place.invariant.run;
      lans = c.loop-place.invariant.lans;
    }
