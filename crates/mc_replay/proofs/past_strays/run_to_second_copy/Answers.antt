-- A flight in which no LAN carried two copies and a copy waits is one from which the run goes on; handling
-- its first waiting copy is the run's next step.
use Rattle.std.proofs.Common.{◌≡◌, length, true, ap, arith, subst, ◌∙◌}
use Rattle.mc_theory.specs.Flights.{Copy}
use Rattle.mc_forward.specs.Domains.{net_of}
use Rattle.mc_forward.specs.PerLan.{HoldsFirstOfEachKey}
use Rattle.mc_replay.specs.PastStrays.{goes_on}
use Rattle.mc_replay.proofs.PastRunLemmas.{goes_on-by_counts, room_left-step, run_so_far-start}
use Rattle.mc_replay.proofs.PastRunLemmas.{run_so_far-step}
use Rattle.mc_replay.proofs.PastStraysLemmas.{goes_on-once}
use Rattle.mc_replay.proofs.TravelLemmas.{first_copies_recorded-next, first_copies_recorded-none}
use Rattle.mc_replay.proofs.TravelLemmas.{flight-step_in_domain}
use Rattle.mc_replay.proofs.past_strays.run_to_second_copy.Goals as goal

-- At the start no copy is stored, and the run has made no step.
pub run-init : goal.run-init
run-init c = record {
  domain = c.requires.domain;
  flow = c.requires.flow;
  first_copies = first_copies_recorded-none c.args.firsts.now _ _ c.requires.count c.requires.firsts;
  so_far = run_so_far-start (net_of c.args.view.now.domain c.args.view.now.flow) _ c.requires.start;
}

-- While no LAN carried two copies, each placed vif hears at most one copy, so each handling leaves fewer of
-- them to come.
pub run-smaller : goal.run-smaller
run-smaller c =
    let d = c.args.view.now.domain in
    let n = net_of d c.args.view.now.flow in
    let f = c.run.flight.flight in
    let inv = c.run.invariant in
    let goes : goes_on f ≡ true = goes_on-by_counts f c.record_first_copies-second.result _ _
    c.record_first_copies-second.ensures.second c.copies-copies.ensures.copies (grind arith) c.waiting.ensures
    c.if-waiting-eq0.false in
    let next = flight-step_in_domain d c.args.view.now.flow 0 c.run.flight c.handle.new.self
    inv.domain inv.flow c.in_ok-_event.ensures.ok in
    room_left-step n c.args.flight.now.flight f c.handle.new.self.flight inv.so_far goes next.2

-- The handled flight is the next one of the run, and the copies that were carried before it are stored.
pub run-preserved : goal.run-preserved
run-preserved c =
    let d = c.args.view.now.domain in
    let n = net_of d c.args.view.now.flow in
    let f = c.run.flight.flight in
    let inv = c.run.invariant in
    let goes : goes_on f ≡ true = goes_on-by_counts f c.record_first_copies-second.result _ _
    c.record_first_copies-second.ensures.second c.copies-copies.ensures.copies (grind arith) c.waiting.ensures
    c.if-waiting-eq0.false in
    let next = flight-step_in_domain d c.args.view.now.flow 0 c.run.flight c.handle.new.self
    inv.domain inv.flow c.in_ok-_event.ensures.ok in
    let filled = subst (HoldsFirstOfEachKey (λ (x : Copy). x.lan) c.record_first_copies-second.new.firsts)
    c.copies-copies.ensures.copies c.record_first_copies-second.ensures.firsts in
    record {
      domain = next.0;
      flow = next.1;
      first_copies = first_copies_recorded-next n (length d.topology.lans) _ 0 _ f c.handle.new.self.flight
          (c.record_first_copies-second.ensures.count ∙ inv.first_copies.count) filled (goes_on-once f goes)
          (ap length c.copies-copies.ensures.copies) next.2;
      so_far = run_so_far-step n c.args.flight.now.flight f c.handle.new.self.flight inv.so_far goes next.2;
    }
