-- A flight without a finding goes on: the picked copy is handled, which is the travel's next step.
use Rattle.std.proofs.Common.{◌≡◌, [], ◌∷◌, length, slice_get, None, ap, subst, sym}
use Rattle.std.proofs.Common.{◌∙◌, arith, length-append}
use Rattle.mc_theory.specs.Flights.{Copy}
use Rattle.mc_theory.specs.Findings.{finding}
use Rattle.mc_forward.specs.Domains.{net_of}
use Rattle.mc_forward.specs.PerLan.{HoldsFirstOfEachKey}
use Rattle.mc_replay.proofs.TravelLemmas.{first_copies_recorded-none, first_copies_recorded-more}
use Rattle.mc_replay.proofs.TravelLemmas.{travel_so_far-from_start, length-travel_so_far_below}
use Rattle.mc_replay.proofs.TravelLemmas.{length-travel_so_far}
use Rattle.mc_replay.proofs.TravelLemmas.{is_travel_to-travel_so_far, travel_so_far-more}
use Rattle.mc_replay.proofs.TravelLemmas.{flight-step_in_domain, event_of-in_domain}
use Rattle.mc_replay.proofs.TravelLemmas.{choice-same_count}
use Rattle.mc_replay.proofs.travel.travel_to_finding.Goals as goal

-- At the start nothing is stored and no event happened.
pub travel-init : goal.travel-init
travel-init g c =
    let d = c.args.view.now.domain in
    record {
      domain = c.requires.domain;
      flow = c.requires.flow;
      first_copies = first_copies_recorded-none c.args.firsts.now _ _ c.requires.count c.requires.firsts;
      travel_so_far = travel_so_far-from_start (net_of d c.args.view.now.flow) (length d.topology.lans) _ _ _
          c.requires.start c.requires.events;
    }

-- No flight before this one has a finding, so the travel ends here.
pub returns-in-Some-clause-run : goal.returns-in-Some-clause-run
returns-in-Some-clause-run g c =
    let d = c.args.view.now.domain in
    is_travel_to-travel_so_far (net_of d c.args.view.now.flow) (length d.topology.lans) _ _ _ _ _ _
    c.travel.invariant.travel_so_far (sym c.in-Some.ensures.finding)

-- Before there is a finding no placed vif hears two copies, so each event is at another one.
pub returns-in-Some-clause-short : goal.returns-in-Some-clause-short
returns-in-Some-clause-short g c =
    let d = c.args.view.now.domain in
    length-travel_so_far (net_of d c.args.view.now.flow) (length d.topology.lans) _ _ _ _ _
    c.travel.invariant.travel_so_far

-- Each event is at another placed vif, so one more event leaves fewer vifs without one.
pub travel-smaller : goal.travel-smaller
travel-smaller g c =
    let d = c.args.view.now.domain in
    let n = net_of d c.args.view.now.flow in
    let none : finding n (length d.topology.lans) c.travel.flight.flight
    ≡ None = sym c.in_default.ensures.finding in
    let chosen = choice-same_count (g.P.Picker.choices c.travel.picker) _ _ c.pick-pick.result
    c.pick-pick.ensures.value c.waiting.ensures in
    let room = length-travel_so_far_below n (length d.topology.lans) _ _ _ _ _ c.pick-pick.result
    c.travel.invariant.travel_so_far none chosen in
    let more = ap length c.in_ok-push.ensures.items in
    omega (arith, room, more, length-append c.travel.events.items (c.in_ok-handle.field-0 ∷ []))

-- The picked copy is handled, its event is added, and the copies that were carried before are stored: the
-- travel has come one step further.
pub travel-preserved : goal.travel-preserved
travel-preserved g c =
    let d = c.args.view.now.domain in
    let n = net_of d c.args.view.now.flow in
    let f = c.travel.flight.flight in
    let none : finding n (length d.topology.lans) f ≡ None = sym c.in_default.ensures.finding in
    let chosen = choice-same_count (g.P.Picker.choices c.travel.picker) _ _ c.pick-pick.result
    c.pick-pick.ensures.value c.waiting.ensures in
    let inv = c.travel.invariant in
    let next = flight-step_in_domain d c.args.view.now.flow c.pick-pick.result c.travel.flight
    c.handle.new.self inv.domain inv.flow c.in_ok-handle.ensures.ok in
    let event = event_of-in_domain d c.args.view.now.flow c.travel.flight
    (slice_get f.waiting c.pick-pick.result) c.in_ok-handle.field-0 inv.domain inv.flow
    c.in_ok-handle.ensures.event in
    let new = c.record_first_copies-second.new.firsts in
    let filled = subst (HoldsFirstOfEachKey (λ (x : Copy). x.lan) new) c.copies-copies.ensures.copies
    c.record_first_copies-second.ensures.firsts in
    record {
      domain = next.0;
      flow = next.1;
      first_copies = first_copies_recorded-more n (length d.topology.lans) _ c.pick-pick.result _ f
          c.handle.new.self.flight (c.record_first_copies-second.ensures.count
          ∙ inv.first_copies.count) filled none
          (ap length c.copies-copies.ensures.copies) next.2;
      travel_so_far = travel_so_far-more n (length d.topology.lans) _ _ _ _ f c.handle.new.self.flight
          c.travel.events.items c.push.new.self.items c.pick-pick.result c.in_ok-handle.field-0
          inv.travel_so_far none chosen c.pick-pick.ensures.rest next.2 event c.in_ok-push.ensures.items;
    }
