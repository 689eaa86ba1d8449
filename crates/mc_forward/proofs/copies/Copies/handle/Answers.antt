-- The handled copy is removed last.
use Rattle.std.proofs.Common.{◌≡◌, ◌<◌, List, length, get_or, ap, sym, subst, ◌∙◌}
use Rattle.mc_theory.specs.Flights.{Waiting, Flight, without_waiting}
use Rattle.mc_forward.specs.FlightsInDomain.{net_in, flight_of}
use Rattle.mc_forward.proofs.HandleLemmas.{without_waiting-after_handle, event_of-handled_copy}
use Rattle.mc_forward.proofs.HandleLemmas.{still_waits-after_handle}
use Rattle.mc_forward.proofs.copies.Copies.handle.Goals as goal

-- What the router sends waits behind the others, so that the handled copy is still at its place.
pub remove_waiting-requires : goal.remove_waiting-requires
remove_waiting-requires c = record {
  waits = (
      let ok = c.in-Ok.ensures.ok in
      subst (λ (f : Flight). c.args.index < length f.waiting) (sym c.self-2.view_is)
      (still_waits-after_handle (net_in c.args.flow.now) c.args.self.now c.forward.new.self c.args.index
      c.index.result.now c.requires.waits ok));
}

-- Sending first and removing then leaves what removing first and sending then does, since new copies
-- wait behind all others.
pub returns-in-Ok-clause-ok : goal.returns-in-Ok-clause-ok
returns-in-Ok-clause-ok c =
    let read = subst (λ (f : Flight). c.index.result.now ≡ get_or f.waiting c.args.index
    c.index.result.now) c.self.view_is c.index.ensures in
    ap (λ (ws : List Waiting). flight_of c.self-2.inside.carried.items ws
    c.self-2.inside.strays.items) c.remove_waiting.ensures.removed
    ∙ ap (without_waiting c.args.index) c.self-2.view_is
    ∙ without_waiting-after_handle (net_in c.args.flow.now) c.args.self.now c.forward.new.self c.args.index
    c.index.result.now c.requires.waits read c.in-Ok.ensures.ok

-- The copy was read before anything was sent, so that the event is of the one that waited at this
-- place.
pub returns-in-Ok-clause-event : goal.returns-in-Ok-clause-event
returns-in-Ok-clause-event c =
    let read = subst (λ (f : Flight). c.index.result.now ≡ get_or f.waiting c.args.index
    c.index.result.now) c.self.view_is c.index.ensures in
    event_of-handled_copy (net_in c.args.flow.now) c.args.self.now.waiting c.args.index c.index.result.now _ _
    c.requires.waits read c.taken.view_is c.in-Ok.ensures.outcome
