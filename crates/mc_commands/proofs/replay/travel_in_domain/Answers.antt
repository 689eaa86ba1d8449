use Rattle.std.proofs.Common.{inl, inr, refl}
use Rattle.std.proofs.lemmas.Result.{err_from_is_err_and}
use Rattle.mc_commands.proofs.ReplayLemmas.{is_text_of_travel-replayed}
use Rattle.mc_commands.proofs.FaultLemmas.{is_fault_of_replay-no_travel}
use Rattle.mc_commands.proofs.replay.travel_in_domain.Goals as goal

-- The topology lists no flow with this number.
pub returns-in_err-place-clause-none : goal.returns-in_err-place-clause-none
returns-in_err-place-clause-none g c =
    let p = err_from_is_err_and c.from_residual.result c.from_residual.ensures.1 in
    rw (p.1, p.2) (inl (c.in_err-place.ensures.fault, c.in_err-place.ensures.none))

-- Memory ran out while the packet was replayed,
pub returns-in_err-travel-clause-none : goal.returns-in_err-travel-clause-none
returns-in_err-travel-clause-none g c =
    let p = err_from_is_err_and c.from_residual-in_err-travel.result
    c.from_residual-in_err-travel.ensures.1 in
    rw (p.1, p.2) (inr refl)

-- or while its text was made.
pub returns-in_err-text-clause-none : goal.returns-in_err-text-clause-none
returns-in_err-text-clause-none g c =
    let p = err_from_is_err_and c.from_residual-in_err-text.result
    c.from_residual-in_err-text.ensures.1 in
    rw (p.1, p.2) (inr refl)

-- The flow at the place before the number is the one that was replayed, and the text is that of its travel.
pub returns-clause-text : goal.returns-clause-text
returns-clause-text g c =
    is_text_of_travel-replayed c.args.domain.now c.args.flow c.args.ttl _ c.in_ok-place.place
    c.topology-topology.result.now c.flow.result.now c.in_ok-travel.travel _ _
    c.in_ok-place.ensures.counted c.topology-topology.ensures.topology c.flow.ensures.flow
    c.in_ok-travel.ensures.run c.is_clean-clean.ensures c.in_ok-text.ensures

-- A number that no flow has is a fault of `replay`.
pub returns-in_err-place-clause-faults : goal.returns-in_err-place-clause-faults
returns-in_err-place-clause-faults g c =
    let p = err_from_is_err_and c.from_residual.result c.from_residual.ensures.1 in
    rw (p.1, p.2) (is_fault_of_replay-no_travel c.args.domain.now c.args.flow c.in_err-place.field-0.0
    (inl (c.in_err-place.ensures.fault, c.in_err-place.ensures.none)))
