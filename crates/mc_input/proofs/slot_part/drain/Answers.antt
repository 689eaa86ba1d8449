use Rattle.std.proofs.Common.{List, [], Ok, Result, ap, ◌∙◌, sym}
use Rattle.std.proofs.lemmas.Result.{err_from_is_err_and}
use Rattle.mc_bundle.specs.Bundle.{PartText}
use Rattle.mc_text.specs.Steps.{map_fault}
use Rattle.mc_bundle.proofs.RestOfBundleLemmas.{advances, rest_of_bundle-ended, rest_of_bundle-fault}
use Rattle.mc_input.specs.declared.fault.InputFault.{InputFault}
use Rattle.mc_input.specs.declared.source_fault.SourceFault.TheVariants.{Input as refused}
use Rattle.mc_input.proofs.ReadRestLemmas.{framing-part_passed, read_rest-framing_refused, read_rest-none}
use Rattle.mc_input.proofs.slot_part.drain.Goals as goal

-- The first fault of the framing after the parts that were skipped is the first of all.
pub returns-in_err-next-clause-framing : goal.returns-in_err-next-clause-framing
returns-in_err-next-clause-framing g c = λ text remaining.
    let p = err_from_is_err_and c.from_residual.result c.from_residual.ensures.1 in
    let known = c.parts.invariant.framing text remaining in
    rw p.1 (λ loud. ap (map_fault refused) known.2
    ∙ read_rest-framing_refused c.parts.parts known.0
    (λ _. (let u : Result (Unit {0}) InputFault = Ok tt in u)) c.in_err-next.field-0.0 p.0 p.2
    (λ read memory. rest_of_bundle-fault c.parts.parts [] known.0 c.in_err-next.field-0.0
    (c.in_err-next.ensures.fault known.0 [] known.1 read)) loud)

-- One call after another reads on from where the first stopped.
pub returns-in_err-next-clause-advances : goal.returns-in_err-next-clause-advances
returns-in_err-next-clause-advances g c =
    advances c.args.parts.now c.parts.parts c.next.new.self c.parts.invariant.advances
    (sym c.in_err-next.ensures.borrows) c.in_err-next.ensures.consumed

-- A part that is skipped leaves the faults of those after it.
pub parts-preserved : goal.parts-preserved
parts-preserved g c = record {
  advances = advances c.args.parts.now c.parts.parts c.next.new.self c.parts.invariant.advances
      (sym c.in_ok-next.ensures.borrows) c.in_ok-next.ensures.consumed;
  failures = c.in_ok-next.ensures.failures ∙ c.parts.invariant.failures;
  framing = λ text remaining.
      let known = c.parts.invariant.framing text remaining in
      let next = c.in_ok-next.ensures.opened known.0 [] known.1 (ap Ok c.if-branch.true) in
      (next.0, next.1, known.2 ∙ framing-part_passed c.parts.parts c.next.new.self [] known.0 next.0 next.2);
}

-- The bundle has ended, so that its framing has no fault.
pub returns-clause-framing : goal.returns-clause-framing
returns-clause-framing g c = λ text remaining.
    let known = c.parts.invariant.framing text remaining in
    let done : List PartText → Result (Unit {0}) InputFault = λ _. Ok tt in
    ap (map_fault refused) (known.2 ∙ read_rest-none c.parts.parts known.0 done
    (rest_of_bundle-ended c.parts.parts [] known.0
    (c.in_ok-next.ensures.ended known.0 [] known.1 (ap Ok c.if-branch.false))))

pub returns-clause-advances : goal.returns-clause-advances
returns-clause-advances g c =
    advances c.args.parts.now c.parts.parts c.next.new.self c.parts.invariant.advances
    (sym c.in_ok-next.ensures.borrows) c.in_ok-next.ensures.consumed
