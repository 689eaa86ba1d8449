use Rattle.std.proofs.Common.{◌≡◌, ◌++◌, [], ◌∷◌, Ok, take, drop, ap, ◌∙◌, sym, arith, refl}
use Rattle.std.proofs.lemmas.List.{drop_all}
use Rattle.std.proofs.lemmas.Result.{err_from_is_err_and}
use Rattle.mc_text.specs.Steps.{map_fault}
use Rattle.mc_bundle.proofs.RestOfBundleLemmas.{advances_trans, advances, rest_of_bundle-ended}
use Rattle.mc_bundle.proofs.RestOfBundleLemmas.{rest_of_bundle-opened, rest_of_bundle-fault}
use Rattle.mc_bundle.proofs.RestOfBundleLemmas.{parts_from_current-in_part}
use Rattle.mc_files.specs.Layout.{slots}
use Rattle.mc_input.specs.PartsOneByOne.{check_names_from}
use Rattle.mc_input.specs.declared.source_fault.SourceFault.TheVariants.{Input as refused}
use Rattle.mc_input.proofs.ReadRestLemmas.{read_rest-first_part_Err, read_rest-framing_refused}
use Rattle.mc_input.proofs.ReadRestLemmas.{framing-Ok, read_rest-framing_Err}
use Rattle.mc_input.proofs.ReadRestLemmas.{read_rest-name_passed, read_rest-none, Some-from_IsSome_name}
use Rattle.mc_input.proofs.slot_part.check_names_to_end.Goals as goal

-- One call after another reads on from where the first stopped.
pub returns-in_err-open_slot-clause-advances : goal.returns-in_err-open_slot-clause-advances
returns-in_err-open_slot-clause-advances g c =
    advances_trans c.args.parts.now c.loop-next.parts c.open_slot.new.parts c.loop-next.invariant.advances
    c.in_err-open_slot.ensures.advances

-- The next part has its slot's name, so that the check goes on with the slots and the parts after it.
pub loop-next-preserved : goal.loop-next-preserved
loop-next-preserved g c =
    let s = c.loop-next.parts in
    let new = c.open_slot.new.parts in
    let t = c.args.topology.now in
    let denotes = c.in_ok-open_slot.ensures.opened in
    record {
      advances = advances_trans c.args.parts.now s new c.loop-next.invariant.advances
          c.in_ok-open_slot.ensures.advances;
      failures = c.in_ok-open_slot.ensures.failures ∙ c.loop-next.invariant.failures;
      count = c.loop-next.invariant.count;
      few = c.loop-next.invariant.few;
      names = λ text remaining.
          let known = c.loop-next.invariant.names text remaining in
          let next = c.in_ok-open_slot.ensures.part known.0 known.1 in
          let here = next.2
          ∙ parts_from_current-in_part new denotes.0 [] next.0 denotes.1.stage denotes.1.named in (
            next.0,
            next.1,
            known.2 ∙ read_rest-name_passed c.args.certified t c.loop-next.next s new known.0 next.0
                (record { name = denotes.0; bytes = [] ++ take new.left next.0 }) here
                denotes.2,
          );
    }

-- Names come after the framing, so that a fault of the framing behind the last name is the first of
-- all.
pub returns-in_err-next-clause-names : goal.returns-in_err-next-clause-names
returns-in_err-next-clause-names g c = λ text remaining.
    let p = err_from_is_err_and c.from_residual-in_err-next.result c.from_residual-in_err-next.ensures.1 in
    let s = c.loop-next.parts in
    let ss = slots c.args.certified c.args.topology.now in
    let known = c.loop-next.invariant.names text remaining in
    rw p.1 (λ loud. ap (map_fault refused) known.2
    ∙ read_rest-framing_refused s known.0 (check_names_from c.loop-next.next (drop c.loop-next.next ss))
    c.in_err-next.field-0.0 p.0 p.2
    (λ read memory. rest_of_bundle-fault s [] known.0 c.in_err-next.field-0.0
    (c.in_err-next.ensures.fault known.0 [] known.1 read)) loud)

pub returns-in_err-next-clause-advances : goal.returns-in_err-next-clause-advances
returns-in_err-next-clause-advances g c =
    advances c.args.parts.now c.loop-next.parts c.next.new.self c.loop-next.invariant.advances
    (sym c.in_err-next.ensures.borrows) c.in_err-next.ensures.consumed

-- There is a part too many, but the framing after it is wrong, which comes first.
pub returns-in_err-drain-clause-names : goal.returns-in_err-drain-clause-names
returns-in_err-drain-clause-names g c = λ text remaining.
    let p = err_from_is_err_and c.from_residual-in_err-drain.result
    c.from_residual-in_err-drain.ensures.1 in
    let s = c.loop-next.parts in
    let new = c.next.new.self in
    let ss = slots c.args.certified c.args.topology.now in
    let known = c.loop-next.invariant.names text remaining in
    let next = c.in_ok-next.ensures.opened known.0 [] known.1 (ap Ok c.if-branch.true) in
    let name = Some-from_IsSome_name new (c.in_ok-next.ensures.named (ap Ok c.if-branch.true)) in
    let denotes = c.in_ok-next.ensures.open (ap Ok c.if-branch.true) in
    let here = rest_of_bundle-opened s [] known.0 _ next.2
    ∙ parts_from_current-in_part new name.0 [] next.0 denotes.0 name.1 in
    rw (p.1, p.2) (λ loud. ap (map_fault refused) known.2
    ∙ read_rest-framing_Err s new known.0 next.0
    (record { name = name.0; bytes = [] ++ take new.left next.0 } ∷ [])
    (check_names_from c.loop-next.next (drop c.loop-next.next ss)) c.in_err-drain.field-0.0 here
    (c.in_err-drain.ensures.framing next.0 next.1 loud))

pub returns-in_err-drain-clause-advances : goal.returns-in_err-drain-clause-advances
returns-in_err-drain-clause-advances g c =
    advances_trans c.args.parts.now c.next.new.self c.drain.new.parts
    (advances c.args.parts.now c.loop-next.parts c.next.new.self c.loop-next.invariant.advances
    (sym c.in_ok-next.ensures.borrows) c.in_ok-next.ensures.consumed)
    c.in_err-drain.ensures.advances

-- There is a part too many, and the framing is right to the end.
pub returns-then-branch-clause-names : goal.returns-then-branch-clause-names
returns-then-branch-clause-names g c = λ text remaining loud.
    let s = c.loop-next.parts in
    let new = c.next.new.self in
    let ss = slots c.args.certified c.args.topology.now in
    let known = c.loop-next.invariant.names text remaining in
    let next = c.in_ok-next.ensures.opened known.0 [] known.1 (ap Ok c.if-branch.true) in
    let name = Some-from_IsSome_name new (c.in_ok-next.ensures.named (ap Ok c.if-branch.true)) in
    let denotes = c.in_ok-next.ensures.open (ap Ok c.if-branch.true) in
    let here = rest_of_bundle-opened s [] known.0 _ next.2
    ∙ parts_from_current-in_part new name.0 [] next.0 denotes.0 name.1 in
    let right = framing-Ok new next.0 tt (c.in_ok-drain.ensures.framing next.0 next.1) in
    let last : c.loop-next.next ≡ c.slot_count-count.result = omega arith in
    let end : drop c.loop-next.next ss ≡ [] =
    drop_all c.loop-next.next ss (omega (arith, last, c.slot_count-count.ensures.count)) in
    ap (map_fault refused) (known.2
    ∙ read_rest-first_part_Err s new known.0 next.0
    (record { name = name.0; bytes = [] ++ take new.left next.0 }) right.0
    (check_names_from c.loop-next.next (drop c.loop-next.next ss)) _ here right.1
    (rw (end, last) refl))

pub returns-then-branch-clause-advances : goal.returns-then-branch-clause-advances
returns-then-branch-clause-advances g c =
    advances_trans c.args.parts.now c.next.new.self c.drain.new.parts
    (advances c.args.parts.now c.loop-next.parts c.next.new.self c.loop-next.invariant.advances
    (sym c.in_ok-next.ensures.borrows) c.in_ok-next.ensures.consumed)
    c.in_ok-drain.ensures.advances

-- The bundle ends with the last slot's part, and each name was the slot's.
pub returns-clause-names : goal.returns-clause-names
returns-clause-names g c = λ text remaining.
    let s = c.loop-next.parts in
    let ss = slots c.args.certified c.args.topology.now in
    let known = c.loop-next.invariant.names text remaining in
    let last : c.loop-next.next ≡ c.slot_count-count.result = omega arith in
    let end : drop c.loop-next.next ss ≡ [] =
    drop_all c.loop-next.next ss (omega (arith, last, c.slot_count-count.ensures.count)) in
    let none : check_names_from c.loop-next.next (drop c.loop-next.next ss) [] ≡ Ok tt = rw end refl in
    ap (map_fault refused) (known.2 ∙ read_rest-none s known.0
    (check_names_from c.loop-next.next (drop c.loop-next.next ss))
    (rest_of_bundle-ended s [] known.0
    (c.in_ok-next.ensures.ended known.0 [] known.1 (ap Ok c.if-branch.false)))
    ∙ none)

pub returns-clause-advances : goal.returns-clause-advances
returns-clause-advances g c =
    advances c.args.parts.now c.loop-next.parts c.next.new.self c.loop-next.invariant.advances
    (sym c.in_ok-next.ensures.borrows) c.in_ok-next.ensures.consumed
