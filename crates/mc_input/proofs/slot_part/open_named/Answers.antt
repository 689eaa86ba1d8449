use Rattle.std.proofs.Common.{◌≡◌, ◌++◌, true, false, List, [], ◌∷◌, Ok, Some, Result, take, ap}
use Rattle.std.proofs.Common.{◌∙◌, sym, arith, refl}
use Rattle.std.specs.Prelude.{slice_get}
use Rattle.std.specs.Str.{bytes_eq}
use Rattle.std.proofs.lemmas.Result.{err_from_is_err_and}
use Rattle.std.proofs.lemmas.Slice.Eq.{bytes_eq-Decides}
use Rattle.mc_bundle.specs.Bundle.{PartText}
use Rattle.mc_text.specs.Steps.{map_fault}
use Rattle.mc_bundle.proofs.RestOfBundleLemmas.{advances_trans, rest_of_bundle-ended}
use Rattle.mc_bundle.proofs.RestOfBundleLemmas.{rest_of_bundle-opened, rest_of_bundle-fault}
use Rattle.mc_bundle.proofs.RestOfBundleLemmas.{parts_from_current-in_part}
use Rattle.mc_files.specs.Layout.{part_name}
use Rattle.mc_input.specs.InputReading.{named}
use Rattle.mc_input.specs.declared.fault.InputFault.{InputFault}
use Rattle.mc_input.specs.declared.source_fault.SourceFault.TheVariants.{Input as refused}
use Rattle.mc_input.proofs.ReadRestLemmas.{read_rest-first_part_Err, read_rest-framing_refused}
use Rattle.mc_input.proofs.ReadRestLemmas.{framing-Ok, read_rest-framing_Err}
use Rattle.mc_input.proofs.ReadRestLemmas.{read_rest-none}
use Rattle.mc_input.proofs.slot_part.open_named.Goals as goal

-- The framing of the next part is wrong, which comes before any name.
pub returns-in_err-next-clause-fault : goal.returns-in_err-next-clause-fault
returns-in_err-next-clause-fault g c =
    let p = err_from_is_err_and c.from_residual.result c.from_residual.ensures.1 in
    let s = c.args.parts.now in
    let read : List PartText → Result PartText InputFault =
    λ others. named (slice_get others 0) (part_name c.args.slot.now) c.args.number in
    rw p.1 (λ text remaining loud. read_rest-framing_refused s text read c.in_err-next.field-0.0 p.0 p.2
    (λ read_fault memory. rest_of_bundle-fault s [] text c.in_err-next.field-0.0
    (c.in_err-next.ensures.fault text [] remaining read_fault)) loud)

-- The bundle has ended, so that there is no part for the slot.
pub returns-then-not-branch-clause-fault : goal.returns-then-not-branch-clause-fault
returns-then-not-branch-clause-fault g c = λ text remaining loud.
    let s = c.args.parts.now in
    let read : List PartText → Result PartText InputFault =
    λ others. named (slice_get others 0) (part_name c.args.slot.now) c.args.number in
    let last : c.in_ok-next.field-0 ≡ false = grind arith in
    ap (map_fault refused) (read_rest-none s text read (rest_of_bundle-ended s [] text
    (c.in_ok-next.ensures.ended text [] remaining (ap Ok last))))

-- The next part has another name, but the framing after it is wrong, which comes first.
pub returns-in_err-drain-clause-fault : goal.returns-in_err-drain-clause-fault
returns-in_err-drain-clause-fault g c =
    let p = err_from_is_err_and c.from_residual-in_err-drain.result
    c.from_residual-in_err-drain.ensures.1 in
    let s = c.args.parts.now in
    let new = c.next.new.self in
    let read : List PartText → Result PartText InputFault =
    λ others. named (slice_get others 0) (part_name c.args.slot.now) c.args.number in
    let more : c.in_ok-next.field-0 ≡ true = grind arith in
    let denotes = c.in_ok-next.ensures.open (ap Ok more) in
    rw (p.1, p.2) (λ text remaining loud.
    let next = c.in_ok-next.ensures.opened text [] remaining (ap Ok more) in
    let here = rest_of_bundle-opened s [] text _ next.2
    ∙ parts_from_current-in_part new c.name.result [] next.0 denotes.0 c.name.ensures.item in
    read_rest-framing_Err s new text next.0
    (record { name = c.name.result; bytes = [] ++ take new.left next.0 } ∷ [])
    read c.in_err-drain.field-0.0 here (c.in_err-drain.ensures.framing next.0 next.1 loud))

-- One call after another reads on from where the first stopped.
pub returns-in_err-drain-clause-advances : goal.returns-in_err-drain-clause-advances
returns-in_err-drain-clause-advances g c =
    advances_trans c.args.parts.now c.next.new.self c.drain.new.parts
    (c.in_ok-next.ensures.borrows, c.in_ok-next.ensures.consumed)
    c.in_err-drain.ensures.advances

-- The framing is right to the end, and the next part has another name.
pub returns-then-not-is_named-clause-fault : goal.returns-then-not-is_named-clause-fault
returns-then-not-is_named-clause-fault g c = λ text remaining loud.
    let s = c.args.parts.now in
    let new = c.next.new.self in
    let read : List PartText → Result PartText InputFault =
    λ others. named (slice_get others 0) (part_name c.args.slot.now) c.args.number in
    let more : c.in_ok-next.field-0 ≡ true = grind arith in
    let denotes = c.in_ok-next.ensures.open (ap Ok more) in
    let next = c.in_ok-next.ensures.opened text [] remaining (ap Ok more) in
    let here = rest_of_bundle-opened s [] text _ next.2
    ∙ parts_from_current-in_part new c.name.result [] next.0 denotes.0 c.name.ensures.item in
    let right = framing-Ok new next.0 tt (c.in_ok-drain.ensures.framing next.0 next.1) in
    let other : c.is_named.result ≡ false = grind arith in
    let differs : bytes_eq c.name.result (part_name c.args.slot.now) ≡ false =
    ap (λ bytes. bytes_eq bytes (part_name c.args.slot.now)) (sym c.as_bytes.ensures.bytes)
    ∙ sym c.is_named.ensures ∙ other in
    ap (map_fault refused) (read_rest-first_part_Err s new text next.0
    (record { name = c.name.result; bytes = [] ++ take new.left next.0 }) right.0 read _ here right.1
    (rw differs refl))

pub returns-then-not-is_named-clause-advances : goal.returns-then-not-is_named-clause-advances
returns-then-not-is_named-clause-advances g c =
    advances_trans c.args.parts.now c.next.new.self c.drain.new.parts
    (c.in_ok-next.ensures.borrows, c.in_ok-next.ensures.consumed)
    c.in_ok-drain.ensures.advances

-- The part that was opened has the bytes of the slot's name.
pub returns-clause-opened : goal.returns-clause-opened
returns-clause-opened g c =
    let more : c.in_ok-next.field-0 ≡ true = grind arith in
    let denotes = c.in_ok-next.ensures.open (ap Ok more) in
    let same : c.is_named.result ≡ true = grind arith in
    let name : c.name.result ≡ part_name c.args.slot.now =
    sym c.as_bytes.ensures.bytes
    ∙ (bytes_eq-Decides c.as_bytes.result.now (part_name c.args.slot.now)).0
    (sym c.is_named.ensures ∙ same) in
    record {
      stage = denotes.0;
      named = c.name.ensures.item ∙ ap Some name;
      left = denotes.1;
      size = c.in_ok-next.ensures.bound (ap Ok more);
    }

-- What is left of the bundle begins with the part that was opened.
pub returns-clause-part : goal.returns-clause-part
returns-clause-part g c = λ text remaining.
    let more : c.in_ok-next.field-0 ≡ true = grind arith in
    let next = c.in_ok-next.ensures.opened text [] remaining (ap Ok more) in
    (next.0, next.1, rest_of_bundle-opened c.args.parts.now [] text _ next.2)
