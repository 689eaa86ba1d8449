use Rattle.std.proofs.Common.{◌≡◌, ◌∷◌, [], true, ap, inr, sym, ◌∙◌}
use Rattle.std.specs.Str.{bytes_eq}
use Rattle.std.proofs.lemmas.Result.{err_from_is_err_and}
use Rattle.std.proofs.lemmas.Slice.Eq.{bytes_eq-Decides}
use Rattle.mc_bundle.specs.Bundle.{PartText}
use Rattle.mc_text.specs.Steps.{map_fault}
use Rattle.mc_bundle.proofs.RestOfBundleLemmas.{advances_trans}
use Rattle.mc_files.specs.Layout.{part_name, topology_slot}
use Rattle.mc_input.specs.PartsOneByOne.{read_first_topology}
use Rattle.mc_input.specs.declared.source_fault.SourceFault.TheVariants.{Input as refused}
use Rattle.mc_input.proofs.ReadRestLemmas.{read_rest-first_part_Err, framing-Ok, read_rest-framing_Err}
use Rattle.mc_input.proofs.CollectedPartLemmas.{Some-injective, rest_of_bundle-part_collected}
use Rattle.mc_input.proofs.bundle_part.topology_in.Goals as goal

-- One call after another reads on from where the first stopped.
pub returns-in_err-bytes-clause-advances : goal.returns-in_err-bytes-clause-advances
returns-in_err-bytes-clause-advances g c =
    advances_trans c.args.parts.now c.open_named.new.parts c.collect_part.new.parts
    c.in_ok-open_named.ensures.advances c.in_err-bytes.ensures.advances

-- The first part was opened under the topology's name and collected whole, and its text is read as the
-- topology.
pub returns-in-Ok-clause-topology : goal.returns-in-Ok-clause-topology
returns-in-Ok-clause-topology g c = λ text remaining.
    let name = c.name.result in
    let bytes = c.deref.result.now in
    let whole = c.in_ok-bytes.ensures.whole in
    let slot : name ≡ part_name topology_slot =
    Some-injective (sym c.name.ensures.item ∙ whole.1 ∙ c.in_ok-open_named.ensures.opened.named)
    ∙ ap part_name c.topology.ensures in
    let passed = rest_of_bundle-part_collected c.args.parts.now c.open_named.new.parts
    c.collect_part.new.parts name
    bytes c.in_ok-bytes.bytes.items text (c.in_ok-open_named.ensures.part text remaining)
    c.in_ok-bytes.ensures.bytes whole c.name.ensures.item c.deref.ensures.value in (
      passed.0,
      record { name = name; bytes = bytes },
      passed.1,
      passed.2,
      (slot, c.in-Ok.ensures),
    )

pub returns-in-Ok-clause-advances : goal.returns-in-Ok-clause-advances
returns-in-Ok-clause-advances g c =
    advances_trans c.args.parts.now c.open_named.new.parts c.collect_part.new.parts
    c.in_ok-open_named.ensures.advances c.in_ok-bytes.ensures.advances

pub returns-in-Err-Memory-clause-advances : goal.returns-in-Err-Memory-clause-advances
returns-in-Err-Memory-clause-advances g c =
    advances_trans c.args.parts.now c.open_named.new.parts c.collect_part.new.parts
    c.in_ok-open_named.ensures.advances c.in_ok-bytes.ensures.advances

-- A fault of the framing after the refused topology comes before the topology's own, as it makes the
-- whole text no bundle.
pub returns-in_err-drain-in-Err-clause-fault : goal.returns-in_err-drain-in-Err-clause-fault
returns-in_err-drain-in-Err-clause-fault g c =
    let p = err_from_is_err_and c.from_residual-in_err-drain-in-Err.result
    c.from_residual-in_err-drain-in-Err.ensures.1 in
    let s = c.args.parts.now in
    let new = c.collect_part.new.parts in
    let name = c.name.result in
    let bytes = c.deref.result.now in
    rw (p.1, p.2) (λ text remaining loud.
    let passed = rest_of_bundle-part_collected s c.open_named.new.parts new name bytes
    c.in_ok-bytes.bytes.items text
    (c.in_ok-open_named.ensures.part text remaining) c.in_ok-bytes.ensures.bytes
    c.in_ok-bytes.ensures.whole c.name.ensures.item c.deref.ensures.value in
    read_rest-framing_Err s new text passed.0 (record { name = name; bytes = bytes } ∷ []) read_first_topology
    c.in_err-drain-in-Err.field-0.0 passed.2
    (c.in_err-drain-in-Err.ensures.framing passed.0 passed.1 loud))

pub returns-in_err-drain-in-Err-clause-advances : goal.returns-in_err-drain-in-Err-clause-advances
returns-in_err-drain-in-Err-clause-advances g c =
    advances_trans c.args.parts.now c.collect_part.new.parts c.drain.new.parts
    (advances_trans c.args.parts.now c.open_named.new.parts c.collect_part.new.parts
    c.in_ok-open_named.ensures.advances c.in_ok-bytes.ensures.advances)
    c.in_err-drain-in-Err.ensures.advances

-- The framing is right to the end, and the first part has the topology's name, so that the fault of
-- its text is the first of all.
pub returns-clause-fault : goal.returns-clause-fault
returns-clause-fault g c = λ text remaining loud.
    let s = c.args.parts.now in
    let new = c.collect_part.new.parts in
    let name = c.name.result in
    let bytes = c.deref.result.now in
    let whole = c.in_ok-bytes.ensures.whole in
    let part : PartText = record { name = name; bytes = bytes } in
    let slot : name ≡ part_name topology_slot =
    Some-injective (sym c.name.ensures.item ∙ whole.1 ∙ c.in_ok-open_named.ensures.opened.named)
    ∙ ap part_name c.topology.ensures in
    let named : bytes_eq name (part_name topology_slot) ≡ true =
    (bytes_eq-Decides name (part_name topology_slot)).1 slot in
    let passed = rest_of_bundle-part_collected s c.open_named.new.parts new name bytes
    c.in_ok-bytes.bytes.items text
    (c.in_ok-open_named.ensures.part text remaining) c.in_ok-bytes.ensures.bytes whole c.name.ensures.item
    c.deref.ensures.value in
    let right = framing-Ok new passed.0 tt
    (c.in_ok-drain-in-Err.ensures.framing passed.0 passed.1) in
    ap (map_fault refused) (read_rest-first_part_Err s new text passed.0 part right.0 read_first_topology
    c.in-Err.fault passed.2 right.1
    (rw named (c.in-Err.ensures (λ e. loud (inr (ap refused e))))))

pub returns-clause-advances : goal.returns-clause-advances
returns-clause-advances g c =
    advances_trans c.args.parts.now c.collect_part.new.parts c.drain.new.parts
    (advances_trans c.args.parts.now c.open_named.new.parts c.collect_part.new.parts
    c.in_ok-open_named.ensures.advances c.in_ok-bytes.ensures.advances)
    c.in_ok-drain-in-Err.ensures.advances
