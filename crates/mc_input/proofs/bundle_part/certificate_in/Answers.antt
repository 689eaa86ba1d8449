use Rattle.std.proofs.Common.{◌∙◌, refl}
use Rattle.mc_bundle.proofs.RestOfBundleLemmas.{advances_trans}
use Rattle.mc_input.proofs.CollectedPartLemmas.{rest_of_bundle-part_collected}
use Rattle.mc_input.proofs.bundle_part.certificate_in.Goals as goal

-- One call after another reads on from where the first stopped.
pub returns-in_err-collect_part-clause-advances : goal.returns-in_err-collect_part-clause-advances
returns-in_err-collect_part-clause-advances g c =
    advances_trans c.args.parts.now c.open_slot.new.parts c.collect_part.new.parts
    c.in_ok-open_slot.ensures.advances c.in_err-collect_part.ensures.advances

-- The part was opened under its slot's name and collected whole, so that what is left of the bundle is
-- that part and those after it.
pub returns-clause-text : goal.returns-clause-text
returns-clause-text g c = λ text remaining.
    let opened = c.in_ok-open_slot.ensures.opened in
    let bytes = c.in_ok-collect_part.field-0.items in
    let whole = c.in_ok-collect_part.ensures.whole in
    let passed = rest_of_bundle-part_collected c.args.parts.now c.open_slot.new.parts
    c.collect_part.new.parts opened.0
    bytes bytes text (c.in_ok-open_slot.ensures.part text remaining) c.in_ok-collect_part.ensures.bytes
    whole (whole.1 ∙ opened.1.named) refl in (
      passed.0,
      record { name = opened.0; bytes = bytes },
      passed.1,
      passed.2,
      (opened.2, refl),
    )

pub returns-clause-advances : goal.returns-clause-advances
returns-clause-advances g c =
    advances_trans c.args.parts.now c.open_slot.new.parts c.collect_part.new.parts
    c.in_ok-open_slot.ensures.advances c.in_ok-collect_part.ensures.advances
