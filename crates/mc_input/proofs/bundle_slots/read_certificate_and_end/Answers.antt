use Rattle.std.proofs.Common.{◌≡◌, ℕ, ◌+◌, ◌∙◌, ◌∷◌, [], Ok, Some, Bool, true, false, ap, arith, length}
use Rattle.std.proofs.Common.{option_map, subst, sym}
use Rattle.std.proofs.lemmas.List.{drop_all}
use Rattle.std.proofs.lemmas.Result.{err_from_is_err_and}
use Rattle.mc_bundle.specs.Bundle.{PartText}
use Rattle.mc_bundle.proofs.RestOfBundleLemmas.{advances_trans}
use Rattle.mc_files.specs.Layout.{certificate_slot, certificate_slots, part_name, slots}
use Rattle.mc_input.specs.PartsOneByOne.{certificate_number}
use Rattle.mc_input.specs.Stream.{Stream, bundle_gives, part_then}
use Rattle.mc_input.proofs.FinishLemmas.{length-slots_from_certificate_number}
use Rattle.mc_input.proofs.StreamLemmas.{ReadsFirst-of_bundle, certificate_part-named, gives-ended}
use Rattle.mc_input.proofs.StreamLemmas.{gives-names_Err}
use Rattle.mc_input.proofs.bundle_slots.read_certificate_and_end.Goals as goal

-- No certificate is asked for, so that the bundle has to end here, and a further part refuses it.
pub returns-in_err-check_names_to_end-clause-fault : goal.returns-in_err-check_names_to_end-clause-fault
returns-in_err-check_names_to_end-clause-fault g c = λ stream known.
    let p = err_from_is_err_and c.from_residual.result c.from_residual.ensures.1 in
    let t = c.args.topology.now in
    let s = c.args.parts.now in
    let number : certificate_number t ≡ c.slot_count-number.result =
    omega (arith, c.slot_count-number.ensures.count, length-slots_from_certificate_number false t) in
    rw (p.1, p.2) (gives-names_Err s c.args.certified t c.slot_count-number.result
    c.in_err-check_names_to_end.field-0.0 c.in_err-check_names_to_end.ensures.names stream
    (subst (λ (n : ℕ). option_map (bundle_gives s c.args.certified t n) s.remaining ≡ Some stream)
    number known))

-- The bundle ends where the certificate would be, and none is asked for.
pub returns-then-not-certified-clause-certificate : goal.returns-then-not-certified-clause-certificate
returns-then-not-certified-clause-certificate g c = λ stream known.
    let t = c.args.topology.now in
    let s = c.args.parts.now in
    let n = c.slot_count-number.result in
    let none : c.args.certified ≡ false = grind arith in
    let number : certificate_number t ≡ n =
    omega (arith, c.slot_count-number.ensures.count, length-slots_from_certificate_number false t) in
    gives-ended s c.args.certified t n tt
    (drop_all n (slots c.args.certified t) (omega (
      arith,
      number,
      ap (λ (b : Bool). length (certificate_slots b)) none,
      length-slots_from_certificate_number c.args.certified t,
    ))) c.in_ok-check_names_to_end.ensures.names stream
    (subst (λ (k : ℕ). option_map (bundle_gives s c.args.certified t k) s.remaining ≡ Some stream)
    number known)

-- The certificate's slot is the last, so that a fault of its part's name or framing refuses the
-- stream.
pub returns-in_err-text-clause-fault : goal.returns-in_err-text-clause-fault
returns-in_err-text-clause-fault g c = λ stream known.
    let p = err_from_is_err_and c.from_residual-in_err-text.result
    c.from_residual-in_err-text.ensures.1 in
    let t = c.args.topology.now in
    let s = c.args.parts.now in
    let number : certificate_number t ≡ c.slot_count-number.result =
    omega (arith, c.slot_count-number.ensures.count, length-slots_from_certificate_number false t) in
    rw (p.1, p.2) (gives-names_Err s c.args.certified t c.slot_count-number.result c.in_err-text.field-0.0
    c.in_err-text.ensures.fault stream
    (subst (λ (n : ℕ). option_map (bundle_gives s c.args.certified t n) s.remaining ≡ Some stream)
    number known))

-- A part after the certificate, or a fault of the framing there, refuses the stream as well.
pub returns-in_err-check_names_to_end-2-clause-fault : goal.returns-in_err-check_names_to_end-2-clause-fault
returns-in_err-check_names_to_end-2-clause-fault g c = λ stream known.
    let p = err_from_is_err_and c.from_residual-in_err-check_names_to_end-2.result
    c.from_residual-in_err-check_names_to_end-2.ensures.1 in
    let t = c.args.topology.now in
    let s = c.args.parts.now in
    let n = c.slot_count-number.result in
    let own = c.in_err-check_names_to_end-2.field-0.0 in
    let number : certificate_number t ≡ n =
    omega (arith, c.slot_count-number.ensures.count, length-slots_from_certificate_number false t) in
    let x = ReadsFirst-of_bundle s c.args.certified t n c.certificate_in.new.parts
    (λ part. part.bytes ≡ c.in_ok-text.text.items) c.in_ok-text.ensures.text stream
    (subst (λ (k : ℕ). option_map (bundle_gives s c.args.certified t k) s.remaining ≡ Some stream)
    number known) in
    rw (p.1, p.2) (λ loud. x.3
    ∙ ap (part_then x.1) (gives-names_Err c.certificate_in.new.parts c.args.certified t
    (n + 1) own c.in_err-check_names_to_end-2.ensures.names x.0 x.2 loud))

pub returns-in_err-check_names_to_end-2-clause-advances :
    goal.returns-in_err-check_names_to_end-2-clause-advances
returns-in_err-check_names_to_end-2-clause-advances g c =
    advances_trans c.args.parts.now c.certificate_in.new.parts c.check_names_to_end-2.new.parts
    c.in_ok-text.ensures.advances c.in_err-check_names_to_end-2.ensures.advances

-- The certificate's part was read under its name, and no part follows.
pub returns-clause-certificate : goal.returns-clause-certificate
returns-clause-certificate g c = λ stream known.
    let t = c.args.topology.now in
    let s = c.args.parts.now in
    let n = c.slot_count-number.result in
    let bytes = c.in_ok-text.text.items in
    let certificate : PartText = record { name = part_name certificate_slot; bytes = bytes } in
    let one : c.args.certified ≡ true = grind arith in
    let number : certificate_number t ≡ n =
    omega (arith, c.slot_count-number.ensures.count, length-slots_from_certificate_number false t) in
    let x = ReadsFirst-of_bundle s c.args.certified t n c.certificate_in.new.parts
    (λ part. part ≡ certificate) (λ text remaining.
    let y = c.in_ok-text.ensures.text text remaining in (
      y.0,
      y.1,
      y.2,
      y.3,
      (y.4.0, certificate_part-named c.args.certified t n y.1 bytes one (sym number) y.4.0 y.4.1),
    )) stream
    (subst (λ (k : ℕ). option_map (bundle_gives s c.args.certified t k) s.remaining ≡ Some stream)
    number known) in
    let ended = gives-ended c.certificate_in.new.parts c.args.certified t (n + 1) tt
    (drop_all (n + 1) (slots c.args.certified t) (omega (
      arith,
      number,
      ap (λ (b : Bool). length (certificate_slots b)) one,
      length-slots_from_certificate_number c.args.certified t,
    ))) c.in_ok-check_names_to_end-2.ensures.names x.0 x.2 in
    x.3 ∙ ap (part_then x.1) ended ∙ ap (λ (part : PartText). let r : Stream = Ok (Ok part ∷ []) in r) x.4

-- One call after another reads on from where the first stopped.
pub returns-clause-advances : goal.returns-clause-advances
returns-clause-advances g c =
    advances_trans c.args.parts.now c.certificate_in.new.parts c.check_names_to_end-2.new.parts
    c.in_ok-text.ensures.advances c.in_ok-check_names_to_end-2.ensures.advances
