use Rattle.std.proofs.Common.{◌≡◌, ℕ, ◌+◌, ◌∙◌, Err, ap, cond, drop, refl, subst, sym}
use Rattle.std.specs.Prelude.{slice_get}
use Rattle.std.proofs.lemmas.Result.{err_from_is_err_and}
use Rattle.mc_bundle.specs.PartsReading.{is_read as is_failed}
use Rattle.mc_bundle.proofs.RestOfBundleLemmas.{advances_trans}
use Rattle.mc_files.specs.Layout.{part_name, slots}
use Rattle.mc_files.proofs.SlotLemmas.{slots-with_certificate}
use Rattle.mc_input.specs.InputReading.{named}
use Rattle.mc_input.specs.PartsOneByOne.{IsFaultOf, check_names_from}
use Rattle.mc_input.specs.SourceFault.{from_bundle_fault}
use Rattle.mc_input.specs.Stream.{IsFedPart, first_part, read_stream}
use Rattle.mc_input.proofs.CollectedPartLemmas.{Some-injective, is_failed-from_bundle_fault}
use Rattle.mc_input.proofs.ReadRestLemmas.{IsFaultOf-check_names_from, read_rest-framing_refused}
use Rattle.mc_input.proofs.StreamLemmas.{ReadsFirst-of_bundle, gives-names_Err}
use Rattle.mc_input.proofs.bundle_slots.BundleSlotsSlots.feed.Goals as goal

-- The names of all parts are checked before any content, so that the fault of this part's name is that
-- of the whole stream.
pub returns-in_err-open_named-clause-fault : goal.returns-in_err-open_named-clause-fault
returns-in_err-open_named-clause-fault g c =
    let p = err_from_is_err_and c.from_residual.result c.from_residual.ensures.1 in
    let s = c.args.self.now in
    let t = c.args.slot.now.topology in
    let n = c.args.slot.now.number in
    let own = c.slot-own.result.now in
    let fault = c.in_err-open_named.field-0.0 in
    let refused = subst (λ (k : ℕ). IsFaultOf s.parts (λ others. named (slice_get others 0) (part_name own) k)
    fault) c.number.ensures.number c.in_err-open_named.ensures.fault in
    rw (p.1, p.2) (λ stream known loud. ap (read_stream first_part) (gives-names_Err s.parts s.certified t n
    fault (IsFaultOf-check_names_from (slots s.certified t) s.parts n own (Err fault)
    (slots-with_certificate s.certified t n own c.slot-own.ensures) refused)
    stream known loud))

-- Feeding fails only by the framing, whose fault comes before those of names and contents.
pub returns-in_err-feed_part-clause-fault : goal.returns-in_err-feed_part-clause-fault
returns-in_err-feed_part-clause-fault g c =
    let p = err_from_is_err_and c.from_residual-in_err-feed_part.result
    c.from_residual-in_err-feed_part.ensures.1 in
    let s = c.args.self.now in
    let t = c.args.slot.now.topology in
    let n = c.args.slot.now.number in
    let fault = c.in_err-feed_part.field-0.0 in
    rw (p.1, p.2) (λ stream known loud. ap (read_stream first_part) (gives-names_Err s.parts s.certified t n
    (from_bundle_fault fault) (λ text remaining real.
    let next = c.in_ok-open_named.ensures.part text remaining in
    read_rest-framing_refused s.parts text (check_names_from n (drop n (slots s.certified t))) fault
    (from_bundle_fault fault) refl
    (λ read memory. next.2 ∙ c.in_err-feed_part.ensures.fault next.0 next.1 read memory) real)
    stream known loud))

-- One call after another reads on from where the first stopped.
pub returns-in_err-feed_part-clause-advances : goal.returns-in_err-feed_part-clause-advances
returns-in_err-feed_part-clause-advances g c = (
  refl,
  advances_trans c.args.self.now.parts c.open_named.new.parts c.feed_part.new.parts
      c.in_ok-open_named.ensures.advances c.in_err-feed_part.ensures.advances,
)

-- Opening the part failed at nothing, and the feeding's fault is `Read` exactly where the input
-- failed.
pub returns-in_err-feed_part-clause-failures : goal.returns-in_err-feed_part-clause-failures
returns-in_err-feed_part-clause-failures g c =
    let p = err_from_is_err_and c.from_residual-in_err-feed_part.result
    c.from_residual-in_err-feed_part.ensures.1 in
    let fault = c.in_err-feed_part.field-0.0 in
    let before = c.args.self.now.parts.failed in
    rw (p.1, p.2) (c.in_err-feed_part.ensures.failures
    ∙ ap (λ n. cond (is_failed fault) (n + 1) n) c.in_ok-open_named.ensures.failures
    ∙ ap (λ b. cond b (before + 1) before) (is_failed-from_bundle_fault fault))

-- The part was opened under the slot's name and fed whole, so that the stream is that part and those
-- after it.
pub returns-clause-part : goal.returns-clause-part
returns-clause-part g c =
    let s = c.args.self.now in
    let own = c.slot-own.result.now in
    let opened = c.in_ok-open_named.ensures.opened in
    let at = slots-with_certificate s.certified c.args.slot.now.topology c.args.slot.now.number own
    c.slot-own.ensures in
    ReadsFirst-of_bundle s.parts s.certified c.args.slot.now.topology c.args.slot.now.number
    c.feed_part.new.parts
    (IsFedPart c.name.result (g.P.PieceReader.result_after c.args.reader.now)
    (g.P.PieceReader.result_after c.feed_part.new.reader)) (λ text remaining.
    let next = c.in_ok-open_named.ensures.part text remaining in
    let fed = c.in_ok-feed_part.ensures.part next.0 next.1 in
    let part = fed.1 in
    let slot : part.name ≡ part_name own = Some-injective (sym fed.4 ∙ opened.named) in
    let name : part.name ≡ c.name.result =
    Some-injective (sym fed.4 ∙ sym c.in_ok-feed_part.ensures.named ∙ c.name.ensures.item) in (
      fed.0,
      part,
      fed.2,
      next.2 ∙ fed.3,
      ((own, at, slot), (name, fed.5, fed.6)),
    ))

pub returns-clause-advances : goal.returns-clause-advances
returns-clause-advances g c = (
  refl,
  advances_trans c.args.self.now.parts c.open_named.new.parts c.feed_part.new.parts
      c.in_ok-open_named.ensures.advances c.in_ok-feed_part.ensures.advances,
)
