use Rattle.std.proofs.Common.{◌≡◌, ◌++◌, true, not, take, ap, sym, ◌∙◌, rules, append_assoc}
use Rattle.std.specs.Prelude.{is_ok}
use Rattle.std.proofs.lemmas.List.{append-nil}
use Rattle.mc_bundle.specs.PartsReading.{parts_from_current}
use Rattle.mc_bundle.proofs.RestOfBundleLemmas.{advances}
use Rattle.mc_bundle.proofs.part_bytes.collect_part.Goals as goal

-- A read that fails takes no more bytes than may come, as the reads before it.
pub returns-in_err-count-clause-advances : goal.returns-in_err-count-clause-advances
returns-in_err-count-clause-advances g c =
    advances c.args.parts.now c.pieces.parts c.read.new.self c.pieces.invariant.advances
    (sym c.in_err-count.ensures.borrows) c.in_err-count.ensures.consumed

-- The bytes collected so far don't change which fault the rest of the bundle has.
pub returns-in_err-count-clause-fault : goal.returns-in_err-count-clause-fault
returns-in_err-count-clause-fault g c = λ text done remaining.
    let known = c.pieces.invariant.bytes text done remaining in
    let read = c.in_err-count.ensures.fault known.0 (done ++ c.pieces.bytes.items) known.1 in
    search rules

-- A read of 0 bytes adds nothing to the bytes collected, which are then the whole rest of the part.
pub returns-then-count-eq0-clause-bytes : goal.returns-then-count-eq0-clause-bytes
returns-then-count-eq0-clause-bytes g c = λ text done remaining.
    let known = c.pieces.invariant.bytes text done remaining in
    let bytes = done ++ c.pieces.bytes.items in
    let new = c.read.new.self in
    let read = c.in_ok-count.ensures.bytes known.0 bytes known.1 in (
      read.0,
      read.1,
      known.2 ∙ read.3
          ∙ ap (λ n. parts_from_current new (bytes ++ take n c.read.new.buffer) read.0) c.if-count-eq0.true
          ∙ ap (λ l. parts_from_current new l read.0) (append-nil bytes),
    )

-- The bytes for which there was no memory were taken from the input all the same.
pub returns-then-is_err-clause-advances : goal.returns-then-is_err-clause-advances
returns-then-is_err-clause-advances g c =
    advances c.args.parts.now c.pieces.parts c.read.new.self c.pieces.invariant.advances
    (sym c.in_ok-count.ensures.borrows) c.in_ok-count.ensures.consumed

-- The piece that was read moves from the bytes to come to the bytes collected: their join stays the same.
pub pieces-preserved : goal.pieces-preserved
pieces-preserved g c =
    let pushed : is_ok c.extend_from_slice.result ≡ true =
    c.is_err.ensures.negation ∙ ap not c.if-is_err.false in
    let items = rw pushed at c.extend_from_slice.ensures.items in
    let same = c.in_ok-count.ensures.same in
    let new = c.read.new.self in
    record {
      advances = advances c.args.parts.now c.pieces.parts new c.pieces.invariant.advances
          (sym c.in_ok-count.ensures.borrows) c.in_ok-count.ensures.consumed;
      failures = c.in_ok-count.ensures.failures ∙ c.pieces.invariant.failures;
      opened = same.0 ∙ c.pieces.invariant.opened;
      name = same.1 ∙ c.pieces.invariant.name;
      room = search rules;
      bytes = λ text done remaining.
          let known = c.pieces.invariant.bytes text done remaining in
          let bytes = done ++ c.pieces.bytes.items in
          let read = c.in_ok-count.ensures.bytes known.0 bytes known.1 in (
            read.0,
            read.1,
            rw items (known.2 ∙ read.3 ∙ ap (λ l. parts_from_current new l read.0)
                (append_assoc done c.pieces.bytes.items (take c.in_ok-count.count c.read.new.buffer))),
          );
    }
