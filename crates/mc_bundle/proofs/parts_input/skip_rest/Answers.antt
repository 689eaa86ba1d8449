use Rattle.std.proofs.Common.{◌+◌, length}
use Rattle.mc_bundle.proofs.PartsLimitLemmas.{consumes_up_to-after_consumes}
use Rattle.std.proofs.Common.{ℕ, [], ◌∷◌, ◌++◌, take, drop}
use Rattle.std.proofs.Common.{subst, ◌∙◌, arith, length-take, length-drop}
use Rattle.std.specs.Io.KnownBytes.{Consumes}
use Rattle.std.proofs.KnownBytes.{Consumes-trans}
use Rattle.std.proofs.lemmas.List.{length-append}
use Rattle.mc_bundle.proofs.PartsLemmas.{reads_as-rest_truncated, reads_as-rest}
use Rattle.mc_bundle.proofs.PartsLemmas.{reads_as-rest_other_byte, eqb-of_distinct}
use Rattle.mc_bundle.proofs.parts_input.skip_rest.Goals as goal

-- A buffer that isn't filled means that the input ended, before the part did.
pub returns-then-branch-size-clause-reads : goal.returns-then-branch-size-clause-reads
returns-then-branch-size-clause-reads g c =
    let n = c.in_ok-fill_buffer.field-0 in
    let long = c.skipping.invariant.long in
    let size = c.min-size.ensures in
    let left = c.skipping.invariant.bytes.2 in
    let full = c.fill_buffer.auto.buffer in
    reads_as-rest_truncated _ _ _ c.args.left c.skipping.invariant.bytes.0 (take n c.fill_buffer.new.buffer)
    c.skipping.invariant.bytes.1 c.in_ok-fill_buffer.ensures.bytes
    (c.in_ok-fill_buffer.ensures.end (omega (
      arith,
      long,
      full,
      size,
      length-take c.min-size.result c.skipping.buffer,
    )))
    (omega (arith, left, size, length-take n c.fill_buffer.new.buffer))

-- A whole piece was skipped: as many bytes more are taken as fewer are unread.
pub skipping-preserved : goal.skipping-preserved
skipping-preserved g c =
    let bytes = c.skipping.invariant.bytes.0 in
    let n = c.in_ok-fill_buffer.field-0 in
    let long = c.skipping.invariant.long in
    let size = c.min-size.ensures in
    let full = c.fill_buffer.auto.buffer in
    let left = c.skipping.invariant.bytes.2 in
    record {
      same = c.fill_buffer.ensures.same ∙ c.skipping.invariant.same;
      failures = c.in_ok-fill_buffer.ensures.failures ∙ c.skipping.invariant.failures;
      long = omega (
        arith,
        long,
        full,
        size,
        length-take c.min-size.result c.skipping.buffer,
        length-drop c.min-size.result c.skipping.buffer,
        length-append c.fill_buffer.new.buffer (drop c.min-size.result c.skipping.buffer),
      );
      bytes = (
        bytes ++ take n c.fill_buffer.new.buffer,
        Consumes-trans _ _ _ bytes (take n c.fill_buffer.new.buffer) c.skipping.invariant.bytes.1
            c.in_ok-fill_buffer.ensures.bytes,
        omega (
          arith,
          left,
          long,
          full,
          size,
          length-take c.min-size.result c.skipping.buffer,
          length-take n c.fill_buffer.new.buffer,
          c.in_ok-fill_buffer.ensures.bound,
          length-append bytes (take n c.fill_buffer.new.buffer),
        ),
      );
    }

-- All of the part was skipped, and then the input ended before its line feed.
pub returns-in-None-clause-reads : goal.returns-in-None-clause-reads
returns-in-None-clause-reads g c =
    let none = c.in_ok-next_byte.ensures.none c.in-None.is in
    let left = c.skipping.invariant.bytes.2 in
    reads_as-rest_truncated _ _ _ c.args.left c.skipping.invariant.bytes.0 [] c.skipping.invariant.bytes.1
    none.0 none.1 (omega (arith, left))

-- All of the part was skipped, and a line feed follows it.
pub returns-in-Some-eq10-clause-reads : goal.returns-in-Some-eq10-clause-reads
returns-in-Some-eq10-clause-reads g c =
    let some = rw c.in-Some-eq10.is at c.in_ok-next_byte.ensures.some in
    let left = c.skipping.invariant.bytes.2 in
    let feed = subst (λ (b : ℕ). Consumes (g.R.Input.remaining c.skipping.input)
    (g.R.Input.remaining c.next_byte.new.input) (b ∷ [])) c.in-Some-eq10.field-0-test some in
    reads_as-rest _ _ _ c.args.left c.skipping.invariant.bytes.0 tt c.skipping.invariant.bytes.1 feed
    (omega (arith, left))

-- All of the part was skipped, and another byte than a line feed follows it.
pub returns-in-Some-clause-reads : goal.returns-in-Some-clause-reads
returns-in-Some-clause-reads g c =
    let some = rw c.in-Some.is at c.in_ok-next_byte.ensures.some in
    let left = c.skipping.invariant.bytes.2 in
    reads_as-rest_other_byte _ _ _ c.args.left c.skipping.invariant.bytes.0 c.in-Some.field-0
    c.skipping.invariant.bytes.1 some (omega (arith, left))
    (eqb-of_distinct c.in-Some.field-0 10 c.in-Some.field-0-test.1)

-- A piece is never longer than what is unread.
pub returns-in_err-fill_buffer-clause-consumed : goal.returns-in_err-fill_buffer-clause-consumed
returns-in_err-fill_buffer-clause-consumed g c =
    let bytes = c.skipping.invariant.bytes in
    consumes_up_to-after_consumes _ _ _ bytes.0 (length c.fill_buffer.new.buffer) (c.args.left + 1) bytes.1
    c.in_err-fill_buffer.ensures.consumed
    (omega (
      arith,
      bytes.2,
      c.fill_buffer.auto.buffer,
      c.min-size.ensures,
      length-take c.min-size.result c.skipping.buffer,
    ))

-- As above: fewer bytes came than the piece asked for.
pub returns-then-branch-size-clause-consumed : goal.returns-then-branch-size-clause-consumed
returns-then-branch-size-clause-consumed g c =
    let bytes = c.skipping.invariant.bytes in
    consumes_up_to-after_consumes _ _ _ bytes.0 (length c.fill_buffer.new.buffer) (c.args.left + 1) bytes.1
    c.in_ok-fill_buffer.ensures.consumed
    (omega (
      arith,
      bytes.2,
      c.fill_buffer.auto.buffer,
      c.min-size.ensures,
      length-take c.min-size.result c.skipping.buffer,
    ))

-- In this one and the rest, all of the part was skipped and at most one byte taken after it.
pub returns-in_err-next_byte-clause-consumed : goal.returns-in_err-next_byte-clause-consumed
returns-in_err-next_byte-clause-consumed g c =
    let bytes = c.skipping.invariant.bytes in
    consumes_up_to-after_consumes _ _ _ bytes.0 1
    (c.args.left + 1) bytes.1 c.in_err-next_byte.ensures.consumed
    (omega (arith, bytes.2))

pub returns-in-Some-eq10-clause-consumed : goal.returns-in-Some-eq10-clause-consumed
returns-in-Some-eq10-clause-consumed g c =
    let bytes = c.skipping.invariant.bytes in
    consumes_up_to-after_consumes _ _ _ bytes.0 1 (c.args.left + 1) bytes.1 c.in_ok-next_byte.ensures.consumed
    (omega (arith, bytes.2))

pub returns-in-Some-clause-consumed : goal.returns-in-Some-clause-consumed
returns-in-Some-clause-consumed g c =
    let bytes = c.skipping.invariant.bytes in
    consumes_up_to-after_consumes _ _ _ bytes.0 1 (c.args.left + 1) bytes.1 c.in_ok-next_byte.ensures.consumed
    (omega (arith, bytes.2))

pub returns-in-None-clause-consumed : goal.returns-in-None-clause-consumed
returns-in-None-clause-consumed g c =
    let bytes = c.skipping.invariant.bytes in
    consumes_up_to-after_consumes _ _ _ bytes.0 1 (c.args.left + 1) bytes.1 c.in_ok-next_byte.ensures.consumed
    (omega (arith, bytes.2))
