use Rattle.mc_bundle.proofs.PartsLimitLemmas.{consumes_up_to-after_consumes}
use Rattle.std.proofs.Common.{ℕ, ◌+◌, ◌<◌, List, [], ◌∷◌, length, take, refl, sym, subst, ◌∙◌, arith}
use Rattle.std.proofs.Common.{length-take, length-set}
use Rattle.std.specs.Io.KnownBytes.{Consumes}
use Rattle.std.proofs.KnownBytes.{Consumes-trans}
use Rattle.std.proofs.lemmas.List.{take_more_set}
use Rattle.mc_text.proofs.ByteLemmas.{HasNoByte, HasNoByte-append}
use Rattle.mc_bundle.proofs.PartsLemmas.{reads_as-no_end, reads_as-line_too_long, reads_as-line}
use Rattle.mc_bundle.proofs.PartsLemmas.{eqb-of_distinct}
use Rattle.mc_bundle.proofs.parts_input.read_line.Goals as goal

-- The input ended, and none of the fewer than 96 bytes read is a line feed.
pub returns-in-None-clause-reads : goal.returns-in-None-clause-reads
returns-in-None-clause-reads g c =
    let none = c.in_ok-next_byte.ensures.none c.in-None.is in
    reads_as-no_end _ _ _ _ (take c.bytes.count c.bytes.line) c.bytes.invariant.bytes none.0 none.1
    c.bytes.invariant.without (omega (arith, length-take c.bytes.count c.bytes.line))

-- The bytes before this line feed have none, so that they are the line.
pub returns-in-Some-eq10-clause-reads : goal.returns-in-Some-eq10-clause-reads
returns-in-Some-eq10-clause-reads g c =
    let some = rw c.in-Some-eq10.is at c.in_ok-next_byte.ensures.some in
    let feed = subst (λ (b : ℕ). Consumes (g.R.Input.remaining c.bytes.input)
    (g.R.Input.remaining c.next_byte.new.input) (b ∷ [])) c.in-Some-eq10.field-0-test some in
    reads_as-line _ _ _ _ _ (take c.bytes.count c.bytes.line) refl c.bytes.invariant.bytes feed
    c.bytes.invariant.without (omega (arith, length-take c.bytes.count c.bytes.line))

-- The byte is no line feed, and it comes after those read before.
pub bytes-preserved : goal.bytes-preserved
bytes-preserved g c =
    let some = rw c.in-Some.is at c.in_ok-next_byte.ensures.some in
    let line = c.bytes.line in
    let count = c.bytes.count in
    let byte = c.in-Some.byte in
    let within : count < length line = omega arith in
    let grown = take_more_set line count byte within in
    record {
      same = c.next_byte.ensures.same ∙ c.bytes.invariant.same;
      failures = c.in_ok-next_byte.ensures.failures ∙ c.bytes.invariant.failures;
      long = length-set line count byte ∙ c.bytes.invariant.long;
      within = omega arith;
      bytes = subst (λ (l : List ℕ). Consumes (g.R.Input.remaining c.args.input.now)
          (g.R.Input.remaining c.next_byte.new.input) l) (sym grown)
          (Consumes-trans _ _ _ (take count line) (byte ∷ []) c.bytes.invariant.bytes some);
      without = subst (HasNoByte 10) (sym grown) (HasNoByte-append 10 (take count line) (byte ∷ [])
          c.bytes.invariant.without (eqb-of_distinct byte 10 c.in-Some.byte-test.1, tt));
    }

-- 96 bytes were read without a line feed.
pub returns-clause-reads : goal.returns-clause-reads
returns-clause-reads g c =
    reads_as-line_too_long _ _ _ (take c.bytes.count c.bytes.line) c.bytes.invariant.bytes
    c.bytes.invariant.without (omega (arith, length-take c.bytes.count c.bytes.line))

-- In each of the next three, at most one byte more than those in the buffer was taken.
pub returns-in_err-next_byte-clause-consumed : goal.returns-in_err-next_byte-clause-consumed
returns-in_err-next_byte-clause-consumed g c =
    consumes_up_to-after_consumes _ _ _ (take c.bytes.count c.bytes.line) 1 96 c.bytes.invariant.bytes
    c.in_err-next_byte.ensures.consumed (omega (arith, length-take c.bytes.count c.bytes.line))

pub returns-in-Some-eq10-clause-consumed : goal.returns-in-Some-eq10-clause-consumed
returns-in-Some-eq10-clause-consumed g c =
    consumes_up_to-after_consumes _ _ _ (take c.bytes.count c.bytes.line) 1 96 c.bytes.invariant.bytes
    c.in_ok-next_byte.ensures.consumed (omega (arith, length-take c.bytes.count c.bytes.line))

pub returns-in-Some-eq10-clause-taken : goal.returns-in-Some-eq10-clause-taken
returns-in-Some-eq10-clause-taken g c =
    consumes_up_to-after_consumes _ _ _ (take c.bytes.count c.bytes.line) 1
    (c.bytes.count + 1) c.bytes.invariant.bytes
    c.in_ok-next_byte.ensures.consumed (omega (arith, length-take c.bytes.count c.bytes.line))

-- The bytes taken are the 96 in the buffer.
pub returns-clause-consumed : goal.returns-clause-consumed
returns-clause-consumed g c = (
  take c.bytes.count c.bytes.line,
  omega (arith, length-take c.bytes.count c.bytes.line),
  c.bytes.invariant.bytes,
)
