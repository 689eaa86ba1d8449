use Rattle.std.proofs.Common.{arith, length, sym, rules}
use Rattle.std.proofs.lemmas.Bool.{eqb-false}
use Rattle.mc_text.proofs.NumberReading.{is_read_up_to_more, number-below_2_64, is_read_up_to_all}
use Rattle.mc_text.proofs.text.number.parse_decimal.Goals as goal

-- A front of the digits never writes more than all of them, so that what fits in 64 bits never overflows.
pub returns-in_err-number-clause-only : goal.returns-in_err-number-clause-only
returns-in_err-number-clause-only c = λ n writes small.
    absurd (c.in_err-number.ensures (number-below_2_64 c.args.word.now c.loop-byte.number
    c.loop-byte.byte-index c.loop-byte.invariant n c.loop-byte-test.true writes
    (omega (arith, small))))

-- The next digit makes the number ten times as large, and adds its value.
pub loop-byte-preserved : goal.loop-byte-preserved
loop-byte-preserved c =
    rw c.in_ok-number.ensures.1 (is_read_up_to_more c.args.word.now c.loop-byte.number c.loop-byte.byte-index
    c.loop-byte.invariant c.loop-byte-test.true c.in_ok-number.ensures.0.0)

-- All bytes were read as digits, and there is one at least.
pub returns-clause-found : goal.returns-clause-found
returns-clause-found c =
    let some = eqb-false (length c.args.word.now) 0 (sym c.if-is_empty.ensures) in
    let read =
    is_read_up_to_all c.args.word.now c.loop-byte.number c.loop-byte.byte-index c.loop-byte.invariant
    (omega (arith, c.loop-byte-test.false)) (omega (arith, some)) in
    search rules
