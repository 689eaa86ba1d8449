use Rattle.std.proofs.Common.{arith}
use Rattle.mc_cert.proofs.PieceLemmas.{decimal-digit_more}
use Rattle.mc_cert.proofs.pieces.with_next_digit.Goals as goal

-- The decimal form of ten times a number and a digit is that of the number, and the digit.
pub returns-in-Some-clause-text : goal.returns-in-Some-clause-text
returns-in-Some-clause-text c =
    decimal-digit_more c.args.number c.in-Some.digit c.args.text.now c.in-Some.rest.now
    c.requires.some (omega arith) c.in-Some.ensures.small c.in-Some.ensures.text
