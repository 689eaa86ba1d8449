use Rattle.std.proofs.Common.{◌∙◌, sym}
use Rattle.mc_cert.proofs.PieceLemmas.{decimal-one_digit}
use Rattle.mc_cert.proofs.pieces.read_number.Goals as goal

-- A zero is a number of its own, behind which no digit is read.
pub returns-then-first-eq0-clause-text : goal.returns-then-first-eq0-clause-text
returns-then-first-eq0-clause-text c =
    decimal-one_digit c.in_ok-first.first c.args.text.now c.in_ok-first.rest.now
    c.in_ok-first.ensures.small c.in_ok-first.ensures.text

-- The first digit is a number of one digit, and each further one is appended to it.
pub returns-clause-text : goal.returns-clause-text
returns-clause-text c =
    decimal-one_digit c.in_ok-first.first c.args.text.now c.in_ok-first.rest.now
    c.in_ok-first.ensures.small c.in_ok-first.ensures.text
    ∙ sym c.with_next_digit-two.ensures.text ∙ sym c.with_next_digit-three.ensures.text
    ∙ sym c.with_next_digit.ensures.text
