use Rattle.std.proofs.Common.{arith, sym, ◌∙◌}
use Rattle.mc_text.proofs.GroupRangeLemmas.{if_plain_decimal, is_decimal-of_decimal, plain-from_decimal}
use Rattle.mc_text.proofs.text.number.plain_decimal.Goals as goal

-- A decimal without a needless zero is the text of the number that it writes.
pub returns-then-is_plain_decimal-clause-found : goal.returns-then-is_plain_decimal-clause-found
returns-then-is_plain_decimal-clause-found c =
    if_plain_decimal c.decimal.result c.args.word.now c.args.max (omega arith)
    (sym c.is_plain_decimal.ensures ∙ c.if-is_plain_decimal.true) c.decimal.ensures.found
    c.decimal.ensures.bound

-- The text of a number is a decimal of it, which `decimal` reads.
pub returns-then-is_plain_decimal-clause-only : goal.returns-then-is_plain_decimal-clause-only
returns-then-is_plain_decimal-clause-only c = λ n small is.
    c.decimal.ensures.only n (is_decimal-of_decimal c.args.word.now n (omega (arith, small)) is) small

-- The text of a number has no needless zero, so that it would have passed the test.
pub returns-else-is_plain_decimal-clause-only : goal.returns-else-is_plain_decimal-clause-only
returns-else-is_plain_decimal-clause-only c = λ n small is.
    let plain = plain-from_decimal c.args.word.now n (omega (arith, small)) is in
    cc (c.is_plain_decimal.ensures, c.if-is_plain_decimal.false)
