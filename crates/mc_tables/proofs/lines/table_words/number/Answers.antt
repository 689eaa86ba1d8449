use Rattle.std.proofs.Common.{sym, ◌∙◌, arith}
use Rattle.mc_tables.proofs.WordLemmas.{number_in-none, number_in-from_denotes}
use Rattle.mc_tables.proofs.lines.table_words.number.Goals as goal

-- A word that isn't decimal or is too great is no number in the range.
pub returns-in_err-number : goal.returns-in_err-number
returns-in_err-number c =
    c.from_residual.ensures
    ∙ number_in-none c.args.least c.args.most c.args.word.now c.decimal.result c.in_err-number.was
    (λ n writes small. c.decimal.ensures.only n writes (omega arith))

-- The word is decimal, and its number isn't below the least.
pub returns : goal.returns
returns c = sym (number_in-from_denotes c.args.least c.args.most c.args.word.now c.in_ok-number.number
    (c.in_ok-number.ensures.found, omega arith, omega (arith, c.in_ok-number.ensures.bound)))
