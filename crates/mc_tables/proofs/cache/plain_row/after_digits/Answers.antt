-- One to twenty digits with a space behind them are the first word, and a counter.
use Rattle.std.proofs.Common.{sym, ap, ◌∙◌, ◌∷◌}
use Rattle.std.specs.Prelude.{not}
use Rattle.std.specs.Char.{is_ascii_digit}
use Rattle.std.proofs.lemmas.List.Quantifiers.{position-Some}
use Rattle.mc_text.specs.Lines.{words_of}
use Rattle.std.proofs.lemmas.List.{take_rest}
use Rattle.mc_tables.proofs.PlainRowLemmas.{counter_is_first_word, front_digits_are_decimal}
use Rattle.mc_tables.proofs.cache.plain_row.after_digits.Goals as goal

pub returns : goal.returns
returns c =
    let line = c.args.line.now in
    let end = c.in-Some.end in
    let place = sym c.in-Some.ensures in
    let first = position-Some (λ b. not (is_ascii_digit b)) line end 0 place in
    let found = counter_is_first_word line end (front_digits_are_decimal line end place c.if-end-eq0.false)
    c.if-end-gt20.false first.0 c.if-line-end-ne32.false in (
      found.0,
      found.1 ∙ ap (λ r. found.0 ∷ words_of r) (sym (take_rest line end)),
      found.2,
    )
