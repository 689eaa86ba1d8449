use Rattle.std.proofs.Common.{length, sym, ap, ◌∙◌, arith}
use Rattle.std.proofs.lemmas.Slice.{between_to_end}
use Rattle.mc_text.proofs.LineLemmas.{words_of-word, words_of-spaces}
use Rattle.mc_text.proofs.text.words.WordsIterator.next.Goals as goal

-- A line of spaces alone has no word.
pub returns-in_err-from_word-clause-steps : goal.returns-in_err-from_word-clause-steps
returns-in_err-from_word-clause-steps c =
    let none = sym c.self.view_is
    ∙ words_of-spaces c.self.inside.rest.now (sym (c.in_err-from_word.ensures)) in
    rw c.from_residual.ensures (none, none)

-- The first word runs from the first byte that is no space to the next space, or to the line's end.
pub returns-clause-steps : goal.returns-clause-steps
returns-clause-steps c =
    let line = c.self.inside.rest.now in
    let from = between_to_end line c.in_ok-from_word.field-0 (length line) (omega arith) in
    rw (c.split_at.ensures.front, c.split_at.ensures.back)
    (sym c.self.view_is
    ∙ words_of-word line _ c.in_ok-from_word.field-0 c.unwrap_or-end.result
    (sym (c.in_ok-from_word.ensures)) from
    (rw (← c.word_end.ensures) c.unwrap_or-end.ensures))

-- One word fewer is left.
pub returns-clause-goes : goal.returns-clause-goes
returns-clause-goes c =
    let shorter = ap length (returns-clause-steps c) in
    record { on = λ _. (tt, tt, omega (arith, shorter)); keeps = tt; rests = λ _. tt }
