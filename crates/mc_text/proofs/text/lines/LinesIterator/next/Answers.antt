use Rattle.std.proofs.Common.{◌+◌, length, sym, ap, ◌∙◌, arith, rules}
use Rattle.std.proofs.lemmas.Slice.{between_to_end}
use Rattle.mc_text.proofs.LineLemmas.{lines_from-line_feed, lines_from-no_line_feed}
use Rattle.mc_text.proofs.text.lines.LinesIterator.next.Goals as goal

-- The lines of a text are the one before its first line feed, and those of the text behind it.
pub returns-in-Some-clause-steps : goal.returns-in-Some-clause-steps
returns-in-Some-clause-steps c =
    let text = c.self.inside.rest.now in
    rw (between_to_end text (c.in-Some.end + 1) (length text) (omega arith))
    (sym c.self.view_is
    ∙ lines_from-line_feed c.self.inside.next_number text c.in-Some.end (sym c.in-Some.ensures))

-- One line fewer is left.
pub returns-in-Some-clause-goes : goal.returns-in-Some-clause-goes
returns-in-Some-clause-goes c =
    let shorter = ap length (returns-in-Some-clause-steps c) in
    record { on = λ _. (tt, tt, omega (arith, shorter)); keeps = tt; rests = λ _. tt }

-- A text without a line feed that isn't empty is one line, and nothing is left.
pub returns-in-None-clause-steps : goal.returns-in-None-clause-steps
returns-in-None-clause-steps c = sym c.self.view_is
    ∙ lines_from-no_line_feed c.self.inside.next_number c.self.inside.rest.now (sym c.in-None.ensures)
    (search rules)

-- One line fewer is left.
pub returns-in-None-clause-goes : goal.returns-in-None-clause-goes
returns-in-None-clause-goes c =
    let shorter = ap length (returns-in-None-clause-steps c) in
    record { on = λ _. (tt, tt, omega (arith, shorter)); keeps = tt; rests = λ _. tt }
