use Rattle.std.proofs.Common.{◌==◌, ap, arith, length, ◌∙◌}
use Rattle.std.proofs.lemmas.List.{length-drop}
use Rattle.std.specs.Char.{is_ascii_digit}
use Rattle.mc_tables.proofs.EndedLineLemmas.{are_marks-of_end, are_marks-with_end}
use Rattle.mc_tables.proofs.lines.marked_line.MarkedLine.of_end.Goals as goal

-- The last 32 bytes end with those from the place on, of which fewer are marked: the marks before them are
-- left out, and the line's end is one more space.
pub returns-clause-marked : goal.returns-clause-marked
returns-clause-marked c =
    let line = c.args.line.now in
    let rest = c.without_front-bytes.result.now in
    let end = c.without_front-end.result.now in
    let is_rest = c.without_front-bytes.ensures.value in
    let is_end = c.without_front-end.ensures.value in
    let long = c.requires.within in
    let size = ap length is_rest ∙ length-drop c.args.start line in
    record {
      digits = are_marks-of_end is_ascii_digit line end rest c.digit_marks.result c.without_marks.result
          c.args.start _ long c.requires.start c.requires.few is_end is_rest
          (omega (arith, size, c.requires.few))
          c.without_marks.ensures c.digit_marks.ensures.marks;
      spaces = are_marks-with_end rest c.without_marks-2.result c.with_mark.result
          (are_marks-of_end (λ b. b == 32) line end rest c.space_marks.result c.without_marks-2.result
          c.args.start _ long c.requires.start c.requires.few is_end is_rest
          (omega (arith, size, c.requires.few))
          c.without_marks-2.ensures c.space_marks.ensures.marks) c.with_mark.ensures;
    }
