use Rattle.std.proofs.Common.{◌+◌, length, arith, sym, ◌∙◌, length-drop}
use Rattle.std.proofs.lemmas.Result.{err_from_is_err_and}
use Rattle.std.proofs.lemmas.Slice.{between_to_end}
use Rattle.mc_text.proofs.ByteLemmas.{HasNoByte-append}
use Rattle.mc_text.proofs.LineLemmas.{HasNoByte-from_position}
use Rattle.mc_text.proofs.PieceLemmas.{position-within_length}
use Rattle.mc_igmp.proofs.PieceLemmas.{read_rest_of_lines_more, read_rest_of_lines-fault}
use Rattle.mc_igmp.proofs.line_reader.LineReader.read_piece.Goals as goal

-- The line is the next of the text, whatever follows it, so that its fault is the text's.
pub returns-in_err-end_line-clause-fault : goal.returns-in_err-end_line-clause-fault
returns-in_err-end_line-clause-fault c = λ more.
    let at = c.lines in
    let found = c.in-Some.ensures in
    let p = err_from_is_err_and c.from_residual.result c.from_residual.ensures.1 in
    let refused = rw (found.begun, found.ended) at c.in_err-end_line.ensures.fault in
    rw (p.1, p.2, at.invariant.reads more) (read_rest_of_lines-fault at.self.list at.self.ended
    at.self.begun.items at.rest.now more c.in-Some.end _ at.invariant.begun (sym found.end) refused)

-- The records of the line that ended go behind those before it, and the next line begins after its line feed.
pub lines-preserved : goal.lines-preserved
lines-preserved c =
    let at = c.lines in
    let rest = at.rest.now in
    let end = c.in-Some.end in
    let found = c.in-Some.ensures in
    let within = position-within_length rest end (sym found.end) in
    let read = rw (found.begun, found.ended, found.list) at c.in_ok-end_line.ensures.records in
    let count = length-drop (end + 1) rest in
    rw (between_to_end rest (end + 1) (length rest) (omega arith)) (rw (
      c.in_ok-end_line.ensures.begun,
      c.in_ok-end_line.ensures.ended,
      found.ended,
    ) record {
      reads = λ more. at.invariant.reads more
          ∙ read_rest_of_lines_more at.self.list read.0 c.end_line.new.self.list at.self.ended
          at.self.begun.items rest more end at.invariant.begun (sym found.end) read.1 read.2;
      few = omega (arith, count, within, at.invariant.few);
      begun = tt;
      known = c.in_ok-end_line.ensures.known;
    })

-- The rest has no line feed, else another line would have ended.
pub returns-clause-begun : goal.returns-clause-begun
returns-clause-begun c =
    let found = c.in_default.ensures in
    rw (c.in_ok-extend_from_slice.ensures.items, found.begun)
    (HasNoByte-append 10 c.lines.self.begun.items c.lines.rest.now c.lines.invariant.begun
    (HasNoByte-from_position 10 c.lines.rest.now (sym found.end)))

-- Where the line ends changes none of the known lines.
pub end_line-requires-clause-known : goal.end_line-requires-clause-known
end_line-requires-clause-known c =
    rw (c.in-Some.ensures.known, c.in-Some.ensures.list) c.lines.invariant.known

pub returns-clause-known : goal.returns-clause-known
returns-clause-known c =
    rw (c.in_default.ensures.known, c.in_default.ensures.list) c.lines.invariant.known
