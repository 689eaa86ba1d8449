use Rattle.std.proofs.Common.{Err, ap}
use Rattle.std.proofs.lemmas.List.Elements.{All-nil}
use Rattle.std.proofs.lemmas.Result.{err_from_is_err_and}
use Rattle.mc_text.proofs.StepLemmas.{with_front-none}
use Rattle.mc_text.specs.LineView.{line_text}
use Rattle.mc_text.specs.Lines.{lines_of}
use Rattle.mc_igmp.specs.ReadingList.{read_lines}
use Rattle.mc_igmp.proofs.ListLemmas.{read_lines_more, report_list_answer-too_large}
use Rattle.mc_igmp.proofs.ListLemmas.{read_lines_all, read_lines_fault}
use Rattle.mc_igmp.proofs.list.ReportList.read.Goals as goal

-- The size of the text is checked before any of its lines.
pub returns-then-text-gt-MAX_TEXT : goal.returns-then-text-gt-MAX_TEXT
returns-then-text-gt-MAX_TEXT c =
    report_list_answer-too_large c.args.text.now _ c.if-text-gt-MAX_TEXT.true (ap Err c.at.ensures)

-- No line was read, and no record is there.
pub loop-line-init : goal.loop-line-init
loop-line-init c = record {
  reads = rw (
    c.into_iter-line-iterator.ensures.into_iter_gives,
    c.new-line-items.ensures.value,
    c.none-list.ensures,
  )
      (with_front-none (read_lines (lines_of c.args.text.now)));
  known = rw c.none-known.ensures (All-nil _);
}

-- The records of the line go behind those of the lines before it.
pub loop-line-preserved : goal.loop-line-preserved
loop-line-preserved c =
    let read = c.in_ok-push_line.ensures.ok in
    record {
      reads = read_lines_more c.loop-line.list read.0 c.push_line.new.self (line_text c.in-Some.line)
          c.loop-line.line-iterator c.next.new.self _ c.in-Some.ensures.steps read.1 read.2
          c.loop-line.invariant.reads;
      known = c.in_ok-push_line.ensures.known;
    }

-- No line before it has a fault, so that this one's is the first.
pub returns-in_err-push_line : goal.returns-in_err-push_line
returns-in_err-push_line c =
    let p = err_from_is_err_and c.from_residual.result c.from_residual.ensures.1 in
    rw (p.1, p.2) (read_lines_fault c.args.text.now c.loop-line.list (line_text c.in-Some.line)
    c.loop-line.line-iterator c.next.new.self _ c.if-text-gt-MAX_TEXT.false
    c.in-Some.ensures.steps c.in_err-push_line.ensures.err c.loop-line.invariant.reads)

-- No line is left, so that the records are those of all lines.
pub returns : goal.returns
returns c = read_lines_all c.args.text.now c.loop-line.list c.loop-line.line-iterator
    c.if-text-gt-MAX_TEXT.false c.in-None.ensures.steps.0 c.loop-line.invariant.reads
