-- The records so far and those of the lines to come are those of all lines, and each of a known line is
-- among the former.
use Rattle.std.proofs.Common.{◌≡◌}
use Rattle.mc_text.specs.Lines.{lines_of}
use Rattle.mc_igmp.specs.ReadingList.{read_lines}
use Rattle.mc_text.proofs.StepLemmas.{with_front}
use Rattle.mc_igmp.specs.KnownLines.{AreKnownLines}
use Rattle.mc_igmp.proofs.list.ReportList.read.Given as goal

abbrev pub invariant-loop-line : goal.invariant-loop-line
invariant-loop-line l = record {
  reads : with_front l.list (read_lines l.line-iterator) ≡ read_lines (lines_of l.fn.text);
  known : AreKnownLines l.known l.list;
}
