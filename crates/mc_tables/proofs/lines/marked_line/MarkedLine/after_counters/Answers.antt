use Rattle.std.proofs.Common.{arith, subst, sym, ◌∷◌, ◌++◌, []}
use Rattle.std.specs.Char.{is_ascii_digit}
use Rattle.mc_tables.specs.Counters.{HasCounters}
use Rattle.mc_tables.proofs.EndedLineLemmas.{are_marks-ended, has_counters-without_end}
use Rattle.mc_tables.proofs.MarkedLemmas.{digits_or_spaces-run, has_counters-from_marks}
use Rattle.mc_tables.proofs.lines.marked_line.MarkedLine.after_counters.Goals as goal

-- All bytes up to the third counter's end are digits or spaces, and in each of the three stretches only the
-- last digit has a space behind it, or the line's end: it holds spaces and one counter.
pub returns : goal.returns
returns c = record {
  counters = (
      let line = c.args.self.bytes.now in
      let ended = line ++ 32 ∷ [] in
      let digits = c.args.self.digits in
      let spaces = c.args.self.spaces in
      let a = c.lowest_set_bit-packets in
      let b = c.lowest_set_bit-bytes in
      let d = c.lowest_set_bit-wrong_if in
      let known = digits_or_spaces-run digits spaces c.front_run_length.result c.front_run_length.ensures in
      subst (HasCounters line) (sym c.without_front.ensures.value)
      (has_counters-without_end line _ _ (omega arith)
      (has_counters-from_marks ended digits spaces c.last_digits-ends.result a.result b.result d.result
      (are_marks-ended is_ascii_digit line digits c.requires.marked.digits) c.requires.marked.spaces
      c.last_digits-ends.ensures
      (λ k less. known k (omega (arith, less, c.if-front_run_length-end.false)))
      a.ensures.lowest (a.ensures.set (omega (arith, c.if-packets-ge-MAX_COUNTER_WIDTH.false)))
      c.if-packets-ge-MAX_COUNTER_WIDTH.false
      b.ensures.lowest (b.ensures.set (omega (arith, c.if-bytes-ge-MAX_COUNTER_WIDTH.false)))
      c.if-bytes-ge-MAX_COUNTER_WIDTH.false
      d.ensures.lowest (d.ensures.set (omega (arith, c.if-wrong_if-ge-MAX_COUNTER_WIDTH.false)))
      c.if-wrong_if-ge-MAX_COUNTER_WIDTH.false)));
}
