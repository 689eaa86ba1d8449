use Rattle.std.proofs.Common.{Err, [], length, ap, sym, ◌∙◌, arith, ◌≡◌, false, eqb}
use Rattle.std.proofs.lemmas.Bool.Decides.{nat_tests}
use Rattle.std.proofs.lemmas.List.{nil_from_length}
use Rattle.mc_igmp.specs.ListSoFar.{ListSoFar, list_if}
use Rattle.mc_igmp.proofs.PieceLemmas.{list_if-unended, list_if-ended}
use Rattle.mc_igmp.proofs.list_reader.ListReader.finish.Goals as goal

-- Bytes are left after the last line feed: the last line is unended.
pub returns-then-not-is_empty-clause-ends : goal.returns-then-not-is_empty-clause-ends
returns-then-not-is_empty-clause-ends c =
    let so_far : ListSoFar = record {
      size = c.self.inside.size;
      ended = c.self.inside.lines.ended;
      begun = c.self.inside.lines.begun.items;
      records = c.self.inside.lines.list;
      fault = c.self.inside.fault;
    } in
    let count = c.self.inside.lines.begun.ok.0 in
    let some : eqb (length so_far.begun) 0 ≡ false =
    grind (arith, nat_tests, count, c.is_empty.ensures, c.if-not-is_empty.true) in
    let on = c.self.invariant.1 (omega arith) c.in_default.is in
    ap Err c.at-then-not-is_empty.ensures
    ∙ sym (list_if-unended so_far (omega arith) c.in_default.is on.0 some)
    ∙ ap (λ (s : ListSoFar). list_if s []) c.self.view_is

-- No bytes are left, so that the lines that have ended are all.
pub returns-clause-ends : goal.returns-clause-ends
returns-clause-ends c =
    let so_far : ListSoFar = record {
      size = c.self.inside.size;
      ended = c.self.inside.lines.ended;
      begun = c.self.inside.lines.begun.items;
      records = c.self.inside.lines.list;
      fault = c.self.inside.fault;
    } in
    let count = c.self.inside.lines.begun.ok.0 in
    let zero : length so_far.begun ≡ 0 =
    grind (arith, nat_tests, count, c.is_empty.ensures, c.if-not-is_empty.false) in
    let none = nil_from_length so_far.begun zero in
    sym (list_if-ended so_far (omega arith) c.in_default.is none)
    ∙ ap (λ (s : ListSoFar). list_if s []) c.self.view_is
