use Rattle.std.proofs.Common.{◌≤◌, ◌+◌, length, length-take, take, refl, arith, sym, subst}
use Rattle.mc_tables.specs.LinesSoFar.{LinesSoFar, IsValidLinesSoFar}
use Rattle.mc_text.proofs.LineLemmas.{HasNoByte-from_position, HasNoByte-take_position}
use Rattle.mc_text.proofs.PieceLemmas.{position-within_length}
use Rattle.mc_tables.proofs.PieceLemmas.{lines_so_far-with_begun}
use Rattle.mc_tables.proofs.lines.line_buffer.LineBuffer.take_to_line_feed.Goals as goal

-- The bytes before the first line feed have none.
pub invariant_of-self-in-Some : goal.invariant_of-self-in-Some
invariant_of-self-in-Some c =
    let lines : LinesSoFar = record {
      ended = c.self.inside.ended;
      size = c.self.inside.size;
      begun = c.self.inside.begun.items;
    } in
    let end = c.in-Some.end in
    let taken = take end c.args.rest.now in
    let size : lines.size + length c.args.rest.now ≤ 16777216 =
    subst (λ (l : LinesSoFar). l.size + length c.args.rest.now ≤ 16777216) (sym c.self.view_is)
    c.requires.bounded in
    let within : end + 1 ≤ length c.args.rest.now =
    position-within_length c.args.rest.now end (sym c.in-Some.ensures) in
    let kept = lines_so_far-with_begun lines (end + 1) taken c.self.invariant (omega arith)
    (omega (arith, length-take end c.args.rest.now))
    (HasNoByte-take_position 10 c.args.rest.now end (sym c.in-Some.ensures)) in
    rw c.in_ok-extend_from_slice-in-Some.ensures.items kept

-- None of the bytes is a line feed.
pub invariant_of-self-in-None : goal.invariant_of-self-in-None
invariant_of-self-in-None c =
    let lines : LinesSoFar = record {
      ended = c.self.inside.ended;
      size = c.self.inside.size;
      begun = c.self.inside.begun.items;
    } in
    let size : lines.size + length c.args.rest.now ≤ 16777216 =
    subst (λ (l : LinesSoFar). l.size + length c.args.rest.now ≤ 16777216) (sym c.self.view_is)
    c.requires.bounded in
    let kept = lines_so_far-with_begun lines (length c.args.rest.now) c.args.rest.now c.self.invariant size
    (omega arith) (HasNoByte-from_position 10 c.args.rest.now (sym c.in-None.ensures)) in
    rw c.in_ok-extend_from_slice-in-None.ensures.items kept

-- All bytes belong to the line that has begun.
pub returns-in_ok-extend_from_slice-in-None : goal.returns-in_ok-extend_from_slice-in-None
returns-in_ok-extend_from_slice-in-None c = record {
  rules = subst IsValidLinesSoFar c.self.view_is c.self.invariant;
  taken = (
    HasNoByte-from_position 10 c.args.rest.now (sym c.in-None.ensures),
    rw (c.in_ok-extend_from_slice-in-None.ensures.items, ← c.self.view_is) refl,
  );
}
