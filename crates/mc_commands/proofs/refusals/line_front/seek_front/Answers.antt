use Rattle.std.proofs.Common.{◌≡◌, ◌-◌, ◌∙◌, ap, arith, drop, length, length-take, sym, take}
use Rattle.std.proofs.lemmas.List.{length-append, take-append-le}
use Rattle.std.proofs.Math.Seq.{take-nil}
use Rattle.mc_commands.specs.LineFront.{front_after_more}
use Rattle.mc_commands.proofs.LineFrontLemmas.{front-at_end, front-after_piece, front-in_piece}
use Rattle.mc_commands.proofs.LineFrontLemmas.{left_after_piece-known, take-none_left}
use Rattle.mc_commands.proofs.refusals.line_front.seek_front.Goals as goal

-- The file has ended, and no byte is left that could change the front.
pub returns-in-Ok-eq0-clause-front : goal.returns-in-Ok-eq0-clause-front
returns-in-Ok-eq0-clause-front g c = λ text is.
    let so_far = c.reading.invariant.front text is in
    let room = length-take c.min-room.result c.reading.buffer in
    let zero : c.in-Ok-eq0.field-0 ≡ 0 = omega arith in
    let none = take-none_left (g.F.PieceSource.left c.reading.files)
    (g.F.PieceSource.left c.read_piece.new.self)
    so_far.0 (take c.in-Ok-eq0.field-0 c.read_piece.new.buffer) so_far.1 c.in-Ok-eq0.ensures.bytes.0
    (ap (λ n. take n c.read_piece.new.buffer) zero) (c.in-Ok-eq0.ensures.bytes.1 zero (omega arith)) in
    front-at_end c.args.sought.now c.reading.sought c.reading.left so_far.0 (take 16777216 text) so_far.2
    (omega (arith, c.reading.invariant.bounded, c.reading.sought.front.ok.0))
    (ap (take c.reading.left) none ∙ take-nil c.reading.left)

-- As many bytes were read as a part of a bundle may have, and none is left to be read.
pub returns-clause-front : goal.returns-clause-front
returns-clause-front g c = λ text is.
    let so_far = c.reading.invariant.front text is in
    let spent : c.reading.left ≡ 0 = omega arith in
    front-at_end c.args.sought.now c.reading.sought c.reading.left so_far.0 (take 16777216 text) so_far.2
    (omega (arith, c.reading.invariant.bounded, c.reading.sought.front.ok.0))
    (ap (λ n. take n so_far.0) spent)

-- The front was complete within this piece, so that no later byte changes it.
pub returns-in-Ok-true-clause-front : goal.returns-in-Ok-true-clause-front
returns-in-Ok-true-clause-front g c = λ text is.
    let so_far = c.reading.invariant.front text is in
    let piece = take c.in-Ok.count c.read_piece.new.buffer in
    let taken = length-take c.in-Ok.count c.read_piece.new.buffer in
    let room = length-take c.min-room.result c.reading.buffer in
    let whole = take-append-le c.in-Ok.count c.read_piece.new.buffer
    (drop c.min-room.result c.reading.buffer) c.in-Ok.ensures.bound.0 in
    let takes = rw whole at c.in-Ok-true.ensures.takes in
    let next = left_after_piece-known (g.F.PieceSource.left c.reading.files)
    (g.F.PieceSource.left c.read_piece.new.self)
    so_far.0 piece so_far.1 c.in-Ok.ensures.bytes.0 in
    front-in_piece c.args.sought.now c.reading.sought c.reading.left so_far.0 (take 16777216 text) so_far.2
    c.take.new.self piece next.0 c.in-Ok-true.field-0 (omega (arith, taken, c.in-Ok.ensures.bound.0)) next.2
    c.in-Ok-true.field-0-test takes

-- The piece was taken from what was left, and what is left after it makes of the new front what both made of
-- the old one.
pub reading-preserved : goal.reading-preserved
reading-preserved g c =
    let piece = take c.in-Ok.count c.read_piece.new.buffer in
    let taken = length-take c.in-Ok.count c.read_piece.new.buffer in
    let room = length-take c.min-room.result c.reading.buffer in
    let whole = take-append-le c.in-Ok.count c.read_piece.new.buffer
    (drop c.min-room.result c.reading.buffer) c.in-Ok.ensures.bound.0 in
    let takes = rw whole at c.in-Ok-false.ensures.takes in
    let count : length piece ≡ c.in-Ok.count =
    omega (arith, taken, c.in-Ok.ensures.bound.0) in
    record {
      same = c.in-Ok.ensures.same ∙ c.reading.invariant.same;
      kept = c.in-Ok.ensures.kept ∙ c.reading.invariant.kept;
      failures = c.in-Ok.ensures.failures ∙ c.reading.invariant.failures;
      room = rw length-append (omega arith);
      bounded = c.in-Ok-false.ensures.bounded;
      front = λ text is.
          let so_far = c.reading.invariant.front text is in
          let next = left_after_piece-known (g.F.PieceSource.left c.reading.files)
          (g.F.PieceSource.left c.read_piece.new.self)
          so_far.0 piece so_far.1 c.in-Ok.ensures.bytes.0 in (
            next.0,
            next.1,
            ap (λ n. front_after_more c.take.new.self (take (c.reading.left - n) next.0)) (sym count)
                ∙ front-after_piece c.args.sought.now c.reading.sought c.reading.left so_far.0
                (take 16777216 text) so_far.2 c.take.new.self piece next.0 c.in-Ok-false.field-0
                (omega (arith, taken, c.in-Ok.ensures.bound.0)) next.2 c.in-Ok-false.field-0-test takes,
          );
    }
