use Rattle.std.proofs.Common.{[], ◌++◌, ◌∙◌, take, drop, arith, length-take, refl}
use Rattle.std.proofs.KnownBytes.{Consumes-nil, Consumes-trans}
use Rattle.std.proofs.lemmas.List.{length-append, take-append-le}
use Rattle.mc_commands.proofs.WantsReadingLemmas.{reads_piece-none, reads_piece-more}
use Rattle.mc_commands.proofs.wants.wanted_in_pieces.Goals as goal

-- Nothing was read yet.
pub reading-init : goal.reading-init
reading-init g c = record {
  same = refl;
  failures = refl;
  pieces_read = ([], omega arith, Consumes-nil _, reads_piece-none _ _ _);
  within = omega arith;
}

-- The last piece was read but not taken, and it is counted with those before it.
pub returns-in_err-wanted-in-Ok-clause-consumed : goal.returns-in_err-wanted-in-Ok-clause-consumed
returns-in_err-wanted-in-Ok-clause-consumed g c =
    let so_far = c.reading.invariant.pieces_read in
    let piece = take c.in-Ok.count c.read.new.buffer in
    let taken = length-take c.in-Ok.count c.read.new.buffer in
    let room = length-take c.min-room.result c.reading.buffer in (
      so_far.0 ++ piece,
      rw length-append (omega (arith, so_far.1, taken, c.in-Ok.ensures.bound)),
      Consumes-trans _ _ _ _ _ so_far.2 c.in-Ok.ensures.bytes.0,
    )

-- The reader takes exactly the bytes that this call of `read` gave, which follow those of the earlier pieces.
pub reading-preserved : goal.reading-preserved
reading-preserved g c =
    let so_far = c.reading.invariant.pieces_read in
    let piece = take c.in-Ok.count c.read.new.buffer in
    let taken = length-take c.in-Ok.count c.read.new.buffer in
    let room = length-take c.min-room.result c.reading.buffer in
    let whole = take-append-le c.in-Ok.count c.read.new.buffer
    (drop c.min-room.result c.reading.buffer) c.in-Ok.ensures.bound.0 in
    let here = rw whole at c.in_ok-wanted-in-Ok.ensures.pieces_read in
    let count = rw whole at c.in_ok-wanted-in-Ok.ensures.size in
    record {
      same = c.in-Ok.ensures.same ∙ c.reading.invariant.same;
      failures = c.in-Ok.ensures.failures ∙ c.reading.invariant.failures;
      pieces_read = (
        so_far.0 ++ piece,
        rw length-append (omega (arith, so_far.1, taken, count, c.in-Ok.ensures.bound.0)),
        Consumes-trans _ _ _ _ _ so_far.2 c.in-Ok.ensures.bytes.0,
        reads_piece-more c.args.reader.now c.reading.reader c.wanted_in_piece.new.reader so_far.0 piece
            c.args.group c.args.source _ _ so_far.3 here,
      );
      within = omega (arith, count);
    }

-- The bytes of all pieces were read, at most one more than a list may have.
pub returns-clause-consumed : goal.returns-clause-consumed
returns-clause-consumed g c =
    let so_far = c.reading.invariant.pieces_read in
    (so_far.0, omega (arith, so_far.1, c.reading.invariant.within), so_far.2)
