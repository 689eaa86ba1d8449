-- The pieces before were written whole, and of this one a proper prefix, which is one of the whole text.
use Rattle.std.proofs.Common.{List, ℕ, Bor}
use Rattle.mc_text.proofs.StepLemmas.{OnErr-from}
use Rattle.mc_bundle.proofs.Pieces.{appends_prefix-after_front, flat_map-split_at}
use Rattle.mc_bundle.proofs.io.output_bytes.write_pieces.Goals as goal

pub returns-in_err-write_all-clause-err : goal.returns-in_err-write_all-clause-err
returns-in_err-write_all-clause-err g c =
    let at = flat_map-split_at (λ (piece : Bor (List ℕ)). piece.now) c.args.pieces.now
    c.loop-piece.piece-index _ c.loop-piece-test.true in
    OnErr-from _ _ (appends_prefix-after_front _ _ _ _ _ _ _ c.loop-piece.invariant.bytes
    c.in_err-write_all.ensures.err at)
