use Rattle.std.proofs.Common.{◌≡◌, take}
use Rattle.std.specs.Prelude.{flat_map}
use Rattle.std.specs.Io.KnownBytes.{Appends}
use Rattle.mc_bundle.proofs.io.output_bytes.write_pieces.Given as goal

-- The pieces before this one were written.
abbrev pub invariant-loop-piece : goal.invariant-loop-piece
invariant-loop-piece g l = record {
  same : g.W.Output.borrows l.output ≡ g.W.Output.borrows l.fn.output;
  failures : g.W.Output.failed l.output ≡ g.W.Output.failed l.fn.output;
  bytes : Appends (g.W.Output.written l.fn.output) (g.W.Output.written l.output)
      (flat_map (λ piece. piece.now) (take l.piece-index l.pieces));
}
