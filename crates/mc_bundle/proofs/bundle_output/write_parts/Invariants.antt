use Rattle.std.proofs.Common.{◌≡◌, take}
use Rattle.std.specs.Io.KnownBytes.{Appends}
use Rattle.mc_bundle.proofs.Pieces.{front_of_bundle}
use Rattle.mc_bundle.proofs.bundle_output.write_parts.Given as goal

-- The first line and the parts before this one were written.
abbrev pub invariant-loop-part : goal.invariant-loop-part
invariant-loop-part g l = record {
  same : g.W.Output.borrows l.output ≡ g.W.Output.borrows l.fn.output;
  failures : g.W.Output.failed l.output ≡ g.W.Output.failed l.fn.output;
  bytes : Appends (g.W.Output.written l.fn.output) (g.W.Output.written l.output)
      (front_of_bundle (take l.part-index l.parts));
}
