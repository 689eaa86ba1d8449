use Rattle.std.proofs.Common.{◌+◌, ◌*◌, ◌≤◌, take}
use Rattle.mc_bundle.specs.BundleView.{part_texts}
use Rattle.mc_bundle.proofs.Pieces.{IsSizeSoFar}
use Rattle.mc_bundle.proofs.bundle_output.are_within_limits.Given as goal

-- The parts before this one are each within the limit, and with the first and the last line have this size. A
-- part takes at most 16,777,308 bytes: 16,777,216 of its own, and 92 of its line and its line feed.
abbrev pub invariant-loop-part : goal.invariant-loop-part
invariant-loop-part l = record {
  small : IsSizeSoFar (part_texts (take l.part-index l.parts)) l.size;
  bound : l.size ≤ 21 + 16777308 * l.part-index;
}
