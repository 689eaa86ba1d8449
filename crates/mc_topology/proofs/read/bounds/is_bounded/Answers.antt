use Rattle.std.proofs.Common.{arith, refl, le-leb}
use Rattle.std.proofs.lemmas.Bool.Decides.{nat_tests}
use Rattle.mc_topology.proofs.Bounds.{IsScannedTo-more, is_bounded-all}
use Rattle.mc_topology.proofs.read.bounds.is_bounded.Goals as goal

-- No count rises by more than the text has bytes, but for the compared ones, to which a byte adds at
-- most a header.
pub loop-byte-preserved : goal.loop-byte-preserved
loop-byte-preserved c =
    rw c.with_byte-scan.ensures.value
    (IsScannedTo-more c.args.text.now c.loop-byte.scan c.loop-byte.byte-index
    c.loop-byte.invariant c.loop-byte-test.true c.requires.bounded)

-- The loop has scanned the whole text, which has few enough marks, so that the compared bytes decide.
pub returns-then-scan-le-MAX_MARKS : goal.returns-then-scan-le-MAX_MARKS
returns-then-scan-le-MAX_MARKS c = record {
  value = (
      let is = is_bounded-all c.args.text.now c.loop-byte.scan c.loop-byte.byte-index
      c.loop-byte.invariant c.loop-byte-test.false in
      rw (is, le-leb _ _ c.if-scan-le-MAX_MARKS.true) refl);
}

-- The loop has scanned the whole text, which has too many marks.
pub returns-else-scan-le-MAX_MARKS : goal.returns-else-scan-le-MAX_MARKS
returns-else-scan-le-MAX_MARKS c = record {
  value = (
      let is = is_bounded-all c.args.text.now c.loop-byte.scan c.loop-byte.byte-index
      c.loop-byte.invariant c.loop-byte-test.false in
      let many = c.if-scan-le-MAX_MARKS.false in
      rw is (grind (arith, nat_tests)));
}
