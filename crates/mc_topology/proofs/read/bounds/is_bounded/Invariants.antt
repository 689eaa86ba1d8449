use Rattle.mc_topology.proofs.Bounds.{IsScannedTo}
use Rattle.mc_topology.proofs.read.bounds.is_bounded.Given as goal

-- after the bytes so far those left are scanned as the whole text is
abbrev pub invariant-loop-byte : goal.invariant-loop-byte
invariant-loop-byte l = IsScannedTo l.text l.scan l.byte-index
