use Rattle.std.proofs.Common.{w64, sym}
use Rattle.std.proofs.Math.Facts.{to_z-of_z}
use Rattle.mc_topology.proofs.FlowLemmas.{ttl_of-from_both_tests, ttl_of-from_failed_test}
use Rattle.mc_topology.proofs.read.flows.ttl_of.Goals as goal

-- The range from 1 to 255 lacks the number exactly where one of the two tests of the definition fails.
pub returns-then-not-contains : goal.returns-then-not-contains
returns-then-not-contains c =
    let same = to_z-of_z {w = w64} {z = c.args.ttl_number} c.ranges.ttl_number in
    let value =
    rw (c.new.ensures.start, c.new.ensures.end, c.new.ensures.exhausted, same)
    at c.if-not-contains.ensures.value in
    sym (ttl_of-from_failed_test c.args.ttl_number (sym value))

-- The range from 1 to 255 has the number, so that it fits a byte.
pub returns : goal.returns
returns c =
    let same = to_z-of_z {w = w64} {z = c.args.ttl_number} c.ranges.ttl_number in
    let (low, high) = rw (c.new.ensures.start, c.new.ensures.end, same) at
    c.if-not-contains.ensures.cases in
    rw same (sym (ttl_of-from_both_tests c.args.ttl_number low high))
