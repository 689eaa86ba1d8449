use Rattle.std.proofs.Common.{true, false, arith}
use Rattle.mc_files.proofs.SlotLemmas.{length-slots_after_topology}
use Rattle.mc_files.proofs.slot_order.slot_count.Goals as goal

-- One slot for the topology, two for each router, one for each LAN, and the certificate's.
pub returns-then-certified-clause-count : goal.returns-then-certified-clause-count
returns-then-certified-clause-count c =
    rw (c.if-certified.true) (omega (arith, length-slots_after_topology true c.args.topology.now))

-- The same without the certificate's.
pub returns-clause-count : goal.returns-clause-count
returns-clause-count c =
    rw (c.if-certified.false) (omega (arith, length-slots_after_topology false c.args.topology.now))
