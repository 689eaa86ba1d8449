-- No line had a fault, so that those that are known are as they were left.
use Rattle.std.proofs.Common.{arith}
use Rattle.mc_igmp.proofs.list_reader.ListReader.feed.Goals as goal

pub read_piece-requires-clause-known : goal.read_piece-requires-clause-known
read_piece-requires-clause-known c = c.self.invariant.3 (grind arith)
