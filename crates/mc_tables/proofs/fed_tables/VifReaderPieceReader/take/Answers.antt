use Rattle.std.proofs.Common.{codes, length}
use Rattle.mc_tables.specs.VifsSoFar.{vifs_from_lines}
use Rattle.mc_tables.proofs.FedTableLemmas.{counted_size-more, result_after-kept_fault}
use Rattle.mc_tables.proofs.fed_tables.VifReaderPieceReader.take.Goals as goal

-- The reader keeps its fault, so that whatever follows is read with the same result.
pub returns-clause-goes_on : goal.returns-clause-goes_on
returns-clause-goes_on c = λ more within.
    result_after-kept_fault (codes "Interface") vifs_from_lines c.args.self.now c.feed.new.self
    c.feed.result c.feed.ensures.again c.args.piece.now more c.memory_fault_only.result
    c.memory_fault_only.ensures.kept (c.feed.ensures.goes_on more) within

-- A piece adds its length, and after a fault nothing counts any more.
pub returns-clause-size : goal.returns-clause-size
returns-clause-size c =
    counted_size-more (codes "Interface") vifs_from_lines c.args.self.now c.feed.new.self
    c.feed.result c.feed.ensures.again (length c.args.piece.now) c.feed.ensures.size c.feed.ensures.fault
