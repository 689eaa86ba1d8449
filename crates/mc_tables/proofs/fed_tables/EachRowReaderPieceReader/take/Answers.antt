use Rattle.std.proofs.Common.{codes, length}
use Rattle.mc_tables.specs.EachRow.{each_row_from}
use Rattle.mc_tables.proofs.FedTableLemmas.{counted_size-more, result_after-kept_fault}
use Rattle.mc_tables.proofs.fed_tables.EachRowReaderPieceReader.take.Goals as goal

-- The reader keeps its fault, so that whatever follows is read with the same result.
pub returns-clause-goes_on : goal.returns-clause-goes_on
returns-clause-goes_on g c = λ more within.
    result_after-kept_fault (codes "Group") (each_row_from g.V.RowFold.concerns g.V.RowFold.after)
    c.args.self.now c.feed.new.self
    c.feed.result c.feed.ensures.again c.args.piece.now more c.memory_fault_only.result
    c.memory_fault_only.ensures.kept (c.feed.ensures.goes_on more) within

-- A piece adds its length, and after a fault nothing counts any more.
pub returns-clause-size : goal.returns-clause-size
returns-clause-size g c =
    counted_size-more (codes "Group") (each_row_from g.V.RowFold.concerns g.V.RowFold.after)
    c.args.self.now c.feed.new.self
    c.feed.result c.feed.ensures.again (length c.args.piece.now) c.feed.ensures.size c.feed.ensures.fault
