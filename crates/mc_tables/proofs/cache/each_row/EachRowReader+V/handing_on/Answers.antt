-- A reader that was fed nothing hands on all rows of the text.
use Rattle.std.proofs.Common.{ap, ◌∙◌}
use Rattle.mc_tables.specs.EachRow.{each_row_if}
use Rattle.mc_tables.specs.TableSoFar.{table_start}
use Rattle.mc_tables.proofs.EachRowLemmas.{each_row_if-rows}
use Rattle.mc_tables.proofs.cache.each_row.EachRowReader+V.handing_on.Goals as goal

pub returns-clause-reads : goal.returns-clause-reads
returns-clause-reads g c = λ text rows is.
    ap (λ s. each_row_if g.V.RowFold.concerns g.V.RowFold.after s text)
    (c.with_rows.ensures.start ∙ ap table_start c.new.ensures)
    ∙ each_row_if-rows g.V.RowFold.concerns g.V.RowFold.after c.requires.others c.args.order c.args.made
    text rows is
