use Rattle.std.proofs.Common.{Some, sym, subst, ◌∙◌, ap}
use Rattle.mc_tables.specs.CacheTable.{IsValidCache}
use Rattle.mc_tables.specs.RowsSoFar.{ListedRowsSoFar, CacheSoFar, cache_if}
use Rattle.mc_tables.specs.TableSoFar.{table_start}
use Rattle.mc_tables.proofs.RowRuleLemmas.{table_of_none-is_valid}
use Rattle.mc_tables.proofs.RowsSoFarLemmas.{cache_if-start, table_reads_in_steps}
use Rattle.mc_tables.proofs.cache.cache_reader.CacheReader.new.Goals as goal

-- Lines are read one after the other, and no rows make a table that keeps the rules.
pub with_rows-requires : goal.with_rows-requires
with_rows-requires c = record {
  steps = table_reads_in_steps;
  valid = (
      subst (λ (s : ListedRowsSoFar). IsValidCache s.rows.table) (sym c.new.ensures) table_of_none-is_valid);
}

-- A reader that was fed nothing has all of the text before it.
pub returns-clause-reads : goal.returns-clause-reads
returns-clause-reads c = λ text within.
    ap (λ (s : CacheSoFar). cache_if s text) (c.with_rows.ensures.start ∙ ap table_start c.new.ensures)
    ∙ cache_if-start c.args.order (Some c.args.listed) text within
