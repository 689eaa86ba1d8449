use Rattle.std.proofs.Common.{◌∙◌, ap, sym, subst}
use Rattle.mc_tables.specs.CacheTable.{IsValidCache}
use Rattle.mc_tables.specs.Summary.{HasValidEntries}
use Rattle.mc_tables.specs.SummarySoFar.{finished_summary}
use Rattle.mc_tables.specs.SummaryReading.{SummarizedRowsSoFar, SummarizedCacheSoFar, summary_if}
use Rattle.mc_tables.specs.TableSoFar.{table_start}
use Rattle.mc_tables.proofs.SummaryLemmas.{summary_if-start, summary_reads_in_steps}
use Rattle.mc_tables.proofs.SummaryRuleLemmas.{empty_summary-is_valid}
use Rattle.mc_tables.proofs.RowRuleLemmas.{table_of_none-is_valid}
use Rattle.mc_tables.proofs.summary.summary_reader.SummaryReader.new.Goals as goal

-- Lines are read one after the other, and with no rows both the table and the summary keep the rules.
pub with_rows-requires : goal.with_rows-requires
with_rows-requires c = record {
  steps = summary_reads_in_steps;
  valid = (
      subst (λ (s : SummarizedRowsSoFar). IsValidCache s.rows.rows.table × HasValidEntries
      (finished_summary s.summary))
      (sym c.new.ensures) (table_of_none-is_valid, empty_summary-is_valid c.args.all c.args.listed));
}

-- A reader that was fed nothing has all of the text before it.
pub returns-clause-reads : goal.returns-clause-reads
returns-clause-reads c = λ text within.
    ap (λ (s : SummarizedCacheSoFar). summary_if s text)
    (c.with_rows.ensures.start ∙ ap table_start c.new.ensures)
    ∙ summary_if-start c.args.all c.args.order c.args.listed text within
