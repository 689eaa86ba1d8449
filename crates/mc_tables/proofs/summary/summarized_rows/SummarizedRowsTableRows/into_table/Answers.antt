use Rattle.std.proofs.Common.{[], Ok, sym, subst, ◌∙◌, ap}
use Rattle.mc_text.specs.Steps.{◌>>=◌}
use Rattle.mc_tables.specs.Summary.{SummaryValue, HasValidEntries}
use Rattle.mc_tables.specs.SummarySoFar.{finished_summary}
use Rattle.mc_tables.specs.SummaryReading.{SummarizedRowsSoFar, summary_from}
use Rattle.mc_tables.proofs.SummaryLemmas.{with_summary}
use Rattle.mc_tables.proofs.summary.summarized_rows.SummarizedRowsTableRows.into_table.Goals as goal

-- The rules of the summary held after each line.
pub of-requires : goal.of-requires
of-requires c = record {
  valid = (
      subst (λ (s : SummarizedRowsSoFar). HasValidEntries (finished_summary s.summary))
      (sym c.self.view_is) c.requires.valid.1);
}

-- The table is that of the rows, and the summary is the one made beside it.
pub returns : goal.returns
returns c = record {
  table = ap (λ (n : SummaryValue). Ok (record { table = c.in_ok-into_table.field-0; summary = n }))
      c.of.ensures.value
      ∙ ap (λ r. r >>= with_summary c.self.inside.rows.order c.self.inside.summary [])
      c.in_ok-into_table.ensures.table
      ∙ ap (λ (s : SummarizedRowsSoFar). summary_from s []) c.self.view_is;
}
