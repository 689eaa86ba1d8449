-- A line without a line feed is refused, but for a repeat in an earlier line, which comes first.
use Rattle.std.proofs.Common.{Err, ap, sym, ◌∙◌}
use Rattle.mc_tables.specs.declared.fault.TableFaultKind.TheVariants.{Unended}
use Rattle.mc_tables.specs.RowsSoFar.{refusal_at}
use Rattle.mc_tables.specs.SummaryReading.{SummarizedRowsSoFar}
use Rattle.mc_tables.proofs.SummaryLemmas.{summary_from-unended}
use Rattle.mc_tables.proofs.summary.summarized_rows.SummarizedRowsTableRows.unended_fault.Goals as goal

pub returns : goal.returns
returns c = λ bytes.
    summary_from-unended c.args.self.now c.args.number bytes
    ∙ ap (λ (s : SummarizedRowsSoFar). Err (refusal_at s.rows.rows.others c.args.number Unended))
    (sym c.self.view_is)
    ∙ ap Err (c.earliest_fault.ensures.first (λ is. cc))
