-- A row that was accepted keeps the rules of both the table and the summary.
use Rattle.std.proofs.Common.{subst}
use Rattle.mc_text.specs.LineView.{line_text}
use Rattle.mc_tables.specs.CacheTable.{IsValidCache}
use Rattle.mc_tables.specs.Summary.{HasValidEntries}
use Rattle.mc_tables.specs.SummarySoFar.{finished_summary}
use Rattle.mc_tables.specs.SummaryReading.{SummarizedRowsSoFar}
use Rattle.mc_tables.proofs.SummaryRuleLemmas.{summary_with_line-keeps_valid}
use Rattle.mc_tables.proofs.summary.summarized_rows.SummarizedRowsTableRows.add_line.Goals as goal

pub returns-in-Ok-clause-is_valid : goal.returns-in-Ok-clause-is_valid
returns-in-Ok-clause-is_valid c =
    let rows = c.add_summarized.new.self in
    let summary = c.add_summarized.new.summary in
    subst (λ (s : SummarizedRowsSoFar). IsValidCache s.rows.rows.table × HasValidEntries
    (finished_summary s.summary)
    → IsValidCache rows.rows.table × HasValidEntries (finished_summary summary)) c.self.view_is
    (summary_with_line-keeps_valid c.self.inside.rows rows c.self.inside.summary summary
    (line_text c.args.line.now)
    c.in-Ok.ensures.added c.in-Ok.ensures.summarized)
