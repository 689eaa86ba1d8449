-- The summary is made beside the table, of rows that the table's reader accepted.
use Rattle.mc_tables.proofs.SummaryLemmas.{table_without_summary-listed_in}
use Rattle.mc_tables.proofs.laws.summary_changes_no_table.Goals as goal

pub returns : goal.returns
returns c = table_without_summary-listed_in
