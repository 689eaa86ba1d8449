-- The summary of one more row adds just that row: both follow by going through the rows.
use Rattle.mc_tables.proofs.SummaryLemmas.{summary_of-every_source, summary_of-unresolved}
use Rattle.mc_tables.proofs.laws.summary_answers_by_rows.Goals as goal

pub returns-clause-unresolved : goal.returns-clause-unresolved
returns-clause-unresolved c = summary_of-unresolved

pub returns-clause-every_source : goal.returns-clause-every_source
returns-clause-every_source c = summary_of-every_source
