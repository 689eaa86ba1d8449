use Rattle.mc_input.proofs.SummaryLemmas.{AreSummariesOf-unique}
use Rattle.mc_input.proofs.laws.summaries_are_unique.Goals as goal

-- Each router's file has one list of rows, of which the summary is computed.
pub returns : goal.returns
returns c = AreSummariesOf-unique
