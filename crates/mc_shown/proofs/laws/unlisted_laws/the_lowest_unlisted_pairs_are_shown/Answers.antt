use Rattle.std.proofs.Common.{refl}
use Rattle.mc_tables.specs.Summary.{SummaryValue, summary_of}
use Rattle.mc_shown.specs.UnlistedText.{unlisted_pairs}
use Rattle.mc_asked.proofs.MergeLemmas.{shown_pairs-of_parts}
use Rattle.mc_shown.proofs.LowestPairLemmas.{routers_with-filter_rows}
use Rattle.mc_shown.proofs.laws.unlisted_laws.the_lowest_unlisted_pairs_are_shown.Goals as goal

-- A pair among the 20 lowest of all is among the 20 lowest of each cache that has it.
pub returns-clause-pairs : goal.returns-clause-pairs
returns-clause-pairs c = λ all listed caches.
    shown_pairs-of_parts all (unlisted_pairs listed)
    (λ (own : SummaryValue). own.lowest) (summary_of all listed) (λ rows. refl) caches

-- So the summary of each cache that has a shown pair has it too.
pub returns-clause-routers : goal.returns-clause-routers
returns-clause-routers c = λ all t listed caches. routers_with-filter_rows all t listed caches
