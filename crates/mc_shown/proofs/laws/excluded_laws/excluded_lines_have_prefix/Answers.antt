-- The names of a valid topology have no line feed, so each line begins with its own words.
use Rattle.mc_shown.proofs.ExcludedLemmas.{are_indented-excluded_text, are_excluded_lines-excluded_lines}
use Rattle.mc_shown.proofs.laws.excluded_laws.excluded_lines_have_prefix.Goals as goal

pub returns-clause-routers : goal.returns-clause-routers
returns-clause-routers c = λ t marks ok. are_excluded_lines-excluded_lines t marks ok

pub returns-clause-reason : goal.returns-clause-reason
returns-clause-reason c = λ t marks ok. are_indented-excluded_text t marks ok
