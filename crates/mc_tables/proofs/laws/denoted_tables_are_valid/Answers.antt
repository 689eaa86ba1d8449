-- A table is denoted row by row, and each row is refused that would break a rule.
use Rattle.mc_tables.proofs.LawLemmas.{vif_table-is_valid}
use Rattle.mc_tables.proofs.TableRuleLemmas.{cache-is_valid}
use Rattle.mc_tables.proofs.laws.denoted_tables_are_valid.Goals as goal

pub returns-clause-vifs : goal.returns-clause-vifs
returns-clause-vifs c = vif_table-is_valid

pub returns-clause-cache : goal.returns-clause-cache
returns-clause-cache c = cache-is_valid
