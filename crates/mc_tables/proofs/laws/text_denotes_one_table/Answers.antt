-- What a text denotes is what it is read as, and reading is a function.
use Rattle.mc_tables.proofs.LawLemmas.{denotes_vifs-unique, denotes_cache-unique}
use Rattle.mc_tables.proofs.laws.text_denotes_one_table.Goals as goal

pub returns-clause-vifs : goal.returns-clause-vifs
returns-clause-vifs c = denotes_vifs-unique

pub returns-clause-cache : goal.returns-clause-cache
returns-clause-cache c = denotes_cache-unique
