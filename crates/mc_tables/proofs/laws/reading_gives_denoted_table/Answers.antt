-- A text is read row by row as it denotes them, and refused exactly where a rule fails.
use Rattle.mc_tables.proofs.LawLemmas.{vifs_in-iff_denotes, cache_in-iff_denotes}
use Rattle.mc_tables.proofs.laws.reading_gives_denoted_table.Goals as goal

pub returns-clause-vifs : goal.returns-clause-vifs
returns-clause-vifs c = vifs_in-iff_denotes

pub returns-clause-cache : goal.returns-clause-cache
returns-clause-cache c = cache_in-iff_denotes
