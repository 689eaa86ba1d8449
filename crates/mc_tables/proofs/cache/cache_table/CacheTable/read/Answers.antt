use Rattle.std.proofs.Common.{◌∙◌}
use Rattle.mc_tables.proofs.CacheLemmas.{cache_in-from_denotes, cache_result-denotes}
use Rattle.mc_tables.proofs.cache.cache_table.CacheTable.read.Goals as goal

-- A table that `cache_in` answers is denoted by the text.
pub returns-clause-found : goal.returns-clause-found
returns-clause-found c =
    cache_result-denotes c.args.order c.args.text.now c.from_text.result c.from_text.ensures

-- A table that the text denotes is what `cache_in` answers.
pub returns-clause-only : goal.returns-clause-only
returns-clause-only c =
    λ table denotes there. c.from_text.ensures there
    ∙ cache_in-from_denotes c.args.order c.args.text.now table denotes
