-- The reader reads what is listed, and here all sources and groups of the text are: nothing is left out.
use Rattle.std.proofs.Common.{Some, refl, ◌∙◌}
use Rattle.mc_tables.specs.ListedRows.{listed_in}
use Rattle.mc_tables.specs.RowsSoFar.{cache_if}
use Rattle.mc_tables.proofs.PieceLemmas.{whole_if-is}
use Rattle.mc_tables.proofs.TextPairLemmas.{listed_in-all_kept}
use Rattle.mc_tables.proofs.cache.cache_table.CacheTable.from_text.Goals as goal

pub returns : goal.returns
returns c = λ there.
    let pairs = c.in_ok-pairs.pairs in
    c.read_whole.ensures.table there
    ∙ whole_if-is (cache_if c.new.result) c.args.text.now
    (listed_in c.args.order (Some pairs) c.args.text.now)
    (c.new.ensures.reads c.args.text.now) (λ more. rw more refl)
    ∙ listed_in-all_kept c.args.order pairs c.args.text.now c.in_ok-pairs.ensures.kept
