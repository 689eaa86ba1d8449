-- The index has the pairs' numbers, and each number stands for one pair.
use Rattle.mc_tables.proofs.ListedPairLemmas.{contains-map_pair_of}
use Rattle.mc_tables.proofs.listed.listed_pairs.ListedPairs.of.Goals as goal

pub returns : goal.returns
returns c =
    rw c.in_ok-new.ensures.ok
    (contains-map_pair_of c.in_ok-index.index c.in_ok-pair_numbers.field-0.items c.args.pairs.now
    c.in_ok-pair_numbers.ensures.pairs c.in_ok-index.ensures)
