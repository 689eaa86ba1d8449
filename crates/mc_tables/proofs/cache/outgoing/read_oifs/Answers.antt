-- Before the first word no outgoing vif was read, and all words are to come.
use Rattle.mc_tables.proofs.OifLemmas.{oifs_in_by_steps}
use Rattle.mc_tables.proofs.cache.outgoing.read_oifs.Goals as goal

pub loop-word-init : goal.loop-word-init
loop-word-init c = rw (c.requires.empty, c.into_iter-word-iterator.ensures.into_iter_gives)
    (oifs_in_by_steps c.args.words)
