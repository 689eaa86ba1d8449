use Rattle.std.proofs.Common.{◌≡◌}
use Rattle.mc_tables.specs.CacheReading.{oifs_in}
use Rattle.mc_tables.specs.OutgoingSteps.{oifs_after_words}
use Rattle.mc_tables.proofs.cache.outgoing.read_oifs.Given as goal

-- reading the other words after the outgoing vifs so far is reading all words
abbrev pub invariant-loop-word : goal.invariant-loop-word
invariant-loop-word l = oifs_after_words l.oifs.items l.word-iterator ≡ oifs_in l.fn.words
