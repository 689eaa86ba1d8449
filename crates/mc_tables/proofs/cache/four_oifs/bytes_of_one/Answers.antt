-- The second load begins with the colon that the first one ends with.
use Rattle.mc_tables.proofs.FourOifLemmas.{lanes-of_one}
use Rattle.mc_tables.proofs.cache.four_oifs.bytes_of_one.Goals as goal

pub returns : goal.returns
returns c = record { value = lanes-of_one c.args.line.now c.requires.within }
