-- Of the sixteen bytes from the twelfth on, the first four are those that the first load ends with.
use Rattle.mc_tables.proofs.FourOifLemmas.{lanes-of_four}
use Rattle.mc_tables.proofs.cache.four_oifs.bytes_of_four.Goals as goal

pub returns : goal.returns
returns c = record { value = lanes-of_four c.args.line.now c.requires.within }
