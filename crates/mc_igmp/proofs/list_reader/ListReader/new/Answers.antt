-- With nothing fed before, the text to come is the whole text.
use Rattle.mc_igmp.proofs.PieceLemmas.{list_if-no_list}
use Rattle.mc_igmp.proofs.list_reader.ListReader.new.Goals as goal

pub returns-clause-reads : goal.returns-clause-reads
returns-clause-reads c = λ text.
    rw (c.new.ensures.ended, c.new.ensures.begun, c.new.ensures.list) (list_if-no_list text)
