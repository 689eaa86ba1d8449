-- An empty list of numbers has none at any place.
use Rattle.mc_tables.proofs.NumberLemmas.{numbers_at_places-none}
use Rattle.mc_tables.proofs.listed.listed_entry_numbers.ListedEntryNumbers.of.Goals as goal

pub returns-clause-numbers : goal.returns-clause-numbers
returns-clause-numbers c = rw (c.new.ensures.items) (numbers_at_places-none c.args.pairs)
