-- `from_hex_word` answers just the address that the word shows, as `address_in` does.
use Rattle.mc_tables.proofs.AddressLemmas.{address_in-from_clauses}
use Rattle.mc_tables.proofs.cache.cache_line.address_of_word.Goals as goal

pub returns : goal.returns
returns c =
    address_in-from_clauses c.args.order c.args.word.now c.from_hex_word.result
    c.from_hex_word.ensures.in_range c.from_hex_word.ensures.found c.from_hex_word.ensures.only
