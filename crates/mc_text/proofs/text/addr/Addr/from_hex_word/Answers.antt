-- Code and definition both answer just the address that the word shows, so that they agree.
use Rattle.mc_text.proofs.StepLemmas.{answer_is_value}
use Rattle.mc_text.proofs.AddressReading.{address_of_word-sound, address_of_word-complete}
use Rattle.mc_text.proofs.text.addr.Addr.from_hex_word.Goals as goal

pub returns-clause-value : goal.returns-clause-value
returns-clause-value c =
    let read = c.parse_address_word.ensures in
    answer_is_value _ _ _ _ read.in_range read.found read.only
    (address_of_word-sound c.args.order c.args.word.now)
    (address_of_word-complete c.args.order c.args.word.now)
