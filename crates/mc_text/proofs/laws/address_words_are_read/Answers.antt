-- `address_of_word` answers only the address that the word shows, and answers wherever there is one.
use Rattle.mc_text.proofs.AddressReading.{address_of_word-sound, address_of_word-complete}
use Rattle.mc_text.proofs.laws.address_words_are_read.Goals as goal

pub returns-clause-read : goal.returns-clause-read
returns-clause-read c = λ order word a.
    (address_of_word-sound order word a, λ is. address_of_word-complete order word a is.0 is.1)
