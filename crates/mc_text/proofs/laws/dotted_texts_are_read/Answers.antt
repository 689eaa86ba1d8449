use Rattle.mc_text.proofs.AddressReading.{address_of_text-sound, address_of_text-complete, dotted-injective}
use Rattle.mc_text.proofs.laws.dotted_texts_are_read.Goals as goal

-- `address_of_text` answers only the address whose dotted text it is, and answers wherever there is one.
pub returns-clause-read : goal.returns-clause-read
returns-clause-read c = λ text a.
    (address_of_text-sound text a, λ is. address_of_text-complete text a is.0 is.1)

-- Both are what the text is read as.
pub returns-clause-one : goal.returns-clause-one
returns-clause-one c = dotted-injective
