-- `number_up_to` answers only the number that the word writes, and answers wherever it is in range.
use Rattle.mc_text.proofs.NumberReading.{number_up_to-sound, number_up_to-complete}
use Rattle.mc_text.proofs.laws.decimal_numbers_are_read.Goals as goal

pub returns : goal.returns
returns c = λ max word n.
    (number_up_to-sound max word n, λ is. number_up_to-complete max word n is.0 is.1)
