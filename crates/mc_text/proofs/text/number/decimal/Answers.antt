-- Code and definition both answer just the number that the
-- word writes, if it is in range, so that they agree.
use Rattle.mc_text.proofs.StepLemmas.{answer_is_value}
use Rattle.mc_text.proofs.NumberReading.{number_up_to-sound, number_up_to-complete}
use Rattle.mc_text.proofs.text.number.decimal.Goals as goal

pub returns-clause-value : goal.returns-clause-value
returns-clause-value c =
    let read = c.parse_decimal.ensures in
    answer_is_value _ _ _ _ read.found read.bound read.only
    (number_up_to-sound c.args.max c.args.word.now) (number_up_to-complete c.args.max c.args.word.now)
