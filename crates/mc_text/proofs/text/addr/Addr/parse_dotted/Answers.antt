-- Code and definition both answer just the address whose dotted text it is, so that they agree.
use Rattle.mc_text.proofs.StepLemmas.{answer_is_value}
use Rattle.mc_text.proofs.AddressReading.{address_of_text-sound, address_of_text-complete}
use Rattle.mc_text.proofs.text.addr.Addr.parse_dotted.Goals as goal

pub returns-clause-value : goal.returns-clause-value
returns-clause-value c =
    let read = c.parse_dotted_address.ensures in
    answer_is_value _ _ _ _ read.in_range read.found read.only
    (address_of_text-sound c.args.text.now) (address_of_text-complete c.args.text.now)
