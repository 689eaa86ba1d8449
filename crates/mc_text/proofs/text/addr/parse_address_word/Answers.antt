-- A word that shows an address has eight digits, which can be decoded.
use Rattle.mc_text.specs.AddressWord.{printed_octets}
use Rattle.mc_text.proofs.AddrLemmas.{length-printed_octets}
use Rattle.mc_text.proofs.text.addr.parse_address_word.Goals as goal

pub returns-in_err-bytes-clause-only : goal.returns-in_err-bytes-clause-only
returns-in_err-bytes-clause-only c = λ a fits word.
    let none = c.in_err-bytes.ensures.only (printed_octets c.args.order a)
    (length-printed_octets c.args.order a) word in
    absurd cc
