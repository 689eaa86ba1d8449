-- The digits of the two words, decoded together, are the bytes
-- of the first address and then those of the second.
use Rattle.std.proofs.Common.{sym, ap, ◌∙◌, Some, arith}
use Rattle.mc_tables.proofs.AddressWordLemmas.{has_addresses-from_words, address_in-both_words}
use Rattle.mc_tables.proofs.lines.address_words.addresses_together.Goals as goal

pub returns : goal.returns
returns c =
    let line = c.args.line.now in
    let order = c.args.order in
    let digits = sym c.are_hex_digits.ensures ∙ c.if-not-are_hex_digits.false in
    let read = address_in-both_words order line c.digits_of_both-digits.result
    c.bytes_of_hex_digits-bytes.result
    c.if-line.false c.digits_of_both-digits.ensures.value digits
    (c.bytes_of_hex_digits-bytes.ensures digits) in
    has_addresses-from_words order line c.from_printed_octets-group.result c.from_printed_octets-origin.result
    (omega (arith, c.if-line.false)) c.if-line-ne32.false c.if-line-ne32-2.false
    (read.0 ∙ ap Some (sym c.from_printed_octets-group.ensures.value))
    (read.1 ∙ ap Some (sym c.from_printed_octets-origin.ensures.value))
