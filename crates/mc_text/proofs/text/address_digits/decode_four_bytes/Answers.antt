use Rattle.std.proofs.Common.{ap, arith, Some}
use Rattle.hex.proofs.HexLemmas.{decode_of-same}
use Rattle.mc_text.proofs.AddressDigitLemmas.{decode_of-four_pairs}
use Rattle.mc_text.proofs.text.address_digits.decode_four_bytes.Goals as goal

-- The octets of the four pairs of digits, in their order, are the decoded word.
pub returns-clause-found : goal.returns-clause-found
returns-clause-found c =
    decode_of-four_pairs c.args.word.now _ _ _ _
    (omega (arith, c.in-len8.len_at_least, c.in-len8.len_below))
    (c.in_ok-octet.ensures.found 0) (c.in_ok-octet-2.ensures.found 2)
    (c.in_ok-octet-3.ensures.found 4) (c.in_ok-octet-4.ensures.found 6)

-- The word has one decoding, and it was found.
pub returns-clause-only : goal.returns-clause-only
returns-clause-only c = λ bytes four e.
    ap Some (decode_of-same c.args.word.now _ bytes (returns-clause-found c) e)
