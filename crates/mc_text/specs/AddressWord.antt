-- How a kernel prints an address in its table: as eight hexadecimal digits of the four
-- network-order bytes, read as one number in the byte order of its machine (`%08X` of
-- `mfc_mcastgrp` and `mfc_origin` in ipmr_mfc_seq_show of net/ipv4/ipmr.c).
use Rattle.std.specs.Prelude.{◌≡◌, ℕ, List, reverse, Ok}
use Rattle.hex.specs.Hex.{decode_of}
use Rattle.mc_text.specs.declared.text.addr.Order.{Order}
use Rattle.mc_text.specs.declared.text.addr.Order.TheVariants.{Little, Big}
use Rattle.mc_text.specs.Addr.{octets_of}
use Rattle.std.specs.Prelude.{unwrap_or}
use Rattle.hex.specs.Hex.{hex_digit_value}

-- an address's octets in the order in which the digits write them: first to last on a big-endian
-- machine, last to first on a little-endian one
abbrev pub printed_octets : Order → ℕ → List ℕ
printed_octets Big address = octets_of address
printed_octets Little address = reverse (octets_of address)

-- the word's pairs of hexadecimal digits are the address's octets in that order
abbrev pub IsAddressWord : Order → List ℕ → ℕ → Type 0
IsAddressWord order word address = decode_of word ≡ Ok (printed_octets order address)

-- the value of a hexadecimal digit, in upper or lower case; 16 for every other byte
abbrev pub hex_value_or_16 : ℕ → ℕ
hex_value_or_16 byte = unwrap_or (hex_digit_value byte) 16
