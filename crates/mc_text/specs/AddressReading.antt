-- The address that a text writes, if it writes one: with dots, or as a word of a kernel's table.
use Rattle.std.specs.Prelude.{ℕ, ◌==◌, ◌&&◌, nat_lt, List, length, map, reverse, Option, Some, None}
use Rattle.std.specs.Prelude.{Result, Ok, Err, if◌then◌else◌}
use Rattle.std.specs.Int.{w32, from_be_bytes}
use Rattle.std.specs.List.{list_all, slice_split}
use Rattle.std.specs.Net.Text.{ipv4_text}
use Rattle.std.specs.Str.{bytes_eq}
use Rattle.std.specs.Str.Parse.{digits_value}
use Rattle.hex.specs.Hex.{decode_of}
use Rattle.mc_text.specs.declared.text.addr.Order.{Order}
use Rattle.mc_text.specs.declared.text.addr.Order.TheVariants.{Little, Big}

-- ---- addresses with dots

-- the numbers that the digits between the dots write in decimal
abbrev pub numbers_between_dots : List ℕ → List ℕ
numbers_between_dots text = map (digits_value 10) (slice_split (λ byte. byte == 46) text)

-- the address with these octets, if they are four below 256 and the text is how they are written
abbrev pub address_if_dotted : (text octets : List ℕ) → Option ℕ
address_if_dotted text octets =
    if (length octets == 4) && list_all (λ octet. nat_lt octet 256) octets
    && bytes_eq (ipv4_text octets) text
    then Some (from_be_bytes w32 octets) else None

-- the address that a text writes with dots, if it writes one
unfoldable pub address_of_text : List ℕ → Option ℕ
address_of_text text = address_if_dotted text (numbers_between_dots text)

-- ---- words of a kernel's table

-- an address's octets, first to last, from the octets in the order in which a kernel prints them
abbrev pub octets_in_order : Order → List ℕ → List ℕ
octets_in_order Big octets = octets
octets_in_order Little octets = reverse octets

-- the address of the octets that a word's digits write, if they are digits and the octets are four
abbrev pub address_of_octets : {E : Type 0} → Order → Result (List ℕ) E → Option ℕ
address_of_octets order (Ok octets) =
    if length octets == 4 then Some (from_be_bytes w32 (octets_in_order order octets)) else None
address_of_octets order (Err fault) = None

-- the address that a word of a kernel's table shows, if it shows one
unfoldable pub address_of_word : Order → List ℕ → Option ℕ
address_of_word order word = address_of_octets order (decode_of word)
