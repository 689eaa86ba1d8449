-- The words of the kernel's two tables: the form of each kind of word, and the value that it
-- denotes (ipmr_vif_seq_show and ipmr_mfc_seq_show in net/ipv4/ipmr.c).
use Rattle.std.specs.Prelude.{ℕ, ◌≤◌, ◌==◌, nat_le, Bool, ◌&&◌, List, length, drop}
use Rattle.std.specs.Prelude.{slice_index, Option, Some, None, if◌then◌else◌}
use Rattle.std.specs.Char.{is_ascii_digit, is_ascii_hexdigit}
use Rattle.std.specs.List.{list_all}
use Rattle.std.specs.Str.Parse.{digits_value}
use Rattle.mc_text.specs.Hex.{decode_of}
use Rattle.mc_text.specs.declared.text.addr.Order.{Order}
use Rattle.mc_text.specs.Addr.{IsAddr}
use Rattle.mc_text.specs.AddressReading.{address_of_octets}
use Rattle.mc_text.specs.AddressWord.{IsAddressWord}
use Rattle.mc_text.specs.Number.{IsDecimal}

-- ---- words whose value is not used

-- the word without a `-` at its front
abbrev pub without_sign : List ℕ → List ℕ
without_sign word = if slice_index word 0 == 45 then drop 1 word else word

-- whether the word is a counter (`%lu` or `%ld`): one to twenty decimal digits, maybe with a `-`
-- before them
abbrev pub is_counter : List ℕ → Bool
is_counter word =
    (nat_le 1 (length (without_sign word)) && nat_le (length (without_sign word)) 20)
    && list_all is_ascii_digit (without_sign word)

-- whether the word has `least` to `most` hexadecimal digits of either case, and nothing else
abbrev pub is_hexadecimal : ℕ → ℕ → List ℕ → Bool
is_hexadecimal least most word =
    (nat_le least (length word) && nat_le (length word) most) && list_all is_ascii_hexdigit word

-- ---- numbers

-- the word denotes this number, which is `least` to `most`, in decimal
abbrev pub WordDenotesNumber : ℕ → ℕ → List ℕ → ℕ → Type 0
WordDenotesNumber least most word number = IsDecimal word number × (least ≤ number) × (number ≤ most)

-- whether the word has one decimal digit or more, and nothing else
abbrev pub is_decimal_word : List ℕ → Bool
is_decimal_word word = nat_le 1 (length word) && list_all is_ascii_digit word

-- the number that the word denotes, if it denotes one that is `least` to `most`
abbrev pub number_in : ℕ → ℕ → List ℕ → Option ℕ
number_in least most word =
    if is_decimal_word word
    && (nat_le least (digits_value 10 word) && nat_le (digits_value 10 word) most)
    then Some (digits_value 10 word)
    else None

-- ---- addresses

-- the word denotes the address a, as a router prints it whose machine has this byte order
abbrev pub WordDenotesAddress : Order → List ℕ → ℕ → Type 0
WordDenotesAddress order word address = IsAddr address × IsAddressWord order word address

-- the address that the word denotes, if it denotes one
abbrev pub address_in : Order → List ℕ → Option ℕ
address_in order word = address_of_octets order (decode_of word)
