-- The bytes that pairs of hexadecimal digits write.
use Rattle.std.specs.Prelude.{◌≡◌, ℕ, ◌+◌, ◌*◌, true, List, [], ◌∷◌, take}
use Rattle.std.specs.List.{list_all}
use Rattle.hex.specs.Hex.{is_hex_digit}
use Rattle.mc_text.specs.AddressWord.{hex_value_or_16}

-- the byte that two digits write, the high one first
abbrev pub byte_of_pair : ℕ → ℕ → ℕ
byte_of_pair high low = hex_value_or_16 high * 16 + hex_value_or_16 low

-- the bytes that pairs of digits write; an odd last digit writes none
abbrev pub bytes_of_pairs : List ℕ → List ℕ
bytes_of_pairs (high ∷ low ∷ rest) = byte_of_pair high low ∷ bytes_of_pairs rest
bytes_of_pairs _ = []

-- the first `count` pairs are pairs of digits, and the first `count` bytes are those that they
-- write
abbrev pub AreDecoded : List ℕ → List ℕ → ℕ → Type 0
AreDecoded digits bytes count = (list_all is_hex_digit (take (2 * count) digits) ≡ true)
    × (take count bytes ≡ bytes_of_pairs (take (2 * count) digits))
