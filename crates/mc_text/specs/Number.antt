-- Numbers that a word writes in decimal.
use Rattle.std.specs.Prelude.{◌≡◌, ℕ, ◌==◌, ◌&&◌, ◌||◌, not, nat_le, Bool, List, length}
use Rattle.std.specs.Prelude.{Option, Some, None, if◌then◌else◌, slice_index}
use Rattle.std.specs.Char.{is_ascii_digit}
use Rattle.std.specs.List.{list_all}
use Rattle.std.specs.Str.Parse.{IsNumeral, digits_value}

-- the word has one decimal digit or more, and nothing else, and its digits write this number
abbrev pub IsDecimal : List ℕ → ℕ → Type 0
IsDecimal word number = IsNumeral 10 word × (digits_value 10 word ≡ number)

-- whether the word has one decimal digit or more, and nothing else
abbrev pub is_decimal : List ℕ → Bool
is_decimal word = nat_le 1 (length word) && list_all is_ascii_digit word

-- whether the word has decimal digits alone, and no leading zero (48 is the byte `0`) unless it is
-- a single zero
abbrev pub is_plain_decimal : List ℕ → Bool
is_plain_decimal word =
    is_decimal word && ((length word == 1) || not (slice_index word 0 == 48))

-- the number that the word writes in decimal, if it writes one of at most `max`
unfoldable pub number_up_to : ℕ → List ℕ → Option ℕ
number_up_to max word =
    if is_decimal word && nat_le (digits_value 10 word) max
    then Some (digits_value 10 word) else None
