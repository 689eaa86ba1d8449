-- Texts without a byte, the place of a byte, and the words of numbers.
use Rattle.std.proofs.Common.{arith, ◌≡◌, ℕ, zero, suc, ◌+◌, ◌^◌, ◌<◌, Bool, true, false, eqb, List}
use Rattle.std.proofs.Common.{[], ◌∷◌, ◌++◌, length, get_or, take, drop, Some, refl}
use Rattle.std.specs.Prelude.{position}
use Rattle.std.specs.Char.{is_ascii_digit}
use Rattle.std.specs.Fmt.{decimal}
use Rattle.std.specs.List.{list_all}
use Rattle.std.specs.Str.Parse.{digits_value}
use Rattle.std.proofs.lemmas.Bool.Decides.{nat_tests}
use Rattle.std.proofs.lemmas.Fmt.{decimal_digit, digits_decimal, decimal-digits_value}
use Rattle.std.proofs.lemmas.Fmt.{decimal_is_IsNumeral, first_decimal}
use Rattle.std.proofs.lemmas.List.{take-append-drop, drop_more}
pub use Rattle.mc_text.specs.Lines.{HasNoByte}
use Rattle.mc_text.specs.Number.{is_plain_decimal}
use Rattle.mc_text.proofs.NumberReading.{decimal_numerals}
use Rattle.mc_text.proofs.Lists.{AllByRecursion-append}
use Rattle.mc_text.proofs.Searches.{position-append_passing}

-- two texts without a byte, joined, are without it
pub HasNoByte-append : (c : ℕ) (xs ys : List ℕ) → HasNoByte c xs → HasNoByte c ys → HasNoByte c (xs ++ ys)
HasNoByte-append c xs ys front back = AllByRecursion-append (λ b. eqb b c ≡ false) xs ys front back

-- a text whose bytes all pass a test doesn't have a byte that fails it
pub HasNoByte-from_list_all : (p : ℕ → Bool) (c : ℕ) → p c ≡ false → (xs : List ℕ)
    → list_all p xs ≡ true → HasNoByte c xs
HasNoByte-from_list_all p c fails [] h = tt
HasNoByte-from_list_all p c fails (x ∷ xs) h =
    (grind (arith, nat_tests), HasNoByte-from_list_all p c fails xs (grind arith))

-- behind a text without a byte the byte is found
pub position-append_byte : (c : ℕ) (xs ys : List ℕ) → HasNoByte c xs
    → position (λ b. eqb b c) (xs ++ c ∷ ys) ≡ Some (length xs)
position-append_byte c xs ys none =
    position-append_passing (λ b. eqb b c) xs c ys none (grind (arith, nat_tests))

-- a text is the bytes before a byte, that byte, and the bytes after it
pub split_at_byte : (c : ℕ) (text : List ℕ) (n : ℕ) → n < length text → eqb (get_or text n 0) c ≡ true
    → text ≡ take n text ++ c ∷ drop (n + 1) text
split_at_byte c text n within here =
    grind (arith, nat_tests, drop_more text n 0 within, take-append-drop n text)

-- ---- numbers

-- the number of a word is written as that word
pub decimal-of_digits_value : (word : List ℕ) → is_plain_decimal word ≡ true → digits_value 10 word < 2 ^ 64
    → decimal (digits_value 10 word) ≡ word
decimal-of_digits_value word h small =
    grind (arith, nat_tests, decimal-digits_value decimal_numerals word)

-- a number in decimal is such a word
pub is_plain_decimal-decimal : (n : ℕ) → n < 2 ^ 64 → is_plain_decimal (decimal n) ≡ true
is_plain_decimal-decimal zero small = rw (decimal_digit 0 (omega arith)) refl
is_plain_decimal-decimal (suc n) small =
    let digits = digits_decimal decimal_numerals (suc n) small in
    let some = (decimal_is_IsNumeral (suc n) small).0.0 in
    let first = first_decimal (suc n) (omega arith) small in
    grind (arith, nat_tests)

-- a byte that is no digit is in no number
pub HasNoByte-decimal : (c : ℕ) → is_ascii_digit c ≡ false → (n : ℕ) → n < 2 ^ 64
    → HasNoByte c (decimal n)
HasNoByte-decimal c fails n small =
    HasNoByte-from_list_all is_ascii_digit c fails (decimal n) (digits_decimal decimal_numerals n small)
