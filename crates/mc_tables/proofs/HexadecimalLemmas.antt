-- The value of hexadecimal digits.
use Rattle.std.proofs.Common.{◌≡◌, ℕ, ◌^◌, lit<, ◌<◌, ◌≤◌, true, false, ltb, inl, inr, List, []}
use Rattle.std.proofs.Common.{◌∷◌, length, Result, Ok, Err, refl, ap, ◌∙◌, subst, sym, arith}
use Rattle.std.specs.Prelude.{◌==◌, nat_le}
use Rattle.std.specs.Int.{is_in_range}
use Rattle.std.specs.Char.{digit_value, is_ascii_hexdigit}
use Rattle.std.specs.List.{list_all, AllByRecursion}
use Rattle.std.specs.Str.{IsUtf8}
use Rattle.std.specs.Str.Parse.{AllDigits, IsNumeral, ParsesUnsigned, digits_value}
use Rattle.std.specs.Str.Parse.{without_leading_plus}
use Rattle.std.proofs.Math.Nat.{pow-le-pow_right}
use Rattle.std.proofs.lemmas.Bool.{and_parts, ne_eqb, cases_Bool, leb-true, le-ltb, lt-ltb}
use Rattle.std.proofs.lemmas.Int.Digits.{digits_value-lt}
use Rattle.std.proofs.lemmas.List.Elements.{All-from_recursion}
use Rattle.std.proofs.lemmas.Str.{IsUtf8-from_ascii, digit_value_digit}
use Rattle.std.proofs.lemmas.Str.Ascii.{IsAscii-from_all}

-- a byte that passes the test of a range is in it
is_in_range-bounds : (low high c : ℕ) → is_in_range low high c ≡ true → (low ≤ c) × (c ≤ high)
is_in_range-bounds low high c e = let p = and_parts (nat_le low c) (nat_le c high) e in
    (leb-true low c p.0, leb-true c high p.1)

-- the digits A to F are below 16
digit_value-upper : (c : ℕ) → 65 ≤ c → c ≤ 70 → digit_value c < 16
digit_value-upper c low high =
    let a : ltb c 48 ≡ false = le-ltb c 48 (omega arith) in
    let b : ltb c 58 ≡ false = le-ltb c 58 (omega arith) in
    let d : ltb c 65 ≡ false = le-ltb c 65 (omega arith) in
    let f : ltb c 91 ≡ true = lt-ltb c 91 (omega arith) in
    rw (a, b, d, f) (omega arith)

-- the digits a to f are below 16
digit_value-lower : (c : ℕ) → 97 ≤ c → c ≤ 102 → digit_value c < 16
digit_value-lower c low high =
    let a : ltb c 48 ≡ false = le-ltb c 48 (omega arith) in
    let b : ltb c 58 ≡ false = le-ltb c 58 (omega arith) in
    let d : ltb c 65 ≡ false = le-ltb c 65 (omega arith) in
    let f : ltb c 91 ≡ false = le-ltb c 91 (omega arith) in
    let g : ltb c 97 ≡ false = le-ltb c 97 (omega arith) in
    let h : ltb c 123 ≡ true = lt-ltb c 123 (omega arith) in
    rw (a, b, d, f, g, h) (omega arith)

-- each hexadecimal digit is below 16
digit_value-hexadecimal : (c : ℕ) → is_ascii_hexdigit c ≡ true → digit_value c < 16
digit_value-hexadecimal c e =
    elim (cases_Bool (is_in_range 48 57 c)) [
      | inl decimal ↦ let r = is_in_range-bounds 48 57 c decimal in
          omega (arith, r.0, r.1, digit_value_digit c r)
      | inr other ↦ elim (cases_Bool (is_in_range 65 70 c)) [
        | inl upper ↦ let r = is_in_range-bounds 65 70 c upper in digit_value-upper c r.0 r.1
        | inr neither ↦ let r = is_in_range-bounds 97 102 c (rw (other, neither) at e) in
            digit_value-lower c r.0 r.1
      ]
    ]

-- each is ASCII, from `0` on
is_ascii_hexdigit-ascii : (c : ℕ) → is_ascii_hexdigit c ≡ true → (48 ≤ c) × (c < 128)
is_ascii_hexdigit-ascii c e = grind (arith)

-- digits that pass the test are digits to the base 16
all_digits-hexadecimal : (word : List ℕ) → list_all is_ascii_hexdigit word ≡ true → AllDigits 16 word
all_digits-hexadecimal [] e = tt
all_digits-hexadecimal (c ∷ cs) e = let p = and_parts (is_ascii_hexdigit c) _ e in
    (digit_value-hexadecimal c p.0, all_digits-hexadecimal cs p.1)

-- they are ASCII
all_hexdigits-ascii : (word : List ℕ) → list_all is_ascii_hexdigit word ≡ true
    → AllByRecursion (λ b. b < 128) word
all_hexdigits-ascii [] e = tt
all_hexdigits-ascii (c ∷ cs) e = let p = and_parts (is_ascii_hexdigit c) _ e in
    ((is_ascii_hexdigit-ascii c p.0).1, all_hexdigits-ascii cs p.1)

-- so they are UTF-8
pub is_utf8-hexadecimal : (word : List ℕ) → list_all is_ascii_hexdigit word ≡ true → IsUtf8 word
is_utf8-hexadecimal word e =
    IsUtf8-from_ascii word
    (IsAscii-from_all word (All-from_recursion (λ b. b < 128) word (all_hexdigits-ascii word e)))

-- they don't begin with `+`
without_leading_plus-hexadecimal : (word : List ℕ) → list_all is_ascii_hexdigit word ≡ true
    → without_leading_plus word ≡ word
without_leading_plus-hexadecimal [] e = refl
without_leading_plus-hexadecimal (c ∷ cs) e =
    let p = and_parts (is_ascii_hexdigit c) _ e in
    let other : (c == 43)
    ≡ false = ne_eqb c 43 (λ is. absurd (omega (arith, is, (is_ascii_hexdigit-ascii c p.0).0))) in
    rw other refl

-- up to eight of them are a number of 32 bits
digits_value-fits_32_bits : (word : List ℕ) → length word ≤ 8 → list_all is_ascii_hexdigit word ≡ true
    → digits_value 16 word < 2 ^ 32
digits_value-fits_32_bits word few e =
    let most : 16 ^ length word ≤ 16 ^ 8 = pow-le-pow_right (lit< tt) few in
    omega (arith, most, digits_value-lt 16 word (all_digits-hexadecimal word e))

-- what std parses them as is their value
pub parse-hexadecimal : {E : Type 0} (word : List ℕ) (read : Result ℕ E) → 1 ≤ length word → length word ≤ 8
    → list_all is_ascii_hexdigit word ≡ true → ParsesUnsigned 32 16 word read
    → read ≡ Ok (digits_value 16 word)
parse-hexadecimal word (Ok n) some few e h =
    ap Ok (h.1 ∙ ap (digits_value 16) (without_leading_plus-hexadecimal word e))
parse-hexadecimal word (Err error) some few e h =
    let numeral : IsNumeral 16 word × (digits_value 16 word < 2 ^ 32) =
    ((some, all_digits-hexadecimal word e), digits_value-fits_32_bits word few e) in
    absurd (h (subst (λ (w : List ℕ). IsNumeral 16 w × (digits_value 16 w < 2 ^ 32))
    (sym (without_leading_plus-hexadecimal word e)) numeral))
