-- Words and the values that they denote.
use Rattle.std.proofs.Common.{◌≡◌, ℕ, ◌<◌, ◌≤◌, true, List, [], ◌∷◌, length}
use Rattle.std.proofs.Common.{Option, Some, None, refl, sym, ap, ◌∙◌, arith}
use Rattle.std.specs.Prelude.{nat_le}
use Rattle.std.specs.List.{list_all}
use Rattle.std.specs.Char.{digit_value, is_ascii_digit}
use Rattle.std.specs.Str.Parse.{AllDigits, digits_value}
use Rattle.std.proofs.lemmas.Bool.{and_parts, and_from, leb-true, le-leb}
use Rattle.std.proofs.lemmas.Str.{digit_value_digit}
use Rattle.std.proofs.lemmas.Str.Parse.{digit_from_value}
use Rattle.mc_text.specs.Number.{IsDecimal}
use Rattle.std.proofs.lemmas.Option.{cond_some}
use Rattle.mc_text.proofs.StepLemmas.{answer_is_value}
use Rattle.mc_tables.specs.TableWords.{WordDenotesNumber, is_decimal_word, number_in}

-- a digit that passes the test is below 10
digit_value-decimal : (c : ℕ) → is_ascii_digit c ≡ true → digit_value c < 10
digit_value-decimal c e =
    let p = and_parts (nat_le 48 c) (nat_le c 57) e in
    omega (
      arith,
      leb-true 48 c p.0,
      leb-true c 57 p.1,
      digit_value_digit c (leb-true 48 c p.0, leb-true c 57 p.1),
    )

-- a digit below 10 passes the test
is_ascii_digit-decimal : (c : ℕ) → digit_value c < 10 → is_ascii_digit c ≡ true
is_ascii_digit-decimal c h = let r = digit_from_value c h in
    and_from (nat_le 48 c) (nat_le c 57) (le-leb 48 c r.0) (le-leb c 57 r.1)

-- digits that pass the test are digits to the base 10
all_digits-decimal : (word : List ℕ) → list_all is_ascii_digit word ≡ true → AllDigits 10 word
all_digits-decimal [] e = tt
all_digits-decimal (c ∷ cs) e = let p = and_parts (is_ascii_digit c) _ e in
    (digit_value-decimal c p.0, all_digits-decimal cs p.1)

-- digits to the base 10 pass the test
list_all-decimal_digits : (word : List ℕ) → AllDigits 10 word → list_all is_ascii_digit word ≡ true
list_all-decimal_digits [] h = refl
list_all-decimal_digits (c ∷ cs) h =
    and_from (is_ascii_digit c) _ (is_ascii_digit-decimal c h.0) (list_all-decimal_digits cs h.1)

-- the number that is read is the one that the word denotes
pub number_in-denotes : (least most : ℕ) (word : List ℕ) (n : ℕ) → number_in least most word ≡ Some n
    → WordDenotesNumber least most word n
number_in-denotes least most word n e =
    let g = cond_some _ (digits_value 10 word) n e in
    let p = and_parts (is_decimal_word word) _ g.0 in
    let d = and_parts (nat_le 1 (length word)) _ p.0 in
    let r = and_parts (nat_le least (digits_value 10 word)) _ p.1 in
    let low : least ≤ digits_value 10 word = leb-true _ _ r.0 in
    let high : digits_value 10 word ≤ most = leb-true _ _ r.1 in (
      ((leb-true 1 (length word) d.0, all_digits-decimal word d.1), g.1),
      omega (arith, g.1),
      omega (arith, g.1),
    )

-- the number that the word denotes is read
pub number_in-from_denotes : (least most : ℕ) (word : List ℕ) (n : ℕ) → WordDenotesNumber least most word n
    → number_in least most word ≡ Some n
number_in-from_denotes least most word n h =
    let is = h.0.1 in
    let d : is_decimal_word word ≡ true =
    and_from (nat_le 1 (length word)) _ (le-leb 1 (length word) h.0.0.0)
    (list_all-decimal_digits word h.0.0.1) in
    let low : nat_le least (digits_value 10 word) ≡ true = le-leb _ _ (omega (arith, is, h.1)) in
    let high : nat_le (digits_value 10 word) most ≡ true = le-leb _ _ (omega (arith, is, h.2)) in
    rw (d, low, high) (ap Some is)

-- a word that denotes no number up to the greatest one is read as none
pub number_in-none : (least most : ℕ) (word : List ℕ) (decimal : Option ℕ) → decimal ≡ None
    → ((n : ℕ) → IsDecimal word n → n ≤ most → decimal ≡ Some n) → None ≡ number_in least most word
number_in-none least most word decimal none only =
    answer_is_value (IsDecimal word) (λ n. (least ≤ n) × (n ≤ most)) None (number_in least most word) tt tt
    (λ n writes within. sym none ∙ only n writes within.1)
    (λ n is. let h = number_in-denotes least most word n is in (h.0, (h.1, h.2)))
    (λ n writes within. number_in-from_denotes least most word n (writes, within.0, within.1))
