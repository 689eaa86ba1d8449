-- Reading a number: the function agrees with the relation, and so does reading digit by digit.
use Rattle.std.proofs.Common.{◌≡◌, ℕ, ◌≤◌, min, true, List, length, Some, unwrap_or, arith, rules}
use Rattle.std.proofs.Common.{◌+◌, ◌*◌, ◌^◌, ◌<◌, [], ◌∷◌, drop, slice_index_or, sym, ◌∙◌}
use Rattle.std.specs.Prelude.{IsTrue}
use Rattle.std.specs.Char.{is_ascii_digit, digit_value}
use Rattle.std.specs.List.{list_all}
use Rattle.std.specs.Str.Parse.{digits_value, digits_value_after}
use Rattle.std.proofs.lemmas.Bool.{and_parts}
use Rattle.std.proofs.lemmas.Bool.Decides.{nat_tests}
use Rattle.std.proofs.lemmas.Str.Parse.{IsNumeralModel, numerals_by_value}
use Rattle.mc_text.specs.Number.{IsDecimal, is_decimal, number_up_to}
use Rattle.std.proofs.lemmas.List.{at_drop_more, at_drop_all}

-- the words that pass the test for digits are std's numerals
pub decimal_numerals : IsNumeralModel (λ ds. list_all is_ascii_digit ds ≡ true) (digits_value 10)
decimal_numerals = numerals_by_value (λ ds. list_all is_ascii_digit ds ≡ true) (search rules)

-- the word writes the number that is read
pub number_up_to-sound : (max : ℕ) (word : List ℕ) (n : ℕ) → number_up_to max word ≡ Some n
    → IsDecimal word n × (n ≤ max)
unfolding number_up_to
number_up_to-sound max word n e =
    grind (arith, nat_tests, decimal_numerals.to word)

-- a word that writes a number in range is read as that number
pub number_up_to-complete : (max : ℕ) (word : List ℕ) (n : ℕ) → IsDecimal word n → n ≤ max
    → number_up_to max word ≡ Some n
unfolding number_up_to
number_up_to-complete max word n writes small =
    let digits = decimal_numerals.from word writes.0.1 in grind (arith, nat_tests)

-- the number that the digits write, or `max` if that is greater
pub number_or_greatest : (max : ℕ) (word : List ℕ) → is_decimal word ≡ true
    → unwrap_or (number_up_to max word) max ≡ min (digits_value 10 word) max
unfolding number_up_to
number_or_greatest max word digits = grind (arith, nat_tests)

-- ---- digit by digit

-- the whole word is read as the rest is, after this number
pub record IsReadUpTo (word : List ℕ) (number : ℕ) (rest : List ℕ) : Type 0 where
  pub value : digits_value_after 10 number rest ≡ digits_value 10 word
  pub digits : list_all is_ascii_digit rest ≡ list_all is_ascii_digit word

-- more digits never make a number smaller
digits_value_after-grows : (number : ℕ) (digits : List ℕ) → number ≤ digits_value_after 10 number digits
digits_value_after-grows number [] = omega arith
digits_value_after-grows number (digit ∷ digits) =
    omega (arith, digits_value_after-grows (number * 10 + digit_value digit) digits)

module _ (word : List ℕ) (number place : ℕ) (so_far : IsReadUpTo word number (drop place word)) where
  -- the same with one more digit read
  pub is_read_up_to_more : place < length word → IsTrue (is_ascii_digit (slice_index_or word place 0))
      → IsReadUpTo word (number * 10 + digit_value (slice_index_or word place 0))
      (drop (place + 1) word)
  is_read_up_to_more inside digit = record {
    value =
        sym (at_drop_more (digits_value_after 10 number) word place 0 inside) ∙ so_far.value;
    digits =
        rw digit at (sym (at_drop_more (list_all is_ascii_digit) word place 0 inside)
        ∙ so_far.digits);
  }

  -- if the word writes a number of 64 bits, the next byte is a digit, and with it the number still fits
  pub number-below_2_64 : (n : ℕ) → place < length word → IsDecimal word n → n < 2 ^ 64
      → IsTrue (is_ascii_digit (slice_index_or word place 0))
      × (number * 10 + digit_value (slice_index_or word place 0) < 2 ^ 64)
  number-below_2_64 n inside writes small =
      let all = sym (at_drop_more (list_all is_ascii_digit) word place 0 inside) ∙ so_far.digits
      ∙ decimal_numerals.from word writes.0.1 in
      let value = sym (at_drop_more (digits_value_after 10 number) word place 0 inside)
      ∙ so_far.value ∙ writes.1 in
      let next = number * 10 + digit_value (slice_index_or word place 0) in
      let grown = digits_value_after-grows next (drop (place + 1) word) in (
        (and_parts (is_ascii_digit (slice_index_or word place 0)) _ all).0,
        omega (arith, value, grown, small),
      )

  -- at the word's end the number is the one that the word writes
  pub is_read_up_to_all : length word ≤ place → 0 < length word → IsDecimal word number
  is_read_up_to_all ended some =
      let digits = sym so_far.digits ∙ at_drop_all (list_all is_ascii_digit) word place ended in
      let value = at_drop_all (digits_value_after 10 number) word place ended in
      ((some, decimal_numerals.to word digits), sym so_far.value ∙ value)
