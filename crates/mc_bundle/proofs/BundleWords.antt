-- The words and the lines of a bundle: the reading functions agree with the relations.
use Rattle.std.proofs.Common.{arith, ◌≡◌, ℕ, zero, suc, ◌+◌, ◌^◌, ◌<◌, Bool, true, false, eqb, List}
use Rattle.std.proofs.Common.{[], ◌∷◌, ◌++◌, length, get_or, take, drop, Option, Some, None, refl}
use Rattle.std.proofs.Common.{subst, ◌-◌, Ok, min}
use Rattle.std.specs.Prelude.{position, codes}
use Rattle.std.specs.Char.{is_ascii_digit}
use Rattle.std.specs.Fmt.{decimal}
use Rattle.std.specs.List.{list_all}
use Rattle.std.specs.Str.Parse.{digits_value}
use Rattle.std.proofs.lemmas.Bool.Decides.{nat_tests}
use Rattle.std.proofs.lemmas.Fmt.{decimal_digit, digits_decimal, decimal-digits_value}
use Rattle.std.proofs.lemmas.Fmt.{decimal_is_IsNumeral, first_decimal}
use Rattle.std.proofs.lemmas.List.{take-append-drop, drop_more, take_at, length-take}
use Rattle.std.proofs.lemmas.List.{get_or-take, take_min}
use Rattle.std.proofs.lemmas.List.Sums.{AllPass-from_list_all, list_all-from_AllPass}
use Rattle.mc_text.specs.Lines.{HasNoByte}
use Rattle.mc_text.specs.Names.{is_part_byte}
use Rattle.mc_text.specs.Number.{is_plain_decimal}
use Rattle.mc_text.proofs.ByteLemmas.{HasNoByte-append, HasNoByte-decimal, HasNoByte-from_list_all}
use Rattle.mc_text.proofs.ByteLemmas.{decimal-of_digits_value, is_plain_decimal-decimal}
use Rattle.mc_text.proofs.ByteLemmas.{position-append_byte, split_at_byte}
use Rattle.mc_bundle.specs.Bundle.{IsPartName, part_line, max_line}
use Rattle.mc_bundle.specs.BundleReading.{is_part_name, cut_words, parse_name_and_length}
use Rattle.mc_bundle.specs.BundleReading.{parse_part_line}
use Rattle.mc_bundle.specs.BundleReading.{cut_line, line_at}
use Rattle.std.proofs.Math.Seq.{take-append-add, drop-append-add}
use Rattle.std.proofs.lemmas.List.Quantifiers.{position-Some}
use Rattle.std.proofs.lemmas.Slice.Eq.{bytes_eq-Decides}
use Rattle.mc_text.proofs.StepLemmas.{ok_injective}

-- ---- names

-- what passes the test is a part's name
pub IsPartName-from_test : (name : List ℕ) → is_part_name name ≡ true → IsPartName name
IsPartName-from_test name h =
    grind (arith, nat_tests, AllPass-from_list_all is_part_byte name)

-- a part's name passes the test
pub is_part_name-complete : (name : List ℕ) → IsPartName name → is_part_name name ≡ true
is_part_name-complete name h =
    grind (arith, nat_tests, list_all-from_AllPass is_part_byte name h.bytes)

-- what isn't accepted as a name fails the test
pub is_part_name-false : (name : List ℕ)
    → (IsPartName name → (let none : Option (List ℕ) = None in none ≡ Some name))
    → is_part_name name ≡ false
is_part_name-false name refused = grind (arith, IsPartName-from_test)

-- a byte that no name has is in no name
pub HasNoByte-name : (c : ℕ) → is_part_byte c ≡ false → (name : List ℕ) → IsPartName name
    → HasNoByte c name
HasNoByte-name c fails name h = HasNoByte-from_list_all is_part_byte c fails name
    (list_all-from_AllPass is_part_byte name h.bytes)

-- ---- part lines

-- the words are a part's name and its length
abbrev IsNameAndLength : List ℕ → List ℕ × ℕ → Type 0
IsNameAndLength words header = header.1 < 2 ^ 64
    → IsPartName header.0 × (words ≡ header.0 ++ (codes " " ++ decimal header.1))

-- words that are read as a name and a length are these
cut_words-sound : (words : List ℕ) (o : Option ℕ) (header : List ℕ × ℕ) → position (λ b. eqb b 32) words ≡ o
    → cut_words words o ≡ Some header → IsNameAndLength words header
cut_words-sound words o header at e =
    let space = position-Some (λ b. eqb b 32) words in
    grind (arith, nat_tests, IsPartName-from_test, space, split_at_byte, decimal-of_digits_value)

-- a line that is read as a name and a length is that part's line
pub parse_part_line-sound : (line : List ℕ) (header : List ℕ × ℕ) → parse_part_line line ≡ Some header
    → header.1 < 2 ^ 64
    → IsPartName header.0 × (line ≡ part_line header.0 header.1)
unfolding parse_part_line parse_name_and_length
parse_part_line-sound line header e small =
    let front = (bytes_eq-Decides (take 5 line) (codes "part ")).0 in
    grind (arith, cut_words-sound (drop 5 line) _ header refl, take-append-drop 5 line, front)

-- a part's line is read as its name and length
pub parse_part_line-complete : (name : List ℕ) (size : ℕ) → IsPartName name → size < 2 ^ 64
    → parse_part_line (part_line name size) ≡ Some (name, size)
unfolding parse_part_line parse_name_and_length
parse_part_line-complete name size h small =
    let at = position-append_byte 32 name (decimal size) (HasNoByte-name 32 refl name h) in
    let front = take_at name (32 ∷ decimal size) (length name) refl in
    let back = drop-append-add name (32 ∷ decimal size) 1 in
    let value = (decimal_is_IsNumeral size small).1 in
    let named = is_part_name-complete name h in
    grind (arith, at, front, back, value, named, is_plain_decimal-decimal size small)

-- ---- the ends of lines

-- the bytes are a line, its line feed, and the bytes after it
pub record IsLine (rest line after : List ℕ) : Type 0 where
  pub parts : rest ≡ line ++ (codes "\n" ++ after)
  pub short : length line < max_line

-- without a line feed no line is read
cut_line-none : (rest : List ℕ) (cut : List ℕ × List ℕ) → cut_line rest None ≡ Ok cut → ⊥
cut_line-none rest cut e = grind (arith, nat_tests)

-- a line that was cut was cut at its line feed
cut_line-sound : (rest : List ℕ) (o : Option ℕ) (cut : List ℕ × List ℕ)
    → position (λ b. eqb b 10) (take 96 rest) ≡ o → cut_line rest o ≡ Ok cut
    → IsLine rest cut.0 cut.1
cut_line-sound rest None cut at e = absurd (cut_line-none rest cut e)
cut_line-sound rest (Some n) cut at e =
    let (within, here, first) = position-Some (λ b. eqb b 10) (take 96 rest) n 0 at in
    let short : n < 96 = omega (arith, within, length-take 96 rest) in
    let feed : eqb (get_or rest n 0) 10 ≡ true = rw (← get_or-take 96 rest n 0 short) here in
    subst (λ (p : List ℕ × List ℕ). IsLine rest p.0 p.1) (ok_injective _ cut e) (record {
      parts = split_at_byte 10 rest n (omega (arith, within, length-take 96 rest)) feed;
      short = omega (arith, short, length-take n rest);
    })

-- the line that is read is at the front
pub line_at-sound : (rest : List ℕ) (cut : List ℕ × List ℕ) → line_at rest ≡ Ok cut
    → IsLine rest cut.0 cut.1
unfolding line_at
line_at-sound rest cut e = cut_line-sound rest _ cut refl e

-- the line at the front is read
pub line_at-complete : (line after : List ℕ) → HasNoByte 10 line → length line < max_line
    → line_at (line ++ (codes "\n" ++ after)) ≡ Ok (line, after)
unfolding line_at
line_at-complete line after h short =
    let left = 95 - length line in
    let sight : 96 ≡ length line + suc left = omega arith in
    let front : take 96 (line ++ 10 ∷ after) ≡ line ++ 10 ∷ take left after =
    rw sight (take-append-add line (10 ∷ after) (suc left)) in
    let at = position-append_byte 10 line (take left after) h in
    let back = drop-append-add line (10 ∷ after) 1 in
    rw (front, at, take_at line (10 ∷ after) (length line) refl, back) refl

-- the line that the code finds, which searches the next 96 bytes or those that are left
pub line_at-cut_line : (rest : List ℕ) (cut : ℕ) (o : Option ℕ) → cut ≡ min (length rest) 96
    → o ≡ position (λ b. eqb b 10) (take cut rest) → line_at rest ≡ cut_line rest o
unfolding line_at
line_at-cut_line rest cut o h at =
    grind (arith, take_min 96 rest)

-- a part's line has no line feed
pub HasNoByte-part_line : (name : List ℕ) (size : ℕ) → IsPartName name → size < 2 ^ 64
    → HasNoByte 10 (part_line name size)
HasNoByte-part_line name size h small =
    let words = HasNoByte-append 10 name (codes " " ++ decimal size) (HasNoByte-name 10 refl name h)
    (refl, HasNoByte-decimal 10 refl size small) in
    (refl, (refl, (refl, (refl, (refl, words)))))
