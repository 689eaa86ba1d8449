-- The digits of an address word, and their values by the table.
use Rattle.std.proofs.Common.{◌≡◌, ℕ, zero, suc, ◌+◌, ◌<◌, ◌&&◌, Bool, true, List, []}
use Rattle.std.proofs.Common.{◌∷◌, length, get_or, Ok, refl, ap, ◌∙◌, arith}
use Rattle.std.specs.Prelude.{nat_eq}
use Rattle.std.proofs.lemmas.Bool.{and_parts, eqb-true}
use Rattle.std.proofs.lemmas.List.Elements.{All-get_or}
use Rattle.hex.specs.Hex.{is_hex_digit, pair_value, decode_pairs, decode_of}
use Rattle.hex.proofs.HexLemmas.{decode_of-ok}
use Rattle.mc_text.specs.declared.text.address_digits.TheConstants.{VALUES}
use Rattle.mc_text.specs.AddressWord.{hex_value_or_16}

-- each value of the list is that of the byte which is its place, counted from c
abbrev has_values_from : ℕ → List ℕ → Bool
has_values_from c [] = true
has_values_from c (v ∷ vs) = nat_eq v (hex_value_or_16 c) && has_values_from (c + 1) vs

-- the value at a place of such a list is that of the byte
value_in_has_values_from : (c : ℕ) (vs : List ℕ) (k place : ℕ) → has_values_from c vs ≡ true → k < length vs
    → place ≡ k + c → get_or vs k 0 ≡ hex_value_or_16 place
value_in_has_values_from c [] k place e less is = absurd (omega (arith, less))
value_in_has_values_from c (v ∷ vs) zero place e less is =
    let same : c ≡ place = omega (arith, is) in
    eqb-true v (hex_value_or_16 c) (and_parts (nat_eq v (hex_value_or_16 c)) _ e).0
    ∙ ap hex_value_or_16 same
value_in_has_values_from c (v ∷ vs) (suc k) place e less is =
    let p = and_parts (nat_eq v (hex_value_or_16 c)) _ e in
    value_in_has_values_from (c + 1) vs k place p.1 (omega (arith, less)) (omega (arith, is))

-- the table has the value of each byte
has_values_from-VALUES : has_values_from 0 VALUES.now ≡ true
has_values_from-VALUES = refl

-- the table's value at a byte is the value of that digit
pub hex_value_of_table : (c : ℕ) → c < 256 → get_or VALUES.now c 0 ≡ hex_value_or_16 c
hex_value_of_table c less =
    value_in_has_values_from 0 VALUES.now c c has_values_from-VALUES less (omega arith)

-- a word of eight bytes is the list of those at its eight places
eight_bytes_by_place : (word : List ℕ) → length word ≡ 8
    → word ≡ get_or word 0 0 ∷ get_or word 1 0 ∷ get_or word 2 0 ∷ get_or word 3 0
    ∷ get_or word 4 0 ∷ get_or word 5 0 ∷ get_or word 6 0 ∷ get_or word 7 0 ∷ []
eight_bytes_by_place (a ∷ b ∷ c ∷ d ∷ e ∷ f ∷ g ∷ h ∷ []) eight = refl
eight_bytes_by_place word eight = grind arith

-- four pairs that write octets decode to them
pub decode_of-four_pairs : (word : List ℕ) (p q r s : ℕ) → length word ≡ 8
    → pair_value (get_or word 0 0) (get_or word 1 0) 0 ≡ Ok p
    → pair_value (get_or word 2 0) (get_or word 3 0) 2 ≡ Ok q
    → pair_value (get_or word 4 0) (get_or word 5 0) 4 ≡ Ok r
    → pair_value (get_or word 6 0) (get_or word 7 0) 6 ≡ Ok s
    → decode_of word ≡ Ok (p ∷ q ∷ r ∷ s ∷ [])
unfolding decode_pairs
decode_of-four_pairs word p q r s eight x y z w =
    ap decode_of (eight_bytes_by_place word eight) ∙ rw (x, y, z, w) refl

-- a word that decodes to four bytes has eight, and any two of them are digits
pub decoded_word_has_eight_digits : (word bytes : List ℕ) → length bytes ≡ 4 → decode_of word ≡ Ok bytes
    → (length word ≡ 8) × ((k : ℕ) → k < 7
    → (is_hex_digit (get_or word k 0) && is_hex_digit (get_or word (k + 1) 0)) ≡ true)
decoded_word_has_eight_digits word bytes four e =
    let ok = decode_of-ok word bytes e in
    let digit : (i : ℕ) → i < 8 → is_hex_digit (get_or word i 0) ≡ true =
    λ i below. All-get_or (λ (c : ℕ). is_hex_digit c ≡ true) word i 0
    (omega (arith, below, four, ok.2)) ok.1 in
    let both : (k : ℕ) → k < 7
    → (is_hex_digit (get_or word k 0) && is_hex_digit (get_or word (k + 1) 0)) ≡ true =
    λ k less. rw (digit k (omega (arith, less)), digit (k + 1) (omega (arith, less))) refl in
    (omega (arith, four, ok.2), both)
