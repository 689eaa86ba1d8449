-- Hexadecimal digits, thirty-two at a time.
use Rattle.std.proofs.Common.{◌≡◌, ℕ, zero, suc, ◌+◌, ◌-◌, ◌*◌, ◌%◌, ◌^◌, ◌<◌, ◌≤◌, Bool, true}
use Rattle.std.proofs.Common.{false, not, cond, ltb, eqb, List, [], ◌∷◌, ◌++◌, map, length, take}
use Rattle.std.proofs.Common.{drop, replicate, bit_or, refl, sym, ap, ap₂, ◌∙◌, arith, w8, Fits, inl, inr, Ok}
use Rattle.std.proofs.Common.{Option, Some, None, unwrap_or}
use Rattle.std.specs.Prelude.{◌||◌, ◌&&◌}
use Rattle.std.specs.List.{list_all}
use Rattle.std.specs.Simd.Lanes.{Each1, zip2, mask_l, top, sel_l, pick_l}
use Rattle.std.proofs.lemmas.Bool.{agree_below_at, and_parts, cases_lt, eqb-true}
use Rattle.std.proofs.lemmas.Bool.Decides.{nat_tests}
use Rattle.std.proofs.lemmas.List.{length-map}
use Rattle.std.proofs.lemmas.Simd.{zip2_splat, map-map, mask_l-mod}
use Rattle.hex.specs.Hex.{hex_digit_value, is_hex_digit, digit_or_error, pair_value, decode_pairs, decode_of}
use Rattle.hex.proofs.HexLemmas.{decode_of-even}
use Rattle.hex.proofs.Pairs.{cons_byte, decode_pairs-ok_pair}
use Rattle.mc_text.specs.AddressWord.{hex_value_or_16}
use Rattle.mc_text.specs.DigitPairs.{byte_of_pair, bytes_of_pairs}

-- ---- one pair

-- a digit with a value below 16 is read as that value
digit_or_error-Ok : (c i : ℕ) (o : Option ℕ) → unwrap_or o 16 < 16
    → digit_or_error c i o ≡ Ok (unwrap_or o 16)
digit_or_error-Ok c i (Some v) h = refl
digit_or_error-Ok c i None h = absurd (omega arith)

-- two digits are read as the byte that they write
pub pair_value-Ok : (a b i byte : ℕ) → hex_value_or_16 a < 16 → hex_value_or_16 b < 16
    → byte ≡ hex_value_or_16 a * 16 + hex_value_or_16 b → pair_value a b i ≡ Ok byte
pair_value-Ok a b i byte high low is =
    rw (
      digit_or_error-Ok a i (hex_digit_value a) high,
      digit_or_error-Ok b (i + 1)
          (hex_digit_value b) low,
      is,
    )
    refl

-- a byte with the value 16 is no digit
pub is_hex_digit-false : (c : ℕ) → 16 ≤ hex_value_or_16 c → is_hex_digit c ≡ false
is_hex_digit-false c h = grind arith

-- ---- operators on lanes

-- an operator applied to lanes and a splat is applied to each lane
pub zip2-splat_lane : (h : ℕ → ℕ → ℕ) (f : ℕ → ℕ) (y : ℕ) (v : List ℕ) {a : List ℕ} → length v ≡ 32
    → a ≡ map f v → zip2 h a (replicate 32 y) ≡ map (λ x. h (f x) y) v
zip2-splat_lane h f y v long is =
    ap (λ a. zip2 h a (replicate 32 y)) is
    ∙ zip2_splat h (map f v) 32 y (length-map v f ∙ long) ∙ map-map (λ x. h x y) f v

-- whether a lane is less than another, as all bits or none
abbrev pub lane_below : ℕ → ℕ → ℕ
lane_below a b = cond (ltb a b) 255 0

-- the difference of two lanes, modulo 256
abbrev pub lane_minus : ℕ → ℕ → ℕ
lane_minus a b = (a + (256 - b)) % 256

-- the sum of two lanes, modulo 256
abbrev pub lane_plus : ℕ → ℕ → ℕ
lane_plus a b = (a + b) % 256

-- a lane shifted by some bits, without those that leave it
abbrev pub lane_shift_left : ℕ → ℕ → ℕ
lane_shift_left a b = a * 2 ^ b % 256

-- ---- the test of all lanes

-- the lane of a digit has all bits set, and of another byte none
abbrev pub digit_lane : ℕ → ℕ
digit_lane b = bit_or (lane_below (lane_minus b 48) 10) (lane_below (lane_minus (bit_or b 32) 97) 6)

-- so the top bits are the tests
map-top_bit_digit_lane : (v : List ℕ) → Each1 (Fits w8) v
    → map (top 7) (map digit_lane v) ≡ map is_hex_digit v
map-top_bit_digit_lane [] fits = refl
map-top_bit_digit_lane (b ∷ v) fits =
    let same = agree_below_at (λ x. top 7 (digit_lane x)) is_hex_digit 256 b refl fits.0.fits in
    ap₂ (λ t ts. t ∷ ts) same (map-top_bit_digit_lane v fits.1)

-- a mask with all bits set
abbrev all_ones : ℕ → ℕ
all_ones zero = 0
all_ones (suc n) = 1 + 2 * all_ones n

-- a mask with one test more has all bits set if that test passes and the others do
mask-cons : (b : Bool) (m n : ℕ) → eqb (cond b 1 0 + 2 * m) (1 + 2 * n) ≡ (b && eqb m n)
mask-cons true m n = grind (arith, nat_tests)
mask-cons false m n = grind (arith, nat_tests)

-- a mask of tests has all bits set exactly if all elements pass
mask-all_set : (passes : ℕ → Bool) (v : List ℕ)
    → eqb (mask_l (map passes v)) (all_ones (length v)) ≡ list_all passes v
mask-all_set passes [] = refl
mask-all_set passes (b ∷ v) =
    mask-cons (passes b) (mask_l (map passes v)) (all_ones (length v))
    ∙ ap (λ others. passes b && others) (mask-all_set passes v)

-- the mask of 32 lanes has all bits set exactly if all of them are digits
pub mask-all_digits : (v lanes : List ℕ) → (length v ≡ 32) × Each1 (Fits w8) v → lanes ≡ map digit_lane v
    → eqb (mask_l (map (top 7) lanes) % 2 ^ 64) 4294967295 ≡ list_all is_hex_digit v
mask-all_digits v lanes fits is =
    let mask = ap (λ l. mask_l l % 2 ^ 64) (ap (map (top 7)) is ∙ map-top_bit_digit_lane v fits.1)
    ∙ mask_l-mod (map is_hex_digit v) 64 (omega (arith, length-map v is_hex_digit, fits.0)) in
    ap (λ m. eqb m 4294967295) mask
    ∙ ap (λ n. eqb (mask_l (map is_hex_digit v)) (all_ones n)) (sym fits.0) ∙ mask-all_set is_hex_digit v

-- ---- the values of lanes

-- lanes selected by which is the smaller are the smaller ones
pub select-smaller_lane : (f g : ℕ → ℕ) (v : List ℕ) {a b : List ℕ} → a ≡ map f v → b ≡ map g v
    → sel_l (map (top 7) (zip2 lane_below a b)) a b
    ≡ map (λ x. cond (top 7 (lane_below (f x) (g x))) (f x) (g x)) v
select-smaller_lane f g v first second =
    ap₂ (λ a b. sel_l (map (top 7) (zip2 lane_below a b)) a b) first second ∙ each v
  where
    each : (v : List ℕ) → sel_l (map (top 7) (zip2 lane_below (map f v) (map g v))) (map f v) (map g v)
        ≡ map (λ x. cond (top 7 (lane_below (f x) (g x))) (f x) (g x)) v
    each [] = refl
    each (x ∷ v) = ap (λ l. cond (top 7 (lane_below (f x) (g x))) (f x) (g x) ∷ l) (each v)

-- what a lane is worth as a digit from 0 to 9
abbrev decimal_lane : ℕ → ℕ
decimal_lane b = lane_minus b 48

-- what a lane is worth as a digit from a to f, or from A to F
abbrev letter_lane : ℕ → ℕ
letter_lane b = lane_minus (bit_or b 32) 87

-- the smaller of both, which is the value of the lane if it is a digit
abbrev pub value_lane : ℕ → ℕ
value_lane b = cond (top 7 (lane_below (decimal_lane b) (letter_lane b))) (decimal_lane b) (letter_lane b)

-- of a digit it is the value
value_lane-digit : (b : ℕ) → b < 256 → is_hex_digit b ≡ true → value_lane b ≡ hex_value_or_16 b
value_lane-digit b fits digit =
    let test = agree_below_at (λ x. not (is_hex_digit x) || eqb (value_lane x) (hex_value_or_16 x))
    (λ _. true)
    256 b refl fits in
    eqb-true (value_lane b) (hex_value_or_16 b) (rw digit at test)

-- of digits these are the values
pub map-value_lane : (v : List ℕ) → Each1 (Fits w8) v → list_all is_hex_digit v ≡ true
    → map value_lane v ≡ map hex_value_or_16 v
map-value_lane [] fits digits = refl
map-value_lane (b ∷ v) fits digits =
    let p = and_parts (is_hex_digit b) _ digits in
    ap₂ (λ x xs. x ∷ xs) (value_lane-digit b fits.0.fits p.0) (map-value_lane v fits.1 p.1)

-- ---- pairs of lanes

-- the byte of two digits whose values these are
abbrev pub pair_lane : ℕ → ℕ → ℕ
pair_lane high low = lane_plus (lane_shift_left high 4) low

-- the bytes of pairs of digits whose values these are
abbrev pair_lanes : List ℕ → List ℕ
pair_lanes (high ∷ low ∷ rest) = pair_lane high low ∷ pair_lanes rest
pair_lanes _ = []

-- the numbers of the first lanes of pairs, and of the second lanes
abbrev pub even_lanes : List ℕ
even_lanes = 0 ∷ 2 ∷ 4 ∷ 6 ∷ 8 ∷ 10 ∷ 12 ∷ 14 ∷ 16 ∷ 18 ∷ 20 ∷ 22 ∷ 24 ∷ 26 ∷ 28 ∷ 30 ∷ []

-- the numbers of the second lanes of pairs
abbrev pub odd_lanes : List ℕ
odd_lanes = 1 ∷ 3 ∷ 5 ∷ 7 ∷ 9 ∷ 11 ∷ 13 ∷ 15 ∷ 17 ∷ 19 ∷ 21 ∷ 23 ∷ 25 ∷ 27 ∷ 29 ∷ 31 ∷ []

-- the lanes with even numbers, joined with those with odd numbers, make the pairs
zip2-even_odd_lanes : (v : List ℕ) → length v ≡ 32
    → zip2 pair_lane (pick_l 0 (v ++ v) even_lanes) (pick_l 0 (v ++ v) odd_lanes) ≡ pair_lanes v
zip2-even_odd_lanes (a0 ∷ a1 ∷ a2 ∷ a3 ∷ a4 ∷ a5 ∷ a6 ∷ a7 ∷ a8 ∷ a9 ∷ a10 ∷ a11 ∷ a12 ∷ a13 ∷ a14 ∷ a15
    ∷ a16 ∷ a17 ∷ a18 ∷ a19 ∷ a20 ∷ a21 ∷ a22 ∷ a23 ∷ a24 ∷ a25 ∷ a26 ∷ a27 ∷ a28 ∷ a29 ∷ a30 ∷ a31 ∷ []) e =
    refl
zip2-even_odd_lanes _ e = absurd (omega arith)

-- a digit's value is below 16
hex_value-below_16 : (c : ℕ) → is_hex_digit c ≡ true → hex_value_or_16 c < 16
hex_value-below_16 c digit =
    elim (cases_lt (hex_value_or_16 c) 16) [
      | inl small ↦ small
      | inr large ↦ cc (is_hex_digit-false c large, digit)
    ]

-- the values of digits make the bytes that the digits write
pair_lanes-hex_values : (v : List ℕ) → list_all is_hex_digit v ≡ true
    → pair_lanes (map hex_value_or_16 v) ≡ bytes_of_pairs v
pair_lanes-hex_values [] digits = refl
pair_lanes-hex_values (a ∷ []) digits = refl
pair_lanes-hex_values (a ∷ b ∷ v) digits =
    let p = and_parts (is_hex_digit a) _ digits in
    let q = and_parts (is_hex_digit b) _ p.1 in
    let first : pair_lane (hex_value_or_16 a) (hex_value_or_16 b) ≡ byte_of_pair a b =
    omega (arith, hex_value-below_16 a p.0, hex_value-below_16 b q.0) in
    ap₂ (λ x xs. x ∷ xs) first (pair_lanes-hex_values v q.1)

-- 32 lanes of digits, joined by their values, make the bytes that they write
pub zip2-pair_lane : (v values : List ℕ) → length v ≡ 32 → list_all is_hex_digit v ≡ true
    → values ≡ map hex_value_or_16 v
    → zip2 pair_lane (pick_l 0 (values ++ values) even_lanes) (pick_l 0 (values ++ values) odd_lanes)
    ≡ bytes_of_pairs v
zip2-pair_lane v values long digits is =
    zip2-even_odd_lanes values (ap length is ∙ length-map v hex_value_or_16 ∙ long)
    ∙ ap pair_lanes is ∙ pair_lanes-hex_values v digits

-- ---- the bytes of pairs

-- digits are decoded to the bytes of their pairs, whatever the number of the first
decode_pairs-digits : (i n : ℕ) (s : List ℕ) → length s ≡ 2 * n → list_all is_hex_digit s ≡ true
    → decode_pairs i s ≡ Ok (bytes_of_pairs s)
unfolding decode_pairs
decode_pairs-digits i n [] even digits = refl
decode_pairs-digits i n (a ∷ []) even digits = absurd (omega arith)
decode_pairs-digits i zero (a ∷ b ∷ s) even digits = absurd (omega arith)
decode_pairs-digits i (suc n) (a ∷ b ∷ s) even digits =
    let p = and_parts (is_hex_digit a) _ digits in
    let q = and_parts (is_hex_digit b) _ p.1 in
    let pair = pair_value-Ok a b i (byte_of_pair a b) (hex_value-below_16 a p.0)
    (hex_value-below_16 b q.0) refl in
    decode_pairs-ok_pair i a b (byte_of_pair a b) s pair
    ∙ ap (cons_byte (byte_of_pair a b)) (decode_pairs-digits (i + 2) n s (omega arith) q.1)

-- digits are decoded to the bytes of their pairs
pub decode_of-digits : (n : ℕ) (s : List ℕ) → length s ≡ 2 * n → list_all is_hex_digit s ≡ true
    → decode_of s ≡ Ok (bytes_of_pairs s)
decode_of-digits n s even digits = decode_of-even s (omega arith) ∙ decode_pairs-digits 0 n s even digits

suc_suc-double : (n : ℕ) → suc (suc (2 * n)) ≡ 2 * suc n
suc_suc-double n = omega arith

-- the first bytes of pairs are the bytes of the first pairs
pub take-bytes_of_pairs : (n : ℕ) (s : List ℕ) → take n (bytes_of_pairs s) ≡ bytes_of_pairs (take (2 * n) s)
take-bytes_of_pairs zero s = refl
take-bytes_of_pairs (suc n) [] = ap (λ k. bytes_of_pairs (take k [])) (suc_suc-double n)
take-bytes_of_pairs (suc n) (a ∷ []) = ap (λ k. bytes_of_pairs (take k (a ∷ []))) (suc_suc-double n)
take-bytes_of_pairs (suc n) (a ∷ b ∷ s) =
    ap (λ l. byte_of_pair a b ∷ l) (take-bytes_of_pairs n s)
    ∙ ap (λ k. bytes_of_pairs (take k (a ∷ b ∷ s))) (suc_suc-double n)

-- the bytes of two lists of pairs, joined
pub bytes_of_pairs-append : (n : ℕ) (s t : List ℕ) → length s ≡ 2 * n
    → bytes_of_pairs (s ++ t) ≡ bytes_of_pairs s ++ bytes_of_pairs t
bytes_of_pairs-append n [] t even = refl
bytes_of_pairs-append n (a ∷ []) t even = absurd (omega arith)
bytes_of_pairs-append zero (a ∷ b ∷ s) t even = absurd (omega arith)
bytes_of_pairs-append (suc n) (a ∷ b ∷ s) t even =
    ap (λ l. byte_of_pair a b ∷ l) (bytes_of_pairs-append n s t (omega arith))

-- n pairs write n bytes
pub length-bytes_of_pairs : (n : ℕ) (s : List ℕ) → length s ≡ 2 * n → length (bytes_of_pairs s) ≡ n
length-bytes_of_pairs zero [] even = refl
length-bytes_of_pairs (suc n) [] even = absurd (omega arith)
length-bytes_of_pairs n (a ∷ []) even = absurd (omega arith)
length-bytes_of_pairs zero (a ∷ b ∷ s) even = absurd (omega arith)
length-bytes_of_pairs (suc n) (a ∷ b ∷ s) even = ap suc (length-bytes_of_pairs n s (omega arith))

-- if all items pass a test, the first n do
pub list_all-take : (passes : ℕ → Bool) (n : ℕ) (s : List ℕ) → list_all passes s ≡ true
    → list_all passes (take n s) ≡ true
list_all-take passes zero s all = refl
list_all-take passes (suc n) [] all = refl
list_all-take passes (suc n) (b ∷ s) all =
    let p = and_parts (passes b) _ all in rw p.0 (list_all-take passes n s p.1)

-- if all items of two lists pass a test, all of both together do
pub list_all-of_append : (passes : ℕ → Bool) (s t : List ℕ) → list_all passes s ≡ true
    → list_all passes t ≡ true
    → list_all passes (s ++ t) ≡ true
list_all-of_append passes [] t first second = second
list_all-of_append passes (b ∷ s) t first second =
    let p = and_parts (passes b) _ first in rw p.0 (list_all-of_append passes s t p.1 second)

-- if all items pass a test, all but the first n do
pub list_all-drop : (passes : ℕ → Bool) (n : ℕ) (s : List ℕ) → list_all passes s ≡ true
    → list_all passes (drop n s) ≡ true
list_all-drop passes zero s all = all
list_all-drop passes (suc n) [] all = refl
list_all-drop passes (suc n) (b ∷ s) all = list_all-drop passes n s (and_parts (passes b) _ all).1
