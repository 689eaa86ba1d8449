-- Bytes that were decoded from hexadecimal digits.
use Rattle.std.proofs.Common.{◌≡◌, ◌≢◌, ℕ, ◌+◌, ◌-◌, ◌*◌, ◌<◌, ◌≤◌, true}
use Rattle.std.proofs.Common.{false, List, ◌++◌, length, take}
use Rattle.std.proofs.Common.{drop, refl, sym, ap, ap₂, ◌∙◌, subst, arith, Ok}
use Rattle.std.specs.List.{list_all}
use Rattle.std.specs.Simd.Lanes.{pick_l, chunk, put_chunk}
use Rattle.std.proofs.lemmas.List.{length-append, length-take-le, take_all, take_at, drop_at}
use Rattle.std.proofs.lemmas.List.{take-take, append_assoc}
use Rattle.std.specs.List.{range_with_len}
use Rattle.std.proofs.lemmas.List.Sums.{list_all-from_AllPass}
use Rattle.std.proofs.Math.Seq.{take-add}
use Rattle.std.proofs.lemmas.Simd.{length-chunk, take_more_put_chunk}
use Rattle.std.proofs.lemmas.Simd.{length-put_chunk, pick_l-range_with_len}
use Rattle.hex.specs.Hex.{is_hex_digit, decode_of}
use Rattle.hex.proofs.HexLemmas.{decode_of-ok}
use Rattle.mc_text.specs.DigitPairs.{bytes_of_pairs, AreDecoded}
use Rattle.mc_text.proofs.DigitLaneLemmas.{decode_of-digits, take-bytes_of_pairs}
use Rattle.mc_text.proofs.DigitLaneLemmas.{bytes_of_pairs-append, length-bytes_of_pairs}
use Rattle.mc_text.proofs.DigitLaneLemmas.{list_all-take, list_all-of_append, list_all-drop}

-- if the first k bytes are decoded, so are the first m, for m up to k
pub decoded_fewer : (digits bytes : List ℕ) (m k : ℕ) → m ≤ k → AreDecoded digits bytes k
    → AreDecoded digits bytes m
decoded_fewer digits bytes m k few decoded =
    let digits_front : take (2 * m) (take (2 * k) digits) ≡ take (2 * m) digits =
    take-take (2 * m) (2 * k) digits (omega arith) in (
      subst (λ s. list_all is_hex_digit s ≡ true) digits_front
          (list_all-take is_hex_digit (2 * m) (take (2 * k) digits) decoded.0),
      sym (take-take m k bytes few) ∙ ap (take m) decoded.1
          ∙ take-bytes_of_pairs m (take (2 * k) digits) ∙ ap bytes_of_pairs digits_front,
    )

-- with a piece of n more bytes, the first at + n bytes are decoded
pub decoded_more : (n : ℕ) (digits bytes piece : List ℕ) (at : ℕ) → 2 * (at + n) ≤ length digits
    → at + n ≤ length bytes → list_all is_hex_digit (chunk (2 * at) (2 * n) digits) ≡ true
    → piece ≡ bytes_of_pairs (chunk (2 * at) (2 * n) digits) → AreDecoded digits bytes at
    → AreDecoded digits (put_chunk at bytes piece) (at + n)
decoded_more n digits bytes piece at fits room all is decoded =
    let text = chunk (2 * at) (2 * n) digits in
    let size : length piece ≡ n =
    ap length is ∙ length-bytes_of_pairs n text (length-chunk (2 * at) (2 * n) digits (omega arith)) in
    let more : 2 * (at + n) ≡ 2 * at + 2 * n = omega arith in
    let front : take (2 * (at + n)) digits ≡ take (2 * at) digits ++ text =
    ap (λ k. take k digits) more ∙ take-add (2 * at) (2 * n) digits in
    let even = length-take-le (2 * at) digits (omega arith) in (
      subst (λ s. list_all is_hex_digit s ≡ true) (sym front)
          (list_all-of_append is_hex_digit (take (2 * at) digits) text decoded.0 all),
      take_more_put_chunk at bytes piece (at + n) (omega (arith, size)) (omega arith)
          ∙ ap₂ (λ a b. a ++ b) decoded.1 is
          ∙ sym (bytes_of_pairs-append at (take (2 * at) digits) text even) ∙ ap bytes_of_pairs (sym front),
    )

-- if all bytes are decoded, they are the digits decoded
pub decode_of-all_decoded : (digits bytes : List ℕ) (count : ℕ) → count ≡ length bytes
    → length digits ≡ 2 * length bytes → AreDecoded digits bytes count → decode_of digits ≡ Ok bytes
decode_of-all_decoded digits bytes count is twice decoded =
    let whole : take (2 * count) digits ≡ digits = take_all (2 * count) digits (omega arith) in
    decode_of-digits (length bytes) digits twice
    (subst (λ s. list_all is_hex_digit s ≡ true) whole decoded.0)
    ∙ ap Ok (ap bytes_of_pairs (sym whole) ∙ sym decoded.1 ∙ take_all count bytes (omega arith))

-- if all bytes at the front are decoded, they are the digits decoded
pub decode_of-decoded_front : (digits room : List ℕ) (count : ℕ) → count ≤ length room
    → length digits ≡ 2 * count → AreDecoded digits room count → decode_of digits ≡ Ok (take count room)
decode_of-decoded_front digits room count within twice decoded =
    let size = length-take-le count room within in
    decode_of-all_decoded digits (take count room) count (sym size) (omega (arith, size, twice)) (
      decoded.0,
      take-take count count room (omega arith) ∙ decoded.1,
    )

-- digits of which a piece isn't all digits don't decode
pub decode_of-non_digit_chunk : (digits : List ℕ) (i n : ℕ) → list_all is_hex_digit (chunk i n digits) ≡ false
    → (out : List ℕ) → decode_of digits ≢ Ok out
decode_of-non_digit_chunk digits i n other out e =
    let all = list_all-from_AllPass is_hex_digit digits (decode_of-ok digits out e).1 in
    cc (sym other ∙ list_all-take is_hex_digit n (drop i digits) (list_all-drop is_hex_digit i digits all))

-- ---- a few digits, by the first sixteen and the last sixteen

-- the bytes of two halves are those of each half
bytes_of_pairs-halves : (a b w : List ℕ) → length a ≡ 16 → length b ≡ 16 → w ≡ bytes_of_pairs (a ++ b)
    → (pick_l 0 (w ++ w) (range_with_len 0 8) ≡ bytes_of_pairs a)
    × (pick_l 0 (w ++ w) (range_with_len 8 8) ≡ bytes_of_pairs b)
bytes_of_pairs-halves a b w size_a size_b is =
    let p = bytes_of_pairs a in
    let q = bytes_of_pairs b in
    let parts : w ≡ p ++ q = is ∙ bytes_of_pairs-append 8 a b size_a in
    let size_p = length-bytes_of_pairs 8 a size_a in
    let size_q = length-bytes_of_pairs 8 b size_b in
    let size : length (w ++ w) ≡ 32 =
    omega (arith, length-append w w, ap length parts, length-append p q, size_p, size_q) in
    let joined : w ++ w ≡ p ++ (q ++ w) = ap (λ l. l ++ w) parts ∙ append_assoc p q w in (
      pick_l-range_with_len 0 (w ++ w) 0 8 (omega (arith, size))
          ∙ ap (take 8) joined ∙ take_at p (q ++ w) 8 size_p,
      pick_l-range_with_len 0 (w ++ w) 8 8 (omega (arith, size))
          ∙ ap (λ l. take 8 (drop 8 l)) joined ∙ ap (take 8) (drop_at p (q ++ w) 8 size_p)
          ∙ take_at q w 8 size_q,
    )

-- the bytes of the first sixteen digits, twice in the lanes
pub decoded_eight : (digits bytes text w : List ℕ) → 16 ≤ length digits → 8 ≤ length bytes
    → text ≡ chunk 0 16 digits ++ chunk 0 16 digits → list_all is_hex_digit text ≡ true
    → w ≡ bytes_of_pairs text
    → AreDecoded digits (put_chunk 0 bytes (pick_l 0 (w ++ w) (range_with_len 0 8))) 8
decoded_eight digits bytes text w fits room parts all is =
    let a = chunk 0 16 digits in
    let size : length a ≡ 16 = length-chunk 0 16 digits fits in
    let both = subst (λ s. list_all is_hex_digit s ≡ true) parts all in
    let all_a = subst (λ s. list_all is_hex_digit s ≡ true) (take_at a a 16 size)
    (list_all-take is_hex_digit 16 (a ++ a) both) in
    decoded_more 8 digits bytes _ 0 (omega (arith, fits)) (omega (arith, room)) all_a
    (bytes_of_pairs-halves a a w size size (is ∙ ap bytes_of_pairs parts)).0 (refl, refl)

pub decode_of-short : (digits bytes text w : List ℕ) → length digits ≡ 2 * length bytes
    → 8 ≤ length bytes → length bytes < 16
    → text ≡ chunk 0 16 digits ++ chunk (2 * (length bytes - 8)) 16 digits
    → list_all is_hex_digit text ≡ true → w ≡ bytes_of_pairs text
    → decode_of digits ≡ Ok (put_chunk (length bytes - 8)
    (put_chunk 0 bytes (pick_l 0 (w ++ w) (range_with_len 0 8)))
    (pick_l 0 (w ++ w) (range_with_len 8 8)))
decode_of-short digits bytes text w twice some few parts all is =
    let last = length bytes - 8 in
    let a = chunk 0 16 digits in
    let b = chunk (2 * last) 16 digits in
    let size_a : length a ≡ 16 = length-chunk 0 16 digits (omega arith) in
    let size_b : length b ≡ 16 = length-chunk (2 * last) 16 digits (omega arith) in
    let whole : list_all is_hex_digit (a ++ b) ≡ true =
    subst (λ s. list_all is_hex_digit s ≡ true) parts all in
    let all_a = subst (λ s. list_all is_hex_digit s ≡ true) (take_at a b 16 size_a)
    (list_all-take is_hex_digit 16 (a ++ b) whole) in
    let all_b = subst (λ s. list_all is_hex_digit s ≡ true) (drop_at a b 16 size_a)
    (list_all-drop is_hex_digit 16 (a ++ b) whole) in
    let half = bytes_of_pairs-halves a b w size_a size_b (is ∙ ap bytes_of_pairs parts) in
    let first = put_chunk 0 bytes (pick_l 0 (w ++ w) (range_with_len 0 8)) in
    let second = put_chunk last first (pick_l 0 (w ++ w) (range_with_len 8 8)) in
    let same : length first ≡ length bytes = length-put_chunk 0 bytes _ in
    let still : length second ≡ length bytes = length-put_chunk last first _ ∙ same in
    let front = decoded_more 8 digits bytes _ 0 (omega arith) (omega arith) all_a half.0 (refl, refl) in
    let before = decoded_fewer digits first last 8 (omega arith) front in
    let decoded = decoded_more 8 digits first _ last (omega arith) (omega (arith, same)) all_b half.1
    before in
    decode_of-all_decoded digits second (last + 8) (omega (arith, still)) (omega (arith, still)) decoded

pub decode_of-non_digit_short : (digits text : List ℕ) (i : ℕ) → text ≡ chunk 0 16 digits ++ chunk i 16 digits
    → list_all is_hex_digit text ≡ false → (out : List ℕ) → decode_of digits ≢ Ok out
decode_of-non_digit_short digits text i parts other out e =
    let all = list_all-from_AllPass is_hex_digit digits (decode_of-ok digits out e).1 in
    let front = list_all-take is_hex_digit 16 digits all in
    let back = list_all-take is_hex_digit 16 (drop i digits) (list_all-drop is_hex_digit i digits all) in
    cc (sym other ∙ ap (list_all is_hex_digit) parts
    ∙ list_all-of_append is_hex_digit (chunk 0 16 digits) (chunk i 16 digits) front back)
