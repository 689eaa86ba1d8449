-- Decoding hexadecimal digits, a pair at a time.
use Rattle.std.proofs.Common.{◌≡◌, ◌≢◌, ℕ, ◌+◌, ◌*◌, ◌<◌, ◌≤◌, true, List, length, get_or}
use Rattle.std.proofs.Common.{take, drop, Ok}
use Rattle.std.proofs.Common.{inl, inr, arith, slice_set, bit_or}
use Rattle.std.proofs.lemmas.Bool.{cases_lt}
use Rattle.std.proofs.lemmas.List.Elements.{All-get_or}
use Rattle.std.proofs.lemmas.Nat.{or_lt, le_or_l, le_or_r}
use Rattle.hex.specs.Hex.{is_hex_digit, decode_pairs}
use Rattle.hex.proofs.HexLemmas.{decode_pairs-ok}
use Rattle.hex.proofs.Pairs.{prepend, decode_step}
use Rattle.mc_text.specs.AddressWord.{hex_value_or_16}
use Rattle.mc_text.proofs.DigitLaneLemmas.{pair_value-Ok, is_hex_digit-false}

-- a text with a byte that is no digit doesn't decode
decode_pairs-non_digit : (s : List ℕ) (k : ℕ) → k < length s → 16 ≤ hex_value_or_16 (get_or s k 0)
    → (out : List ℕ) → decode_pairs 0 s ≢ Ok out
decode_pairs-non_digit s k within h out e =
    let digit = All-get_or (λ (c : ℕ). is_hex_digit c ≡ true) s k 0 within
    (decode_pairs-ok 0 s out e).0 in
    cc (is_hex_digit-false (get_or s k 0) h, digit)

-- ---- the loop over the pairs

-- one more pair, if all values so far are below 16
pub decode_pairs_more : (s out : List ℕ) (i values high low byte : ℕ) → 2 * i + 1 < length s
    → i < length out → high ≡ hex_value_or_16 (get_or s (2 * i) 0)
    → low ≡ hex_value_or_16 (get_or s (2 * i + 1) 0)
    → (high < 16 → low < 16 → byte ≡ high * 16 + low)
    → (values < 16
    → decode_pairs 0 s ≡ prepend (take i out) (decode_pairs (2 * i) (drop (2 * i) s)))
    → bit_or values (bit_or high low) < 16
    → decode_pairs 0 s ≡ prepend (take (i + 1) (slice_set out i byte))
    (decode_pairs (2 * (i + 1)) (drop (2 * (i + 1)) s))
decode_pairs_more s out i values high low byte fits room high_is low_is byte_is so_far below =
    let both = le_or_r values (bit_or high low) in
    let a : high < 16 = omega (arith, both, le_or_l high low) in
    let b : low < 16 = omega (arith, both, le_or_r high low) in
    let v : values < 16 = omega (arith, le_or_l values (bit_or high low)) in
    let pair = pair_value-Ok (get_or s (2 * i) 0) (get_or s (2 * i + 1) 0) (2 * i) byte
    (omega arith) (omega arith) (omega (arith, byte_is a b)) in
    decode_step s out i byte fits room pair (so_far v)

-- one more pair, if some value is 16
pub decode_pairs_refused_more : (s : List ℕ) (i values high low : ℕ) → 2 * i + 1 < length s
    → high ≡ hex_value_or_16 (get_or s (2 * i) 0) → low ≡ hex_value_or_16 (get_or s (2 * i + 1) 0)
    → (16 ≤ values → (out : List ℕ) → decode_pairs 0 s ≢ Ok out)
    → 16 ≤ bit_or values (bit_or high low) → (out : List ℕ) → decode_pairs 0 s ≢ Ok out
decode_pairs_refused_more s i values high low fits high_is low_is so_far large =
    elim (cases_lt values 16) [
      | inr before ↦ so_far before
      | inl v ↦
          elim (cases_lt high 16) [
            | inr h ↦ decode_pairs-non_digit s (2 * i) (omega arith) (omega arith)
            | inl a ↦
                elim (cases_lt low 16) [
                  | inr h ↦ decode_pairs-non_digit s (2 * i + 1) fits (omega arith)
                  | inl b ↦
                      absurd (omega (arith, or_lt 4 values (bit_or high low) v (or_lt 4 high low a b)))
                ]
          ]
    ]
