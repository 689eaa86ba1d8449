-- Bytes of a device's name that are escaped.
use Rattle.std.proofs.Common.{◌≡◌, ℕ, ◌+◌, ◌-◌, ◌/◌, ◌%◌, ◌^◌, ◌<◌, Bool, false, cond, nat_le, nat_lt}
use Rattle.std.proofs.Common.{[], ◌∷◌, ap, ap₂, ◌∙◌, arith}
use Rattle.std.specs.Fmt.{padded_integral, format_spec, digits, digit_glyph}
use Rattle.std.proofs.lemmas.Fmt.{hex_byte}
use Rattle.mc_shown.specs.RowText.{hex_digit_of}

-- std's hexadecimal digits are the same
digit_glyph-hex : (d : ℕ) → digit_glyph false d ≡ hex_digit_of d
digit_glyph-hex d = ap (λ (b : Bool). cond b (48 + d) (87 + d)) (same d)
  where
    same : (d : ℕ) → nat_lt d 10 ≡ nat_le d 9
    same d = grind arith

-- what `{:02x}` writes for a byte
pub hex_text : (b : ℕ) → b < 256
    → padded_integral (format_spec 32 0 4 2 (2 ^ 64 - 1)) false [] (digits 16 false b)
    ≡ hex_digit_of (b / 16) ∷ hex_digit_of (b % 16) ∷ []
hex_text b small = hex_byte false b small
    ∙ ap₂ (λ x y. x ∷ y ∷ []) (digit_glyph-hex (b / 16)) (digit_glyph-hex (b % 16))
