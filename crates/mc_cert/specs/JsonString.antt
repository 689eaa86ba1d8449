-- The texts that strings of JSON denote (RFC 8259, section 7). Only contracts inside this crate
-- use these definitions.
use Rattle.std.specs.Prelude.{◌≡◌, ◌<◌, ℕ, List, [], ◌∷◌, length}
use Rattle.std.specs.Char.{digit_value}
use Rattle.json.specs.Lex.{in_string, lex}
use Rattle.json.specs.Text.{content, plain, prepend}
use Rattle.mc_cert.specs.declared.json_string.JsonText.{JsonText}
use Rattle.mc_cert.specs.declared.json_string.JsonText.TheVariants.{Plain, Unescaped}

-- the bytes of the text that a string denotes
abbrev pub text_bytes : JsonText → List ℕ
text_bytes (Plain bytes) = bytes.now
text_bytes (Unescaped bytes) = bytes.items

-- the byte is a hexadecimal digit, of this value
pub record IsHexDigit (byte digit : ℕ) : Type 0 where
  pub value : digit_value byte ≡ digit
  pub small : digit < 16

-- Inside a string, the text begins with what denotes this byte, and `rest` comes after that: it
-- denotes the other bytes, has the same lexemes, and is shorter.
pub record DenotesByte (text : List ℕ) (byte : ℕ) (rest : List ℕ) : Type 0 where
  pub content : content plain text ≡ prepend (byte ∷ []) (content plain rest)
  pub lexemes : lex in_string text ≡ lex in_string rest
  pub shorter : length rest < length text
