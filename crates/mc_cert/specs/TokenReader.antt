-- The tokens of JSON (RFC 8259, section 2) that a text still has, by the place in it that a reader
-- has reached. Only contracts inside this crate use these definitions.
use Rattle.std.specs.Prelude.{◌≡◌, ℕ, List, ◌∷◌, Bool, true, false}
use Rattle.json.specs.Token.{Token}
use Rattle.json.specs.Lex.{between, lex, fresh, after_value, after_comma, punctuate}
use Rattle.mc_cert.specs.declared.token_reader.Place.{Place}
use Rattle.mc_cert.specs.declared.token_reader.Place.TheVariants.{Fresh, AfterValue, AfterComma}

-- the tokens of the text that is left at a place
abbrev pub tokens_at : Place → List ℕ → List Token
tokens_at Fresh text = punctuate fresh (lex between text)
tokens_at AfterValue text = punctuate after_value (lex between text)
tokens_at AfterComma text = punctuate after_comma (lex between text)

-- whether a value or a key may begin at the place
abbrev pub may_begin : Place → Bool
may_begin Fresh = true
may_begin AfterValue = false
may_begin AfterComma = true

-- whether an object or a list may end at the place
abbrev pub may_close : Place → Bool
may_close Fresh = true
may_close AfterValue = true
may_close AfterComma = false

-- after white space the text begins with this byte, and `rest` comes after that
abbrev pub BeginsWith : (byte : ℕ) → (text rest : List ℕ) → Type 0
BeginsWith byte text rest = lex between text ≡ lex between (byte ∷ rest)
