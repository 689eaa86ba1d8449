-- What strings denote, byte by byte.
use Rattle.std.proofs.Common.{◌≡◌, ℕ, ◌+◌, ◌*◌, ◌<◌, ◌≤◌, Bool, true, false, cond, ◌||◌, ◌==◌, nat_lt}
use Rattle.std.proofs.Common.{nat_le, List, [], ◌∷◌, ◌++◌}
use Rattle.std.proofs.Common.{length, take, drop, get_or, Option, Some, None}
use Rattle.std.proofs.Common.{suc, refl, sym, ap, ◌∙◌, arith, append-nil}
use Rattle.std.proofs.Math.Seq.{take-suc}
use Rattle.std.proofs.lemmas.List.{drop_more, append_assoc}
use Rattle.std.proofs.lemmas.Bool.{or_parts, not-true, eqb-true, lt-ltb}
use Rattle.json.specs.Run.{is_plain}
use Rattle.std.specs.Char.{digit_value, is_digit, encode_utf8}
use Rattle.json.specs.Text.{content, plain, after_u, after_high, prepend, short_escape, code_unit}
use Rattle.json.specs.Text.{is_high_surrogate, is_low_surrogate}
use Rattle.json.specs.Word.{is_operator, is_space}
use Rattle.json.specs.Lex.{Lexeme, quote, backslash, operator, space, other}
use Rattle.json.specs.Lex.{Mode, lex_byte, lex, between, in_string}
use Rattle.mc_cert.specs.JsonString.{IsHexDigit, DenotesByte}

-- inside a string, a byte that is neither a mark nor a backslash starts no lexeme
string_byte : (q b o s : Bool) (x : ℕ) (xs : List ℕ) (k : Mode → List Lexeme) → q ≡ false → b ≡ false
    → lex_byte in_string (cond q quote (cond b backslash (cond o operator (cond s space other)))) x xs k
    ≡ k in_string
string_byte false false true s x xs k hq hb = refl
string_byte false false false true x xs k hq hb = refl
string_byte false false false false x xs k hq hb = refl
string_byte true b o s x xs k hq hb = absurd cc
string_byte false true o s x xs k hq hb = absurd cc

-- what the tests of a plain byte are
plain_tests : (x : ℕ) → is_plain x ≡ true → ((x == 34) ≡ false) × ((x == 92) ≡ false) × (nat_lt x 32 ≡ false)
plain_tests x is =
    let none = or_parts ((x == 34) || (x == 92)) _ (not-true _ is) in
    let tests = or_parts (x == 34) _ none.0 in
    (tests.0, tests.1, none.1)

-- so a byte that isn't escaped leaves the lexemes behind the string
pub lex-plain : (x : ℕ) (xs : List ℕ) → is_plain x ≡ true → lex in_string (x ∷ xs) ≡ lex in_string xs
unfolding lex
lex-plain x xs is =
    let tests = plain_tests x is in
    string_byte (x == 34) (x == 92) (is_operator x) (is_space x) x xs (λ m. lex m xs) tests.0 tests.1

-- and denotes itself
pub content-plain_byte : (x : ℕ) (xs : List ℕ) → is_plain x ≡ true
    → content plain (x ∷ xs) ≡ prepend (x ∷ []) (content plain xs)
unfolding content
content-plain_byte x xs is = let tests = plain_tests x is in rw (tests.0, tests.1, tests.2) refl

-- bytes before bytes are one run of bytes
prepend-prepend : (a b : List ℕ) (r : Option (List ℕ)) → prepend a (prepend b r) ≡ prepend (a ++ b) r
prepend-prepend a b None = refl
prepend-prepend a b (Some s) = ap Some (sym (append_assoc a b s))

-- of a string these bytes denote themselves
pub record StringSoFar (text : List ℕ) (end : ℕ) : Type 0 where
  pub within : end ≤ length text
  pub content : content plain text ≡ prepend (take end text) (content plain (drop end text))
  pub lexemes : lex in_string text ≡ lex in_string (drop end text)

-- one byte more of a text
take_more : (end : ℕ) (text : List ℕ) → end < length text
    → take (end + 1) text ≡ take end text ++ get_or text end 0 ∷ []
take_more end text within =
    let next : end + 1 ≡ suc end = omega arith in
    ap (λ n. take n text) next ∙ take-suc text end 0 within

-- one plain byte more denotes itself
pub StringSoFar-more : (text : List ℕ) (end : ℕ) → StringSoFar text end → end < length text
    → is_plain (get_or text end 0) ≡ true → StringSoFar text (end + 1)
StringSoFar-more text end old within is =
    let x = get_or text end 0 in
    let more = drop_more text end 0 within in record {
      within = omega (arith, within);
      content = old.content
          ∙ ap (λ t. prepend (take end text) (content plain t)) more
          ∙ ap (prepend (take end text)) (content-plain_byte x (drop (end + 1) text) is)
          ∙ prepend-prepend (take end text) (x ∷ []) _
          ∙ ap (λ t. prepend t (content plain (drop (end + 1) text))) (sym (take_more end text within));
      lexemes = old.lexemes ∙ ap (lex in_string) more ∙ lex-plain x (drop (end + 1) text) is;
    }

-- up to a quotation mark
pub StringSoFar-ends : (text rest : List ℕ) (end : ℕ) → StringSoFar text end → drop end text ≡ 34 ∷ rest
    → (content plain text ≡ Some (take end text)) × (lex in_string text ≡ lex between rest)
unfolding content lex
StringSoFar-ends text rest end so_far is = (
  so_far.content ∙ ap (λ t. prepend (take end text) (content plain t)) is
      ∙ ap Some (append-nil (take end text)),
  so_far.lexemes ∙ ap (lex in_string) is,
)

-- ---- escapes

-- an unescaped byte
pub DenotesByte-plain : (x : ℕ) (xs text : List ℕ) → is_plain x ≡ true → text ≡ x ∷ xs → DenotesByte text x xs
DenotesByte-plain x xs text is begins = record {
  content = ap (content plain) begins ∙ content-plain_byte x xs is;
  lexemes = ap (lex in_string) begins ∙ lex-plain x xs is;
  shorter = omega (arith, ap length begins);
}

-- the letter of an escape by one letter isn't `u`
no_u : (x y : ℕ) → short_escape x ≡ Some y → (x == 117) ≡ false
unfolding short_escape
no_u x y is = not_u (x == 117) refl
  where
    not_u : (b : Bool) → (x == 117) ≡ b → b ≡ false
    not_u false h = refl
    not_u true h = let none = ap short_escape (sym (eqb-true x 117 h)) ∙ is in absurd cc

-- an escape by one letter
pub DenotesByte-short : (x y : ℕ) (xs text : List ℕ) → short_escape x ≡ Some y → text ≡ 92 ∷ x ∷ xs
    → DenotesByte text y xs
unfolding content lex
DenotesByte-short x y xs text is begins = record {
  content = ap (content plain) begins ∙ rw (no_u x y is, is) refl;
  lexemes = ap (lex in_string) begins;
  shorter = omega (arith, ap length begins);
}

-- no hex digit has the value that other bytes have
not_16 : (v d : ℕ) → d ≡ 36 → d ≡ v → v < 16 → ⊥
not_16 v d is_36 is small = omega (arith, is_36, is, small)

-- a byte that no hex digit is
no_hex : (x y v : ℕ) → IsHexDigit x v → digit_value y ≡ 36 → (x == y) ≡ false
no_hex x y v is value = differs (x == y) refl
  where
    differs : (b : Bool) → (x == y) ≡ b → b ≡ false
    differs false h = refl
    differs true h = absurd (not_16 v (digit_value x) (ap digit_value (eqb-true x y h) ∙ value) is.value
        is.small)

-- a string goes on after a hex digit
lex-hex : (x v : ℕ) (xs : List ℕ) → IsHexDigit x v → lex in_string (x ∷ xs) ≡ lex in_string xs
unfolding lex
lex-hex x v xs is =
    string_byte (x == 34) (x == 92) (is_operator x) (is_space x) x xs (λ m. lex m xs)
    (no_hex x 34 v is refl) (no_hex x 92 v is refl)

-- a hex digit is one for JSON's reader
is_hex : (x v : ℕ) → IsHexDigit x v → is_digit x 16 ≡ true
is_hex x v is = lt-ltb (digit_value x) 16 (omega (arith, is.value, is.small))

-- the code of an escape by four digits, whose first two are zeros
code_of : (x y v w : ℕ) → IsHexDigit x v → IsHexDigit y w → code_unit 48 48 x y ≡ Some (v * 16 + w)
unfolding code_unit
code_of x y v w high low =
    rw (is_hex x v high, is_hex y w low, high.value, low.value) (ap Some sum)
  where
    sum : digit_value 48 * 4096 + digit_value 48 * 256 + v * 16 + w ≡ v * 16 + w
    sum = omega arith

-- a code below 128 denotes one byte, and is no half of a pair
content-code : (u : ℕ) (r : Option (List ℕ)) (high : Option (List ℕ)) → u < 128
    → cond (is_high_surrogate u) high (cond (is_low_surrogate u) None (prepend (encode_utf8 u) r))
    ≡ prepend (u ∷ []) r
unfolding encode_utf8
content-code u r high small =
    let below_high : nat_le 0xd800 u ≡ false = grind arith in
    let below_low : nat_le 0xdc00 u ≡ false = grind arith in
    let one : nat_lt u 128 ≡ true = lt-ltb u 128 small in
    rw (below_high, below_low, one) refl

-- an escape by a code below 128
pub DenotesByte-code : (x y v w : ℕ) (xs text : List ℕ) → IsHexDigit x v → IsHexDigit y w → v < 8
    → text ≡ x ∷ y ∷ xs
    → DenotesByte (92 ∷ 117 ∷ 48 ∷ 48 ∷ text) (v * 16 + w) xs
unfolding content lex
DenotesByte-code x y v w xs text high low small begins = record {
  content = ap (λ t. content after_u (48 ∷ 48 ∷ t)) begins
      ∙ rw (code_of x y v w high low)
      (content-code (v * 16 + w) (content plain xs) (content (after_high (v * 16 + w)) xs)
      (omega (arith, small, low.small)));
  lexemes = ap (λ t. lex in_string t) begins ∙ lex-hex x v (y ∷ xs) high ∙ lex-hex y w xs low;
  shorter = omega (arith, ap length begins);
}

-- ---- whole strings with escapes

-- of a string these bytes were read, and it goes on with these
pub record UnescapedSoFar (text bytes rest : List ℕ) : Type 0 where
  pub content : content plain text ≡ prepend bytes (content plain rest)
  pub lexemes : lex in_string text ≡ lex in_string rest

-- up to a quotation mark
pub UnescapedSoFar-ends : (text bytes rest others : List ℕ) → UnescapedSoFar text bytes rest
    → rest ≡ 34 ∷ others
    → (content plain text ≡ Some bytes) × (lex in_string text ≡ lex between others)
unfolding content lex
UnescapedSoFar-ends text bytes rest others so_far is = (
  so_far.content ∙ ap (λ t. prepend bytes (content plain t)) is ∙ ap Some (append-nil bytes),
  so_far.lexemes ∙ ap (lex in_string) is,
)
