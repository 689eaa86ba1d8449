-- The text of a value has no line feed: in a string it is escaped.
use Rattle.std.proofs.Common.{◌≡◌, ℕ, suc, ◌/◌, ◌%◌, Bool, true, false, cond, eqb, List, [], ◌∷◌, refl}
use Rattle.std.proofs.Common.{sym, ap, ◌∙◌, arith}
use Rattle.std.specs.Prelude.{ℤ, pos, negsuc, nat_lt}
use Rattle.std.specs.Char.{digit_char}
use Rattle.std.specs.Fmt.{signed_decimal}
use Rattle.std.proofs.lemmas.Bool.{false≢true, ne_eqb}
use Rattle.std.proofs.lemmas.Bool.Decides.{nat_tests}
use Rattle.json.specs.Print.{escape, escape_byte, escape_letter, quoted}
use Rattle.mc_text.proofs.ByteLemmas.{HasNoByte}
use Rattle.mc_shown.proofs.LineFeedLemmas.{no_feed-flat_map, number as no_feed-decimal, no_feed-append}
use Rattle.serde_json.specs.Data.{Num, unsigned, negative, float, Data, null, boolean, number, string}
use Rattle.serde_json.specs.Data.{array, object, Items, no_items, item, Members, no_members, member}
use Rattle.serde_json.specs.Written.{comma_if, compact_text, items_text, members_text, number_text}

-- ---- strings

-- a hexadecimal digit
digit_char-is_no_feed : (d : ℕ) → eqb (digit_char d) 10 ≡ false
digit_char-is_no_feed d = grind (arith, nat_tests)

-- the letter of an escape
escape_letter-is_no_feed : (x : ℕ) → eqb (escape_letter x) 10 ≡ false
escape_letter-is_no_feed x = grind (arith, nat_tests)

-- a byte: with a letter, by its number, or as it is
no_feed-escape_byte_cases : (x : ℕ) (letter small : Bool) → nat_lt 0 (escape_letter x) ≡ letter
    → nat_lt x 32 ≡ small
    → HasNoByte 10 (cond letter (92 ∷ escape_letter x ∷ [])
    (cond small (92 ∷ 117 ∷ 48 ∷ 48 ∷ digit_char (x / 16) ∷ digit_char (x % 16) ∷ []) (x ∷ [])))
no_feed-escape_byte_cases x true small has is = (refl, (escape_letter-is_no_feed x, tt))
no_feed-escape_byte_cases x false true has is = (
  refl,
  (refl, (refl, (refl, (digit_char-is_no_feed (x / 16), (digit_char-is_no_feed (x % 16), tt))))),
)
no_feed-escape_byte_cases x false false has is =
    (ne_eqb x 10 (λ e. false≢true (sym has ∙ ap (λ (y : ℕ). nat_lt 0 (escape_letter y)) e)), tt)

-- a byte of a string
no_feed-escape_byte : (x : ℕ) → HasNoByte 10 (escape_byte x)
unfolding escape_byte
no_feed-escape_byte x = no_feed-escape_byte_cases x (nat_lt 0 (escape_letter x)) (nat_lt x 32) refl refl

-- a string
no_feed-quoted : (s : List ℕ) → HasNoByte 10 (quoted s)
no_feed-quoted s = (
  refl,
  no_feed-append (escape s) (34 ∷ []) (no_feed-flat_map escape_byte s
      no_feed-escape_byte) (refl, tt),
)

-- ---- values

-- a comma, or nothing
no_feed-comma_if : (later : Bool) → HasNoByte 10 (comma_if later)
no_feed-comma_if true = (refl, tt)
no_feed-comma_if false = tt

-- a whole number
no_feed-signed_decimal : (z : ℤ) → HasNoByte 10 (signed_decimal z)
no_feed-signed_decimal (pos n) = no_feed-decimal n
no_feed-signed_decimal (negsuc n) = (refl, no_feed-decimal (suc n))

-- a number
no_feed-number_text : (n : Num) → HasNoByte 10 (number_text n)
no_feed-number_text (unsigned n) = no_feed-decimal n
no_feed-number_text (negative z) = no_feed-signed_decimal z
no_feed-number_text (float x) = tt

mutual
  -- the compact text of a value has no line feed
  pub no_feed-compact_text : (d : Data) → HasNoByte 10 (compact_text d)
  no_feed-compact_text null = (refl, (refl, (refl, (refl, tt))))
  no_feed-compact_text (boolean true) = (refl, (refl, (refl, (refl, tt))))
  no_feed-compact_text (boolean false) = (refl, (refl, (refl, (refl, (refl, tt)))))
  no_feed-compact_text (number n) = no_feed-number_text n
  no_feed-compact_text (string s) = no_feed-quoted s
  no_feed-compact_text (array ds) = (refl, no_feed-items_text false ds)
  no_feed-compact_text (object ms) = (refl, no_feed-members_text false ms)

  no_feed-items_text : (later : Bool) (ds : Items) → HasNoByte 10 (items_text later ds)
  no_feed-items_text later no_items = (refl, tt)
  no_feed-items_text later (item d ds) =
      no_feed-append (comma_if later) _ (no_feed-comma_if later)
      (no_feed-append (compact_text d) _ (no_feed-compact_text d) (no_feed-items_text true ds))

  no_feed-members_text : (later : Bool) (ms : Members) → HasNoByte 10 (members_text later ms)
  no_feed-members_text later no_members = (refl, tt)
  no_feed-members_text later (member k d ms) =
      no_feed-append (comma_if later) _ (no_feed-comma_if later)
      (no_feed-append (quoted k) _ (no_feed-quoted k)
      (refl, no_feed-append (compact_text d) _ (no_feed-compact_text d) (no_feed-members_text true ms)))
