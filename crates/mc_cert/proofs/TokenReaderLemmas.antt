-- The lexemes of a text, byte by byte, and the tokens that they give, by where a reader is.
use Rattle.std.proofs.Common.{◌≡◌, ℕ, ◌-◌, ◌<◌, ◌≤◌, true, false, ◌||◌, ◌==◌, List}
use Rattle.std.proofs.Common.{[], ◌∷◌, ◌++◌}
use Rattle.std.proofs.Common.{length, take, drop, get_or, Some, None, decimal, ◌⊎◌, inl, inr}
use Rattle.std.proofs.Common.{refl, sym, ap, ◌∙◌, subst, arith}
use Rattle.std.proofs.lemmas.List.{drop_more, take_rest}
use Rattle.std.proofs.lemmas.Bool.{or_cases, eqb-true}
use Rattle.json.specs.Text.{content, plain}
use Rattle.json.specs.Token.{begin_object, end_object, begin_array, end_array, key, string, number}
use Rattle.json.specs.Json.{after_end_array}
use Rattle.json.specs.Word.{is_space, ends_word}
use Rattle.json.specs.Lex.{token}
use Rattle.json.specs.Lex.{lex, between, in_string, fresh, after_value, after_comma}
use Rattle.json.specs.Lex.{string_token, begins_colon, punctuate}
use Rattle.json.proofs.Printed.Numbers.{lex-number}
use Rattle.json.proofs.Printed.Decimals.{IsNumber-decimal}
use Rattle.mc_cert.specs.declared.token_reader.Place.{Place}
use Rattle.mc_cert.specs.declared.token_reader.Place.TheVariants.{Fresh, AfterValue, AfterComma}
use Rattle.mc_cert.specs.TokenReader.{tokens_at, may_begin, may_close, BeginsWith}

-- ---- white space

-- white space in front changes no token
pub lex-space : (x : ℕ) (xs : List ℕ) → is_space x ≡ true → lex between (x ∷ xs) ≡ lex between xs
unfolding lex
lex-space x xs is =
    last (or_cases ((x == 32) || (x == 9) || (x == 10)) (x == 13) is)
  where
    passes : ℕ → Type 0
    passes y = lex between (y ∷ xs) ≡ lex between xs

    at : (y : ℕ) → passes y → (x == y) ≡ true → passes x
    at y h e = subst passes (sym (eqb-true x y e)) h

    first : ((x == 32) ≡ true) ⊎ ((x == 9) ≡ true) → passes x
    first (inl e) = at 32 refl e
    first (inr e) = at 9 refl e

    second : (((x == 32) || (x == 9)) ≡ true) ⊎ ((x == 10) ≡ true) → passes x
    second (inl e) = first (or_cases (x == 32) (x == 9) e)
    second (inr e) = at 10 refl e

    last : (((x == 32) || (x == 9) || (x == 10)) ≡ true) ⊎ ((x == 13) ≡ true) → passes x
    last (inl e) = second (or_cases ((x == 32) || (x == 9)) (x == 10) e)
    last (inr e) = at 13 refl e

-- ---- tokens

-- where a value may begin, an opening brace begins an object
pub token-begin_object : (place : Place) (text rest : List ℕ) → may_begin place ≡ true
    → BeginsWith 123 text rest
    → tokens_at place text ≡ begin_object ∷ tokens_at Fresh rest
unfolding lex punctuate
token-begin_object Fresh text rest may begins = ap (punctuate fresh) begins
token-begin_object AfterValue text rest may begins = absurd cc
token-begin_object AfterComma text rest may begins = ap (punctuate after_comma) begins

-- where a value may begin, an opening bracket begins a list
pub token-begin_array : (place : Place) (text rest : List ℕ) → may_begin place ≡ true
    → BeginsWith 91 text rest
    → tokens_at place text ≡ begin_array ∷ tokens_at Fresh rest
unfolding lex punctuate
token-begin_array Fresh text rest may begins = ap (punctuate fresh) begins
token-begin_array AfterValue text rest may begins = absurd cc
token-begin_array AfterComma text rest may begins = ap (punctuate after_comma) begins

-- where an object may end, a closing brace ends it
pub token-end_object : (place : Place) (text rest : List ℕ) → may_close place ≡ true
    → BeginsWith 125 text rest
    → tokens_at place text ≡ end_object ∷ punctuate after_value (lex between rest)
unfolding lex punctuate
token-end_object Fresh text rest may begins = ap (punctuate fresh) begins
token-end_object AfterValue text rest may begins = ap (punctuate after_value) begins
token-end_object AfterComma text rest may begins = absurd cc

-- where a list may end, a closing bracket ends it
pub token-end_array : (place : Place) (text rest : List ℕ) → may_close place ≡ true → BeginsWith 93 text rest
    → tokens_at place text ≡ end_array ∷ punctuate after_value (lex between rest)
unfolding lex punctuate
token-end_array Fresh text rest may begins = ap (punctuate fresh) begins
token-end_array AfterValue text rest may begins = ap (punctuate after_value) begins
token-end_array AfterComma text rest may begins = absurd cc

-- no list ends where an object or a list begins
pub no_end-before_object : (place : Place) (text rest : List ℕ) → BeginsWith 123 text rest
    → after_end_array (tokens_at place text) ≡ None
unfolding lex punctuate
no_end-before_object Fresh text rest begins = ap (λ ls. after_end_array (punctuate fresh ls)) begins
no_end-before_object AfterValue text rest begins =
    ap (λ ls. after_end_array (punctuate after_value ls)) begins
no_end-before_object AfterComma text rest begins =
    ap (λ ls. after_end_array (punctuate after_comma ls)) begins

-- in front of an opening bracket no list ends
pub no_end-before_array : (place : Place) (text rest : List ℕ) → BeginsWith 91 text rest
    → after_end_array (tokens_at place text) ≡ None
unfolding lex punctuate
no_end-before_array Fresh text rest begins = ap (λ ls. after_end_array (punctuate fresh ls)) begins
no_end-before_array AfterValue text rest begins = ap (λ ls. after_end_array (punctuate after_value ls)) begins
no_end-before_array AfterComma text rest begins = ap (λ ls. after_end_array (punctuate after_comma ls)) begins

-- the lexemes of a string and of what follows it
lex-string : (text inside s after : List ℕ) → BeginsWith 34 text inside → content plain inside ≡ Some s
    → lex in_string inside ≡ lex between after → lex between text ≡ token (string s) ∷ lex between after
unfolding lex
lex-string text inside s after begins read rest =
    begins ∙ (λ i. token (string_token (read i)) ∷ rest i)

-- where a key may begin, a text that a colon comes after is a key
pub token-key : (place : Place) (text inside s after rest : List ℕ) → may_begin place ≡ true
    → BeginsWith 34 text inside → content plain inside ≡ Some s → lex in_string inside ≡ lex between after
    → BeginsWith 58 after rest → tokens_at place text ≡ key s ∷ tokens_at Fresh rest
unfolding lex punctuate
token-key Fresh text inside s after rest may begins read next is =
    ap (punctuate fresh) (lex-string text inside s after begins read next
    ∙ ap (λ ls. token (string s) ∷ ls) is)
token-key AfterValue text inside s after rest may begins read next is = absurd cc
token-key AfterComma text inside s after rest may begins read next is =
    ap (punctuate after_comma) (lex-string text inside s after begins read next
    ∙ ap (λ ls. token (string s) ∷ ls) is)

-- where a value may begin, a text that no colon comes after is a value
pub token-string : (place : Place) (text inside s after : List ℕ) → may_begin place ≡ true
    → BeginsWith 34 text inside → content plain inside ≡ Some s → lex in_string inside ≡ lex between after
    → begins_colon (lex between after) ≡ false
    → tokens_at place text ≡ string s ∷ punctuate after_value (lex between after)
unfolding punctuate
token-string Fresh text inside s after may begins read next no_colon =
    ap (punctuate fresh) (lex-string text inside s after begins read next) ∙ rw no_colon refl
token-string AfterValue text inside s after may begins read next no_colon = absurd cc
token-string AfterComma text inside s after may begins read next no_colon =
    ap (punctuate after_comma) (lex-string text inside s after begins read next) ∙ rw no_colon refl

-- where a value may begin, the digits of a number below 10,000 are that number
pub token-number : (place : Place) (text digits : List ℕ) (n : ℕ) (after : List ℕ) → may_begin place ≡ true
    → lex between text ≡ lex between digits → digits ≡ decimal n ++ after → n < 10000 → ends_word after ≡ true
    → tokens_at place text ≡ number (decimal n) ∷ punctuate after_value (lex between after)
unfolding punctuate
token-number place text digits n after may skipped is small ended = at place may
  where
    lexemes : lex between text ≡ token (number (decimal n)) ∷ lex between after
    lexemes = skipped ∙ ap (lex between) is
        ∙ lex-number (decimal n) after (IsNumber-decimal n (omega (arith, small))) ended

    at : (p : Place) → may_begin p ≡ true
        → tokens_at p text ≡ number (decimal n) ∷ punctuate after_value (lex between after)
    at Fresh h = ap (punctuate fresh) lexemes
    at AfterValue h = absurd cc
    at AfterComma h = ap (punctuate after_comma) lexemes

-- no colon is next where one of these is
pub no_colon-before : (x : ℕ) (text rest : List ℕ) → (x ≡ 44) ⊎ ((x ≡ 125) ⊎ (x ≡ 93))
    → BeginsWith x text rest
    → begins_colon (lex between text) ≡ false
unfolding lex
no_colon-before x text rest (inl e) begins = ap begins_colon (begins ∙ ap (λ y. lex between (y ∷ rest)) e)
no_colon-before x text rest (inr (inl e)) begins =
    ap begins_colon (begins ∙ ap (λ y. lex between (y ∷ rest)) e)
no_colon-before x text rest (inr (inr e)) begins =
    ap begins_colon (begins ∙ ap (λ y. lex between (y ∷ rest)) e)

-- a comma after a value
pub passed_comma : (text rest : List ℕ) → BeginsWith 44 text rest
    → punctuate after_comma (lex between rest) ≡ punctuate after_value (lex between text)
unfolding lex punctuate
passed_comma text rest begins = ap (punctuate after_value) (sym begins)

-- the first byte of a text, and the others
pub split_first : (x : ℕ) (text : List ℕ) → 1 ≤ length text → get_or text 0 0 ≡ x
    → text ≡ x ∷ take (length text - 1) (drop 1 text)
split_first x text some first =
    drop_more text 0 0 (omega (arith, some)) ∙ (λ i. first i ∷ sym (take_rest text 1) i)

-- the text begins with the byte that is first after its white space
pub begins-skipped : (x : ℕ) (text skipped : List ℕ) → lex between text ≡ lex between skipped
    → 1 ≤ length skipped → get_or skipped 0 0 ≡ x
    → BeginsWith x text (take (length skipped - 1) (drop 1 skipped))
begins-skipped x text skipped same some first =
    same ∙ ap (lex between) (split_first x skipped some first)

-- nothing is left
pub nothing_left : (place : Place) (text skipped : List ℕ) → may_close place ≡ true
    → lex between text ≡ lex between skipped → length skipped ≡ 0 → tokens_at place text ≡ []
unfolding lex punctuate
nothing_left Fresh text [] may same none = ap (punctuate fresh) same
nothing_left AfterValue text [] may same none = ap (punctuate after_value) same
nothing_left AfterComma text [] may same none = absurd cc
nothing_left place text (x ∷ rest) may same none = absurd (omega (arith, none))
