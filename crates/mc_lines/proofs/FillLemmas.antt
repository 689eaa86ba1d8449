-- How a sentence is filled, brace by brace; 123 is { and 125 is }.
use Rattle.std.proofs.Common.{◌≡◌, ℕ, suc, ◌+◌, ◌<◌, Bool, true, false, List, [], ◌∷◌, ◌++◌, length, refl}
use Rattle.std.proofs.Common.{ap, arith, append_assoc, append-nil, ap₂, sym, ◌∙◌}
use Rattle.std.specs.Prelude.{◌==◌, flat_map}
use Rattle.std.specs.List.{after_first, before_first, position_or_len}
use Rattle.mc_lines.specs.Sentences.{filled, piece_text, pieces_from_key}

-- a sentence filled from within a key on, of which these bytes came before
abbrev filled_from_key : (text_of : List ℕ → List ℕ) → (key sentence : List ℕ) → List ℕ
filled_from_key text_of key sentence = flat_map (piece_text text_of) (pieces_from_key key sentence)

-- ---- words up to a brace, or to the end

-- by whether the first byte is an opening brace
filled-words_by : (text_of : List ℕ → List ℕ) (b : ℕ) (bs : List ℕ) (t : Bool) → (b == 123) ≡ t
    → (position_or_len (λ c. c == 123) bs < length bs
    → filled text_of bs ≡ before_first (λ c. c == 123) bs
    ++ filled_from_key text_of [] (after_first (λ c. c == 123) bs))
    → position_or_len (λ c. c == 123) (b ∷ bs) < length (b ∷ bs)
    → filled text_of (b ∷ bs) ≡ before_first (λ c. c == 123) (b ∷ bs)
    ++ filled_from_key text_of [] (after_first (λ c. c == 123) (b ∷ bs))
filled-words_by text_of b bs true is more within = rw is refl
filled-words_by text_of b bs false is more within =
    let inside = rw is at within in
    let n = position_or_len (λ c. c == 123) bs in
    let one : 1 + n ≡ suc n = omega arith in
    let two : suc n + 1 ≡ suc (n + 1) = omega arith in
    rw (is, one, two) (ap (λ (l : List ℕ). b ∷ l) (more (omega (arith, inside))))

-- what is before the first opening brace stays, and a key begins after it
pub filled-words : (text_of : List ℕ → List ℕ) (s : List ℕ)
    → position_or_len (λ c. c == 123) s < length s
    → filled text_of s ≡ before_first (λ c. c == 123) s
    ++ filled_from_key text_of [] (after_first (λ c. c == 123) s)
filled-words text_of [] within = absurd (omega arith)
filled-words text_of (b ∷ bs) within =
    filled-words_by text_of b bs (b == 123) refl (filled-words text_of bs) within

-- by whether the first byte is an opening brace
filled-all_by : (text_of : List ℕ → List ℕ) (b : ℕ) (bs : List ℕ) (t : Bool) → (b == 123) ≡ t
    → (position_or_len (λ c. c == 123) bs ≡ length bs → filled text_of bs ≡ bs)
    → position_or_len (λ c. c == 123) (b ∷ bs) ≡ length (b ∷ bs) → filled text_of (b ∷ bs) ≡ b ∷ bs
filled-all_by text_of b bs true is more none = let wrong = rw is at none in absurd (omega (arith, wrong))
filled-all_by text_of b bs false is more none =
    let further = rw is at none in
    rw is (ap (λ (l : List ℕ). b ∷ l) (more (omega (arith, further))))

-- a sentence without an opening brace stays as it is
pub filled-all : (text_of : List ℕ → List ℕ) (s : List ℕ)
    → position_or_len (λ c. c == 123) s ≡ length s → filled text_of s ≡ s
filled-all text_of [] none = refl
filled-all text_of (b ∷ bs) none = filled-all_by text_of b bs (b == 123) refl (filled-all text_of bs) none

-- ---- a key up to its brace

-- by whether the first byte closes the key
filled_from_key-closed_by : (text_of : List ℕ → List ℕ) (key : List ℕ) (b : ℕ) (bs : List ℕ) (t : Bool)
    → (b == 125) ≡ t
    → ((k : List ℕ) → position_or_len (λ c. c == 125) bs < length bs
    → filled_from_key text_of k bs ≡ text_of (k ++ before_first (λ c. c == 125) bs)
    ++ filled text_of (after_first (λ c. c == 125) bs))
    → position_or_len (λ c. c == 125) (b ∷ bs) < length (b ∷ bs)
    → filled_from_key text_of key (b ∷ bs) ≡ text_of (key ++ before_first (λ c. c == 125) (b ∷ bs))
    ++ filled text_of (after_first (λ c. c == 125) (b ∷ bs))
filled_from_key-closed_by text_of key b bs true is more within = rw (is, append-nil key) refl
filled_from_key-closed_by text_of key b bs false is more within =
    let inside = rw is at within in
    let n = position_or_len (λ c. c == 125) bs in
    let one : 1 + n ≡ suc n = omega arith in
    let two : suc n + 1 ≡ suc (n + 1) = omega arith in
    rw (is, one, two) (more (key ++ b ∷ []) (omega (arith, inside))
    ∙ ap (λ (k : List ℕ). text_of k ++ filled text_of (after_first (λ c. c == 125) bs))
    (append_assoc key (b ∷ []) (before_first (λ c. c == 125) bs)))

-- a key that is closed gives its text, and the sentence goes on after its brace
pub filled_from_key-closed : (text_of : List ℕ → List ℕ) (key s : List ℕ)
    → position_or_len (λ c. c == 125) s < length s
    → filled_from_key text_of key s ≡ text_of (key ++ before_first (λ c. c == 125) s)
    ++ filled text_of (after_first (λ c. c == 125) s)
filled_from_key-closed text_of key [] within = absurd (omega arith)
filled_from_key-closed text_of key (b ∷ bs) within =
    filled_from_key-closed_by text_of key b bs (b == 125) refl (λ k. filled_from_key-closed text_of k bs)
    within

-- by whether the first byte closes the key
filled_from_key-open_by : (text_of : List ℕ → List ℕ) (key : List ℕ) (b : ℕ) (bs : List ℕ) (t : Bool)
    → (b == 125) ≡ t
    → ((k : List ℕ) → position_or_len (λ c. c == 125) bs ≡ length bs → filled_from_key text_of k bs ≡ [])
    → position_or_len (λ c. c == 125) (b ∷ bs) ≡ length (b ∷ bs) → filled_from_key text_of key (b ∷ bs) ≡ []
filled_from_key-open_by text_of key b bs true is more none =
    let wrong = rw is at none in absurd (omega (arith, wrong))
filled_from_key-open_by text_of key b bs false is more none =
    let further = rw is at none in rw is (more (key ++ b ∷ []) (omega (arith, further)))

-- a key that is never closed gives nothing
pub filled_from_key-open : (text_of : List ℕ → List ℕ) (key s : List ℕ)
    → position_or_len (λ c. c == 125) s ≡ length s → filled_from_key text_of key s ≡ []
filled_from_key-open text_of key [] none = refl
filled_from_key-open text_of key (b ∷ bs) none =
    filled_from_key-open_by text_of key b bs (b == 125) refl (λ k. filled_from_key-open text_of k bs) none

-- ---- a step: words, and a key with its braces

-- a brace that isn't closed ends the text
pub filled-open : (text_of : List ℕ → List ℕ) (s words behind : List ℕ)
    → words ≡ before_first (λ c. c == 123) s → behind ≡ after_first (λ c. c == 123) s
    → position_or_len (λ c. c == 123) s < length s
    → position_or_len (λ c. c == 125) behind ≡ length behind → filled text_of s ≡ words
filled-open text_of s words behind is_words is_behind within none =
    filled-words text_of s within
    ∙ ap₂ (λ (w b : List ℕ). w ++ filled_from_key text_of [] b) (sym is_words) (sym is_behind)
    ∙ ap (λ (l : List ℕ). words ++ l) (filled_from_key-open text_of [] behind none) ∙ append-nil words

-- a sentence with a key: the words before it, the key's text, and the rest filled
pub filled-key : (text_of : List ℕ → List ℕ) (s words behind key after : List ℕ)
    → words ≡ before_first (λ c. c == 123) s → behind ≡ after_first (λ c. c == 123) s
    → position_or_len (λ c. c == 123) s < length s
    → key ≡ before_first (λ c. c == 125) behind → after ≡ after_first (λ c. c == 125) behind
    → position_or_len (λ c. c == 125) behind < length behind
    → filled text_of s ≡ words ++ (text_of key ++ filled text_of after)
filled-key text_of s words behind key after is_words is_behind within is_key is_after closed =
    filled-words text_of s within
    ∙ ap₂ (λ (w b : List ℕ). w ++ filled_from_key text_of [] b) (sym is_words) (sym is_behind)
    ∙ ap (λ (l : List ℕ). words ++ l) (filled_from_key-closed text_of [] behind closed
    ∙ ap₂ (λ (k a : List ℕ). text_of k ++ filled text_of a) (sym is_key) (sym is_after))
