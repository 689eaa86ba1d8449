-- The lines of a text, between line feeds, and the words of a line, between spaces.
use Rattle.std.proofs.Common.{◌≡◌, ℕ, ◌+◌, ◌<◌, ◌≤◌, Bool, true, false, not, eqb, cond, List}
use Rattle.std.proofs.Common.{[], ◌∷◌, length, take, drop, get_or, Option, Some, None, unwrap_or}
use Rattle.std.proofs.Common.{refl, sym, ap, ◌∙◌, arith, append_assoc, length-take}
use Rattle.std.specs.Prelude.{position}
use Rattle.std.specs.List.{slice_split, onto_first, join_with_byte, position_or_len, AllByRecursion}
use Rattle.std.proofs.lemmas.Bool.{not-true}
use Rattle.std.proofs.lemmas.Bool.Decides.{nat_tests}
use Rattle.std.proofs.lemmas.Option.{cond_some}
use Rattle.std.proofs.lemmas.List.{append-nil, take_all, drop_all, drop_more}
use Rattle.std.proofs.lemmas.List.Concat.{flat_map-cons}
use Rattle.std.proofs.lemmas.List.Quantifiers.{position-Some}
use Rattle.std.proofs.lemmas.List.Splits.{length-slice_split}
use Rattle.std.proofs.lemmas.List.Splits.{join_with_byte-slice_split}
use Rattle.mc_text.specs.Lines.{numbered, lines_from, lines_of, join_lines, HasNoByte, HasNoLineFeed}
use Rattle.mc_text.specs.Lines.{OnlyLastMayBeUnended}
use Rattle.mc_text.specs.Lines.{words_of}
use Rattle.mc_text.proofs.Searches.{none_passes-from_position, none_passes-take_position}
use Rattle.mc_text.proofs.Searches.{slice_split-found, slice_split-none_passes, slice_split-not_found}

-- the length of a nonempty text is not zero, as a test
length-not_zero : (text : List ℕ) → 0 < length text → eqb (length text) 0 ≡ false
length-not_zero text some = grind (arith, nat_tests)

-- a text in which the byte isn't found doesn't have it
pub HasNoByte-from_position : (c : ℕ) (text : List ℕ) → position (λ b. eqb b c) text ≡ None
    → HasNoByte c text
HasNoByte-from_position c text none = none_passes-from_position (λ b. eqb b c) text none

-- the bytes before the first such byte don't have it
pub HasNoByte-take_position : (c : ℕ) (text : List ℕ) (end : ℕ)
    → position (λ b. eqb b c) text ≡ Some end → HasNoByte c (take end text)
HasNoByte-take_position c text end found = none_passes-take_position (λ b. eqb b c) text 0 end found

-- ---- lines

-- a part with parts after it is an ended line
pub numbered-more : (n : ℕ) (part : List ℕ) (parts : List (List ℕ)) → 0 < length parts
    → numbered n (part ∷ parts) ≡ record { number = n; bytes = part; ended = true }
    ∷ numbered (n + 1) parts
numbered-more n part parts some = grind arith

-- if the first line feed is at `end`, the first line ends there
pub lines_from-line_feed : (n : ℕ) (text : List ℕ) (end : ℕ) → position (λ b. eqb b 10) text ≡ Some end
    → lines_from n text ≡ record { number = n; bytes = take end text; ended = true }
    ∷ lines_from (n + 1) (drop (end + 1) text)
lines_from-line_feed n text end found =
    let more = length-slice_split (λ b. eqb b 10) (drop (end + 1) text) in
    ap (numbered n) (slice_split-found (λ b. eqb b 10) text 0 end found)
    ∙ numbered-more n (take end text) _ (omega (arith, more))

-- a text without a line feed is one line that none ends, if it isn't empty
pub lines_from-unended : (n : ℕ) (text : List ℕ) → HasNoLineFeed text → eqb (length text) 0 ≡ false
    → lines_from n text ≡ record { number = n; bytes = text; ended = false } ∷ []
lines_from-unended n text none some =
    let one = slice_split-none_passes (λ b. eqb b 10) text none in rw (one, some) refl

-- if no line feed is found, the text is such a line
pub lines_from-no_line_feed : (n : ℕ) (text : List ℕ) → position (λ b. eqb b 10) text ≡ None
    → 0 < length text → lines_from n text ≡ record { number = n; bytes = text; ended = false } ∷ []
lines_from-no_line_feed n text none some =
    lines_from-unended n text (HasNoByte-from_position 10 text none) (length-not_zero text some)

-- a nonempty last part is a line that none ends
numbered-last : (n b : ℕ) (part : List ℕ) → numbered n ((b ∷ part) ∷ [])
    ≡ record { number = n; bytes = b ∷ part; ended = false } ∷ []
numbered-last n b part = rw (length-not_zero (b ∷ part) (omega arith)) refl

-- the lines of parts join to their text
join_lines-numbered : (n : ℕ) (parts : List (List ℕ))
    → join_lines (numbered n parts) ≡ join_with_byte 10 parts
join_lines-numbered n [] = refl
join_lines-numbered n ([] ∷ []) = refl
join_lines-numbered n ((b ∷ part) ∷ []) = simp (numbered-last, append-nil)
join_lines-numbered n (part ∷ next ∷ more) =
    let rest = join_lines-numbered (n + 1) (next ∷ more) in simp (flat_map-cons, append_assoc, rest)

-- the lines of a text join to it
pub join_lines-lines_of : (text : List ℕ) → join_lines (lines_of text) ≡ text
join_lines-lines_of text =
    join_lines-numbered 1 (slice_split (λ b. eqb b 10) text) ∙ join_with_byte-slice_split 10 text

-- another byte before the first part, or a line feed before it, leaves the parts without line feeds
split-without_line_feed : (b : ℕ) (parts : List (List ℕ)) (t : Bool) → eqb b 10 ≡ t
    → AllByRecursion HasNoLineFeed parts
    → AllByRecursion HasNoLineFeed (cond t ([] ∷ parts) (onto_first b parts))
split-without_line_feed b parts t e whole = grind (arith, nat_tests)

-- the parts between line feeds have no line feed
slice_split-without_line_feed : (text : List ℕ)
    → AllByRecursion HasNoLineFeed (slice_split (λ b. eqb b 10) text)
slice_split-without_line_feed [] = (tt, tt)
slice_split-without_line_feed (b ∷ text) =
    split-without_line_feed b _ (eqb b 10) refl (slice_split-without_line_feed text)

-- the lines of such parts have no line feed
numbered-no_line_feed : (n : ℕ) (parts : List (List ℕ)) → AllByRecursion HasNoLineFeed parts
    → AllByRecursion (λ line. HasNoLineFeed line.bytes) (numbered n parts)
numbered-no_line_feed n [] whole = tt
numbered-no_line_feed n ([] ∷ []) whole = tt
numbered-no_line_feed n ((b ∷ part) ∷ []) whole = rw (numbered-last n b part) whole
numbered-no_line_feed n (part ∷ next ∷ more) whole =
    (whole.0, numbered-no_line_feed (n + 1) (next ∷ more) whole.1)

-- the lines of a text have no line feed
pub lines_of-no_line_feed : (text : List ℕ)
    → AllByRecursion (λ line. HasNoLineFeed line.bytes) (lines_of text)
lines_of-no_line_feed text = numbered-no_line_feed 1 _ (slice_split-without_line_feed text)

-- only the last line of parts may be unended
numbered-only_last_unended : (n : ℕ) (parts : List (List ℕ)) → OnlyLastMayBeUnended (numbered n parts)
numbered-only_last_unended n [] = tt
numbered-only_last_unended n ([] ∷ []) = tt
numbered-only_last_unended n ((b ∷ part) ∷ []) = rw (numbered-last n b part) (omega arith)
numbered-only_last_unended n (part ∷ [] ∷ []) = tt
numbered-only_last_unended n (part ∷ (b ∷ next) ∷ []) = rw (numbered-last (n + 1) b next) (refl, omega arith)
numbered-only_last_unended n (part ∷ next ∷ third ∷ more) =
    (refl, numbered-only_last_unended (n + 1) (next ∷ third ∷ more))

-- only the last line of a text may be unended
pub lines_of-only_last_unended : (text : List ℕ) → OnlyLastMayBeUnended (lines_of text)
lines_of-only_last_unended text = numbered-only_last_unended 1 (slice_split (λ b. eqb b 10) text)

-- ---- words

-- whether a byte is not a space
abbrev is_in_word : ℕ → Bool
is_in_word b = not (eqb b 32)

-- a space before a line changes no word
words_of-drop_space : (b : ℕ) (line : List ℕ) (t : Bool) → eqb b 32 ≡ t
    → words_of (drop (position_or_len is_in_word line) line) ≡ words_of line
    → words_of (drop (position_or_len is_in_word (b ∷ line)) (b ∷ line)) ≡ words_of (b ∷ line)
words_of-drop_space b line t e later = grind (arith, nat_tests)

-- spaces before a line change no word
words_of-drop_spaces : (line : List ℕ)
    → words_of (drop (position_or_len is_in_word line) line) ≡ words_of line
words_of-drop_spaces [] = refl
words_of-drop_spaces (b ∷ line) = words_of-drop_space b line (eqb b 32) refl (words_of-drop_spaces line)

-- the first word of a line that begins with a word ends at the next space, or at the line's end
words_of-at_word : (line : List ℕ) (o : Option ℕ) → position (λ b. eqb b 32) line ≡ o → 0 < length line
    → eqb (get_or line 0 0) 32 ≡ false
    → words_of line ≡ take (unwrap_or o (length line)) line
    ∷ words_of (drop (unwrap_or o (length line)) line)
words_of-at_word line None none some begins =
    let whole = take_all (length line) line (omega arith) in
    let past = drop_all (length line) line (omega arith) in
    rw (whole, past, slice_split-not_found (λ b. eqb b 32) line none, length-not_zero line some) refl
words_of-at_word line (Some end) at some begins =
    let space = position-Some (λ b. eqb b 32) line end 0 at in
    let rest : words_of (drop end line) ≡ words_of (drop (end + 1) line) =
    rw (drop_more line end 0 space.0, space.1) refl in
    let within : 0 < end = grind (arith, nat_tests, space) in
    let word = length-not_zero (take end line) (omega (arith, space.0, length-take end line)) in
    rw (slice_split-found (λ b. eqb b 32) line 0 end at, rest, word) refl

-- the first word of a line begins at the first byte that isn't a space, and ends at the next space or at
-- the line's end
pub words_of-word : (line from : List ℕ) (start end : ℕ)
    → position (λ b. not (eqb b 32)) line ≡ Some start → from ≡ drop start line
    → end ≡ unwrap_or (position (λ b. eqb b 32) from) (length from)
    → words_of line ≡ take end from ∷ words_of (drop end from)
words_of-word line from start end found from-is end-is =
    let at = position-Some (λ b. not (eqb b 32)) line start 0 found in
    let byte = from-is ∙ drop_more line start 0 at.0 in
    let begins : eqb (get_or from 0 0) 32 ≡ false = rw byte (not-true _ at.1) in
    let some : 0 < length from = rw byte (omega arith) in
    let skipped = words_of-drop_spaces line in
    rw (← skipped, (cond_some _ _ _ found).1, ← from-is, end-is)
    (words_of-at_word from _ refl some begins)

-- a line of spaces alone has no word
pub words_of-spaces : (line : List ℕ) → position (λ b. not (eqb b 32)) line ≡ None
    → words_of line ≡ []
words_of-spaces line none =
    let past : length line ≤ position_or_len is_in_word line = grind (arith, nat_tests) in
    sym (words_of-drop_spaces line) ∙ ap words_of (drop_all _ line past)
