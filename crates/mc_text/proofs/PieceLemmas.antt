-- The lines of a text that comes in pieces.
use Rattle.std.proofs.Common.{◌≡◌, ℕ, ◌+◌, ◌≤◌, true, eqb, List, ◌∷◌, ◌++◌, length, take, drop, Some}
use Rattle.std.proofs.Common.{refl, sym, ap, ◌∙◌, arith, append_assoc}
use Rattle.std.specs.Prelude.{position}
use Rattle.std.specs.List.{slice_split}
use Rattle.std.proofs.lemmas.List.Quantifiers.{position-Some}
use Rattle.std.proofs.lemmas.List.Splits.{length-slice_split}
use Rattle.mc_text.specs.Lines.{numbered, lines_from, HasNoLineFeed}
use Rattle.mc_text.proofs.Searches.{slice_split-append_passing}
use Rattle.mc_text.proofs.ByteLemmas.{HasNoByte-append, split_at_byte}
use Rattle.mc_text.proofs.LineLemmas.{HasNoByte-take_position, numbered-more}

-- the place of the first line feed is within the text
pub position-within_length : (text : List ℕ) (end : ℕ) → position (λ b. eqb b 10) text ≡ Some end
    → end + 1 ≤ length text
position-within_length text end found =
    let at = position-Some (λ b. eqb b 10) text end 0 found in omega (arith, at.0)

-- a text is the bytes before its first line feed, the line feed, and the bytes after it
split_at_line_feed : (text : List ℕ) (end : ℕ) → position (λ b. eqb b 10) text ≡ Some end
    → text ≡ take end text ++ 10 ∷ drop (end + 1) text
split_at_line_feed text end found =
    let at = position-Some (λ b. eqb b 10) text end 0 found in split_at_byte 10 text end at.0 at.1

-- bytes without a line feed, and then one, are the first line
lines_from-line_and_rest : (n : ℕ) (line rest : List ℕ) → HasNoLineFeed line
    → lines_from n (line ++ 10 ∷ rest)
    ≡ record { number = n; bytes = line; ended = true } ∷ lines_from (n + 1) rest
lines_from-line_and_rest n line rest none =
    let parts = slice_split-append_passing (λ b. eqb b 10) line 10 rest none refl in
    let more = length-slice_split (λ b. eqb b 10) rest in
    ap (numbered n) parts
    ∙ numbered-more n line (slice_split (λ b. eqb b 10) rest) (omega (arith, more))

-- The first of the lines to come, if one has begun and the next bytes have a line feed.
pub lines_from-first_ended : (n : ℕ) (begun rest more : List ℕ) (end : ℕ) → HasNoLineFeed begun
    → position (λ b. eqb b 10) rest ≡ Some end
    → lines_from n (begun ++ (rest ++ more))
    ≡ record { number = n; bytes = begun ++ take end rest; ended = true }
    ∷ lines_from (n + 1) (drop (end + 1) rest ++ more)
lines_from-first_ended n begun rest more end none found =
    let line = begun ++ take end rest in
    let parted : begun ++ (rest ++ more) ≡ line ++ 10 ∷ (drop (end + 1) rest ++ more) =
    ap (λ r. begun ++ (r ++ more)) (split_at_line_feed rest end found)
    ∙ ap (λ r. begun ++ r) (append_assoc (take end rest) (10 ∷ drop (end + 1) rest) more)
    ∙ sym (append_assoc begun (take end rest) (10 ∷ (drop (end + 1) rest ++ more))) in
    ap (lines_from n) parted
    ∙ lines_from-line_and_rest n line (drop (end + 1) rest ++ more)
    (HasNoByte-append 10 begun (take end rest) none (HasNoByte-take_position 10 rest end found))
