-- The three counters of a cache's row (packets, bytes, packets from a wrong vif), of which nothing
-- is kept. Only contracts of private functions use these definitions.
use Rattle.std.specs.Prelude.{◌≡◌, ℕ, ◌+◌, ◌<◌, ◌==◌, min, Bool, true, List, [], ◌∷◌, ◌++◌, length}
use Rattle.std.specs.Prelude.{slice_index}
use Rattle.std.specs.Int.{bit_at}
use Rattle.std.specs.Char.{is_ascii_digit}
use Rattle.mc_text.specs.Lines.{words_of}
use Rattle.mc_tables.specs.TableWords.{is_counter}
use Rattle.mc_tables.specs.declared.lines.marked_line.MarkedLine.{MarkedLine}

-- a line's first three words are counters, and its other words are those of the bytes `after` them
pub record HasCounters (line after : List ℕ) : Type 0 where
  pub packets : List ℕ
  pub bytes : List ℕ
  pub wrong_if : List ℕ
  pub words : words_of line ≡ packets ∷ bytes ∷ wrong_if ∷ words_of after
  pub packets_count : is_counter packets ≡ true
  pub bytes_count : is_counter bytes ≡ true
  pub wrong_if_count : is_counter wrong_if ≡ true

-- each bit that is set marks a byte, the one at its place, and that byte passes
abbrev pub AreMarks : (ℕ → Bool) → List ℕ → ℕ → Type 0
AreMarks passes bytes marks =
    (place : ℕ) → bit_at marks place ≡ 1
    → (place < length bytes) × (passes (slice_index bytes place) ≡ true)

-- the bytes that are marked as digits are digits, and those that are marked as spaces are spaces; the
-- line's end counts as one
pub record IsMarked (line : MarkedLine) : Type 0 where
  pub digits : AreMarks is_ascii_digit line.bytes.now line.digits
  pub spaces : AreMarks (λ byte. byte == 32) (line.bytes.now ++ 32 ∷ []) line.spaces

-- the bits of `ends` mark the digits that have a space after them
abbrev pub AreLastDigits : ℕ → ℕ → ℕ → Type 0
AreLastDigits digits spaces ends =
    (place : ℕ) → bit_at ends place ≡ min (bit_at digits place) (bit_at spaces (place + 1))
