-- The lines of a text, which line feeds separate, numbered from 1; and the words of a line, which
-- spaces separate.
use Rattle.std.specs.Prelude.{◌≡◌, ℕ, ◌+◌, ◌<◌, ◌==◌, IsTrue, MatchBool, Bool, true, false, List}
use Rattle.std.specs.Prelude.{[], ◌∷◌, ◌++◌, length, if◌then◌else◌}
use Rattle.std.specs.List.{slice_split, flat_map, AllByRecursion}
use Rattle.std.specs.Prelude.{not, filter}

-- none of the bytes is `byte`
abbrev pub HasNoByte : ℕ → List ℕ → Type 0
HasNoByte byte bytes = AllByRecursion (λ each. (each == byte) ≡ false) bytes

-- none of the bytes is a line feed
abbrev pub HasNoLineFeed : List ℕ → Type 0
HasNoLineFeed bytes = HasNoByte 10 bytes

-- the most bytes of a text that is read as lines
abbrev pub max_text : ℕ
max_text = 16777216

-- a line: its number, its bytes, and whether a line feed ends it
pub record LineText : Type 0 where
  pub number : ℕ
  pub bytes : List ℕ
  pub ended : Bool

-- The lines that the parts between line feeds are, of which the first has this number. A line feed
-- ends each but the last; the last is a line only if it has bytes.
abbrev pub numbered : (number : ℕ) → (parts : List (List ℕ)) → List LineText
numbered number [] = []
numbered number (part ∷ []) =
    if length part == 0 then [] else record { number = number; bytes = part; ended = false } ∷ []
numbered number (part ∷ next ∷ more) =
    record { number = number; bytes = part; ended = true } ∷ numbered (number + 1) (next ∷ more)

-- the lines of a text, of which the first has this number
abbrev pub lines_from : (number : ℕ) → (text : List ℕ) → List LineText
lines_from number text = numbered number (slice_split (λ byte. byte == 10) text)

-- the lines of a text, numbered from 1
abbrev pub lines_of : List ℕ → List LineText
lines_of text = lines_from 1 text

-- how a line is written: its bytes, and its line feed if one ends it
abbrev pub spelling : LineText → List ℕ
spelling line = if line.ended then line.bytes ++ 10 ∷ [] else line.bytes

-- the text of these lines, one after another
abbrev pub join_lines : List LineText → List ℕ
join_lines lines = flat_map spelling lines

-- a line feed ends each line but the last, and a last line that none ends has bytes
abbrev pub OnlyLastMayBeUnended : List LineText → Type 0
OnlyLastMayBeUnended [] = Unit {0}
OnlyLastMayBeUnended (line ∷ []) = MatchBool line.ended (Unit {0}) (0 < length line.bytes)
OnlyLastMayBeUnended (line ∷ next ∷ more) = IsTrue line.ended × OnlyLastMayBeUnended (next ∷ more)

-- the words of a line: its longest stretches without a space, in order
abbrev pub words_of : List ℕ → List (List ℕ)
words_of line = filter (λ part. not (length part == 0)) (slice_split (λ byte. byte == 32) line)
