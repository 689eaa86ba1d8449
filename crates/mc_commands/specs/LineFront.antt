-- The front of a line of a file, as much of it as is printed where the file is refused (docs/FORMATS.md, the
-- section "The program"), and how it is found in a text that comes in pieces.
use Rattle.std.specs.Prelude.{◌≡◌, ℕ, ◌-◌, ◌==◌, Bool, List, [], ◌++◌, take, if◌then◌else◌}
use Rattle.std.specs.Prelude.{slice_index_or}
use Rattle.std.specs.List.{slice_split}
use Rattle.mc_commands.specs.declared.refusals.line_front.LineFront.{LineFront}

-- ---- the front

-- the bytes of the line that comes after so many line feeds, without the line feed that ends it; no bytes if
-- there is no such line
abbrev pub line_after_feeds : (feeds : ℕ) → List ℕ → List ℕ
line_after_feeds feeds text = slice_index_or (slice_split (λ byte. byte == 10) text) feeds []

-- the first 100 of these bytes, which is how many are printed at most
abbrev pub first_100_bytes : List ℕ → List ℕ
first_100_bytes bytes = take 100 bytes

-- the front of the line with this number, counted from 1
abbrev pub line_front : (line : ℕ) → List ℕ → List ℕ
line_front line text = first_100_bytes (line_after_feeds (line - 1) text)

-- ---- reading it in pieces

-- the front that will have been found when these bytes have come, too
abbrev pub front_after_more : LineFront → (more : List ℕ) → List ℕ
front_after_more s more = first_100_bytes (s.front.items ++ line_after_feeds s.before more)

-- A piece of the text came. If the front is found, it is complete, whatever comes next; otherwise it will be
-- what the new state makes of what comes.
abbrev pub TakesPiece : (old new : LineFront) → (piece : List ℕ) → (found : Bool) → Type 0
TakesPiece old new piece found =
    (more : List ℕ) → front_after_more old (piece ++ more)
    ≡ (if found then new.front.items else front_after_more new more)
