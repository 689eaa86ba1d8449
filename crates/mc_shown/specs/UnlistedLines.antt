-- Texts that are sequences of lines with a common beginning, such as the lines `unlisted` of an audit
-- (docs/FORMATS.md, the section "The program"), of which none is the line of a flow.
use Rattle.std.specs.Prelude.{◌≡◌, ◌⊎◌, ℕ, List, ◌++◌, codes, flat_map}
use Rattle.mc_theory.specs.Lists.{In}
use Rattle.mc_shown.specs.Indented.{HasNoLineFeed}

-- a line with a line feed after it
abbrev pub with_line_feed : List ℕ → List ℕ
with_line_feed line = line ++ codes "\n"

-- The text is a sequence of lines, each of which begins in this manner and ends with its only line feed.
pub record AreLines (Begins : List ℕ → Type 0) (text : List ℕ) : Type 0 where
  pub lines : List (List ℕ)
  pub begins : (line : List ℕ) → In line lines → Begins line
  pub feedless : (line : List ℕ) → In line lines → HasNoLineFeed line
  pub spelled : text ≡ flat_map with_line_feed lines

-- The line begins with `unlisted ` or with two spaces.
abbrev pub IsUnlistedLine : List ℕ → Type 0
IsUnlistedLine line =
    (rest : List ℕ) × ((line ≡ codes "unlisted " ++ rest) ⊎ (line ≡ codes "  " ++ rest))

-- The text is a sequence of such lines.
abbrev pub AreUnlistedLines : List ℕ → Type 0
AreUnlistedLines = AreLines IsUnlistedLine
