-- Lines that explain the line above them (docs/FORMATS.md, the section "The program"): each begins with two
-- spaces, so none is the line of a flow.
use Rattle.std.specs.Prelude.{◌≡◌, ◌==◌, ℕ, not, IsTrue, List, ◌++◌, codes, flat_map}
use Rattle.std.specs.List.{list_all}
use Rattle.mc_theory.specs.Lists.{In}

-- the text has no line feed
abbrev pub HasNoLineFeed : List ℕ → Type 0
HasNoLineFeed text = IsTrue (list_all (λ byte. not (byte == 10)) text)

-- a line, with two spaces before it and a line feed after it
abbrev pub indented : List ℕ → List ℕ
indented line = codes "  " ++ (line ++ codes "\n")

-- The text is a sequence of lines, each of which begins with two spaces and ends with its only line feed.
pub record AreIndented (text : List ℕ) : Type 0 where
  pub lines : List (List ℕ)
  pub feedless : (line : List ℕ) → In line lines → HasNoLineFeed line
  pub spelled : text ≡ flat_map indented lines
