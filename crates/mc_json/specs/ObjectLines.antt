-- JSON objects that are built member by member, and texts that are sequences of lines with an object each,
-- none of which is the line of the verdict (docs/FORMATS.md, "What `audit --json` writes").
use Rattle.std.specs.Prelude.{◌≡◌, ◌≢◌, ℕ, List, ◌++◌, codes, flat_map, IfOk}
use Rattle.serde_json.specs.Data.{Members}
use Rattle.serde_json.specs.View.{members_view}
use Rattle.mc_theory.specs.Lists.{In}
use Rattle.mc_shown.specs.Indented.{HasNoLineFeed}
use Rattle.mc_shown.specs.UnlistedLines.{with_line_feed}
use Rattle.mc_json.specs.declared.fields.Fields.{Fields}

-- The fields that were built have these members, unless an allocation failed.
abbrev pub HasMembers : Fields → Members → Type 0
HasMembers fields members = IfOk fields.built (λ map. members_view map.entries ≡ members)

-- The line begins with a brace and a quote.
abbrev pub BeginsObject : List ℕ → Type 0
BeginsObject line = (rest : List ℕ) × (line ≡ codes "{\"" ++ rest)

-- The line doesn't begin as the verdict's line does.
abbrev pub IsNotVerdict : List ℕ → Type 0
IsNotVerdict line = (rest : List ℕ) → line ≢ codes "{\"verdict\"" ++ rest

-- The text is a sequence of lines, each of which begins an object that isn't the verdict's, and ends with its
-- only line feed.
pub record AreObjectLines (text : List ℕ) : Type 0 where
  pub lines : List (List ℕ)
  pub begins : (line : List ℕ) → In line lines → BeginsObject line
  pub other : (line : List ℕ) → In line lines → IsNotVerdict line
  pub feedless : (line : List ℕ) → In line lines → HasNoLineFeed line
  pub spelled : text ≡ flat_map with_line_feed lines
