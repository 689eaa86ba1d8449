-- The lines of an audit about the routers that `--without` excludes (docs/FORMATS.md, the section "The
-- program").
use Rattle.std.specs.Prelude.{◌≡◌, ℕ, Bool, List, [], ◌∷◌, ◌++◌, length, codes, filter, flat_map}
use Rattle.mc_topology.specs.Topology.{TopologyValue, router_name}
use Rattle.mc_theory.specs.Lists.{below}
use Rattle.mc_shown.specs.ShownNames.{routers_text}
use Rattle.mc_search.specs.SearchLine.{is_excluded}
use Rattle.mc_shown.specs.UnlistedLines.{AreLines}

-- the routers that are marked as excluded, in order
abbrev pub excluded_routers : TopologyValue → List Bool → List ℕ
excluded_routers topology marks = filter (is_excluded marks) (below (length topology.routers))

-- ---- a line for each

-- the line of an excluded router
abbrev pub excluded_line : TopologyValue → (router : ℕ) → List ℕ
excluded_line topology router = codes "excluded " ++ (router_name topology router ++ codes "\n")

-- the lines of all excluded routers
abbrev pub excluded_lines : TopologyValue → List Bool → List ℕ
excluded_lines topology marks = flat_map (excluded_line topology) (excluded_routers topology marks)

-- The line begins with `excluded `.
abbrev pub IsExcludedLine : List ℕ → Type 0
IsExcludedLine line = (rest : List ℕ) × (line ≡ codes "excluded " ++ rest)

-- The text is a sequence of such lines.
abbrev pub AreExcludedLines : List ℕ → Type 0
AreExcludedLines = AreLines IsExcludedLine

-- ---- one line for all

-- why the verdict is no: these routers are excluded; nothing if there are none
abbrev pub verdict_reason : TopologyValue → (routers : List ℕ) → List ℕ
verdict_reason topology [] = []
verdict_reason topology (router ∷ routers) =
    codes "  excluded:" ++ (routers_text topology (router ∷ routers)
    ++ codes ": the verdict is no; a yes requires all routers\n")

-- why the verdict is no, by a mark for each router; nothing if none is excluded
abbrev pub excluded_text : TopologyValue → List Bool → List ℕ
excluded_text topology marks = verdict_reason topology (excluded_routers topology marks)
