-- The lines of a search as they are shown (docs/FORMATS.md, "The search"): adjacent lines about routers that
-- expect copies from the same LAN become one.
use Rattle.std.specs.Prelude.{◌==◌, ℕ, List, [], ◌∷◌, if◌then◌else◌}
use Rattle.mc_search.specs.declared.search_line.SearchLine.{SearchLine}
use Rattle.mc_search.specs.declared.search_line.SearchLine.TheVariants.{ExpectedFromHere}
use Rattle.mc_search.specs.declared.shown_line.ShownLine.{ShownLine}
use Rattle.mc_search.specs.declared.shown_line.ShownLine.TheVariants.{One, Expected}

-- the shown lines, with a router before them that expects copies from a LAN: it joins the first line, if that
-- is about such routers of the same LAN
abbrev pub put_expected : (lan router : ℕ) → List ShownLine → List ShownLine
put_expected lan router (Expected next routers ∷ lines) =
    if next == lan then Expected lan (router ∷ routers) ∷ lines
    else Expected lan (router ∷ []) ∷ Expected next routers ∷ lines
put_expected lan router lines = Expected lan (router ∷ []) ∷ lines

-- the shown lines with any line before them
abbrev pub put_line : SearchLine → List ShownLine → List ShownLine
put_line (ExpectedFromHere lan router) lines = put_expected lan router lines
put_line line lines = One line ∷ lines

-- all lines as they are shown
abbrev pub shown_lines : List SearchLine → List ShownLine
shown_lines [] = []
shown_lines (line ∷ lines) = put_line line (shown_lines lines)
