-- The lines of a search about routers that expect copies from a LAN, as the incoming vif of their entry is
-- placed on it (docs/FORMATS.md, "The search": the line `expected from here by`).
use Rattle.std.specs.Prelude.{◌==◌, ℕ, zero, suc, Bool, false, List, [], ◌∷◌, if◌then◌else◌}
use Rattle.mc_search.specs.declared.search_line.SearchLine.{SearchLine}
use Rattle.mc_search.specs.declared.search_line.SearchLine.TheVariants.{ExpectedFromHere}

-- the routers that expect copies, by these lines
abbrev pub expecting_routers : List SearchLine → List ℕ
expecting_routers [] = []
expecting_routers (ExpectedFromHere lan router ∷ lines) = router ∷ expecting_routers lines
expecting_routers (_ ∷ lines) = expecting_routers lines

-- whether a line is about a router that expects copies from this LAN
abbrev pub expects_from : (lan : ℕ) → SearchLine → Bool
expects_from lan (ExpectedFromHere own router) = own == lan
expects_from lan _ = false

-- how many lines at the front are about routers that expect copies from this LAN
abbrev pub leading_expected : (lan : ℕ) → List SearchLine → ℕ
leading_expected lan [] = zero
leading_expected lan (line ∷ lines) = if expects_from lan line then suc (leading_expected lan lines) else zero
