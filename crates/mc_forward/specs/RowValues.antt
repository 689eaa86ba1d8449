-- The rows that a domain's look-ups answer, and those of the theory (`Nets` of mc_theory) that they
-- are.
use Rattle.std.specs.Prelude.{◌≡◌, ℕ, List, Some, slice_get}
use Rattle.mc_tables.specs.CacheTable.{IsValidEntry}
use Rattle.mc_theory.specs.Nets.{Net, Row}
use Rattle.mc_theory.specs.Nets.Row.{Exact as exact, Open as open_row, NoRow as no_row}
use Rattle.mc_forward.specs.declared.row.RowFor.{RowFor}
use Rattle.mc_forward.specs.declared.row.RowFor.TheVariants.{Exact, Open, NoRow}
use Rattle.mc_forward.specs.Domains.{oif_pairs}

-- what an answered row is in the theory
abbrev pub row_value : RowFor → Row
row_value (Exact entry) = exact entry.iif (oif_pairs entry.oifs)
row_value Open = open_row
row_value NoRow = no_row

-- the (S,G) entry of an answered row, if it has one, is one that a kernel may have
abbrev pub HasValidEntry : RowFor → Type 0
HasValidEntry (Exact entry) = IsValidEntry entry
HasValidEntry Open = Unit {0}
HasValidEntry NoRow = Unit {0}

-- each of these rows is that of the router with its number, and its (S,G) entry, if it has one, one
-- that a kernel may have
abbrev pub AreRowsOf : Net → List RowFor → Type 0
AreRowsOf net rows = (router : ℕ) (row : RowFor) → slice_get rows router ≡ Some row
    → (row_value row ≡ net.row router) × HasValidEntry row
