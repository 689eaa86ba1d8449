-- A router's rows for the flows, as they are stored: each by its head, and apart from it its
-- outgoing vifs.
use Rattle.std.specs.Prelude.{List, map}
use Rattle.mc_tables.specs.declared.cache.entry.Oif.{Oif}
use Rattle.mc_theory.specs.Nets.{Row}
use Rattle.mc_theory.specs.Nets.Row.{Exact as exact, Open as open_row, NoRow as no_row}
use Rattle.mc_forward.specs.declared.flow_rows.RowHead.{RowHead}
use Rattle.mc_forward.specs.declared.flow_rows.RowHead.TheVariants.{Exact, Open, NoRow}
use Rattle.mc_forward.specs.Domains.{oif_pairs}

-- the row of a head and these outgoing vifs
abbrev pub row_with : RowHead × List Oif → Row
row_with (Exact iif, oifs) = exact iif (oif_pairs oifs)
row_with (Open, oifs) = open_row
row_with (NoRow, oifs) = no_row

-- the rows of heads, each with its outgoing vifs
abbrev pub rows_of : List (RowHead × List Oif) → List Row
rows_of lists = map row_with lists
