use Rattle.std.proofs.Common.{◌≡◌, map, take}
use Rattle.serde_json.specs.View.{view as data_of}
use Rattle.mc_forward.specs.Domains.{oif_pairs}
use Rattle.mc_forward.specs.ListedTables.{facts}
use Rattle.mc_json.specs.RowData.{oif_data}
use Rattle.mc_json.proofs.row_values.oif_values.Given as goal

-- the pairs so far
abbrev pub invariant-loop-oif : goal.invariant-loop-oif
invariant-loop-oif l =
    map data_of l.values.items
    ≡ map (oif_data (facts l.view.domain) l.router) (oif_pairs (take l.oif-index l.oifs))
