use Rattle.std.proofs.Common.{◌∙◌}
use Rattle.std.specs.Prelude.{string_bytes}
use Rattle.std.specs.Str.{bytes_eq}
use Rattle.mc_topology.proofs.Keyed.{list_any-map_row}
use Rattle.mc_topology.proofs.InsertedRows.{bytes_eq-lan_name}
use Rattle.mc_topology.proofs.lans.Lans.has.Goals as goal

-- Two names are equal exactly if their bytes are, so that the set has the name exactly if some LAN
-- does.
pub returns : goal.returns
returns c =
    let name = c.args.name.now in
    rw (← c.self.view_is)
    (c.contains.ensures ∙ list_any-map_row string_bytes _ (λ x. bytes_eq x name)
    (bytes_eq-lan_name name) c.self.inside.names.keys)
