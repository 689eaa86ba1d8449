use Rattle.std.proofs.Common.{◌∙◌}
use Rattle.mc_topology.specs.Lookup.{is_interface_of, interface_row}
use Rattle.mc_topology.proofs.InterfaceKeys.{is_interface_of-interface_row}
use Rattle.mc_topology.proofs.Keyed.{is_some_lookup-any_row}
use Rattle.mc_topology.proofs.interfaces.Interfaces.has.Goals as goal

-- Keys are equal exactly if the router and the device are, so that the map has the key exactly if some
-- row has both.
pub returns : goal.returns
returns c =
    let key = c.args.key.now in
    let any =
    is_some_lookup-any_row interface_row _ (is_interface_of key.router key.device.items)
    (is_interface_of-interface_row key)
    c.self.inside.lans.entries in
    rw (← c.self.view_is) (c.contains_key.ensures ∙ any)
