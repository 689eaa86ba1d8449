use Rattle.std.proofs.Common.{◌∙◌, sym, refl, map}
use Rattle.mc_topology.specs.Lookup.{is_interface_of, interface_row}
use Rattle.mc_topology.proofs.InterfaceKeys.{is_interface_of-interface_row, lan_of_interface-long_device}
use Rattle.mc_topology.proofs.Keyed.{lookup-find_row}
use Rattle.mc_topology.proofs.interfaces.Interfaces.lan_of.Goals as goal

-- The name is too long to be a device's, and each device's name is short enough, so that no interface
-- has it.
pub returns-in_err-key : goal.returns-in_err-key
returns-in_err-key c =
    let rows = map interface_row c.self.inside.lans.entries in
    let none =
    lan_of_interface-long_device rows c.args.router c.args.device.now _ c.self.invariant c.in_err-key.ensures
    refl in
    rw (← c.self.view_is) (c.from_residual.ensures ∙ sym none)

-- The map lacks the key exactly where no row has the router and the device.
pub returns-in_err-lan : goal.returns-in_err-lan
returns-in_err-lan c =
    let key = c.in_ok-key.key in
    let (router, device, short) = c.in_ok-key.ensures in
    let value =
    lookup-find_row interface_row _ (is_interface_of key.router key.device.items)
    (is_interface_of-interface_row key)
    (λ i. i.lan) (λ e. refl) c.self.inside.lans.entries in
    rw (← c.self.view_is, ← router, ← device)
    (c.from_residual-in_err-lan.ensures ∙ (c.in_err-lan.ensures.value ∙ value))

-- The map has under the key what the first row with the router and the device has.
pub returns : goal.returns
returns c =
    let key = c.in_ok-key.key in
    let (router, device, short) = c.in_ok-key.ensures in
    let value =
    lookup-find_row interface_row _ (is_interface_of key.router key.device.items)
    (is_interface_of-interface_row key)
    (λ i. i.lan) (λ e. refl) c.self.inside.lans.entries in
    rw (← c.self.view_is, ← router, ← device) (c.in_ok-lan.ensures.value ∙ value)
