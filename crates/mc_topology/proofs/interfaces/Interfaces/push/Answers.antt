use Rattle.std.proofs.Common.{◌≡◌, ◌≤◌, false, map, length, refl, sym, ap, subst, ◌∙◌}
use Rattle.std.proofs.lemmas.List.Elements.{All-push}
use Rattle.mc_topology.specs.Lookup.{has_interface, interface_row, HaveShortDevices}
use Rattle.mc_topology.specs.SectionRows.{InterfaceRow}
use Rattle.mc_topology.proofs.InterfaceKeys.{interface_rows-insert_new}
use Rattle.mc_topology.proofs.interfaces.Interfaces.push.Goals as goal

-- No row has the new key, so that the map puts it behind the others.
pub returns-clause-added : goal.returns-clause-added
returns-clause-added c =
    rw c.in_ok-insert.ensures.entries
    (interface_rows-insert_new c.self.inside.lans c.args.key c.args.lan c.args.self.now c.self.view_is
    c.requires.new)

-- The devices before were short, and the new one is.
pub invariant_of-self-2 : goal.invariant_of-self-2
invariant_of-self-2 c =
    let rows = map interface_row c.self.inside.lans.entries in
    let new : has_interface c.args.key.router c.args.key.device.items rows ≡ false =
    rw c.self.view_is c.requires.new in
    let pushed = interface_rows-insert_new c.self.inside.lans c.args.key c.args.lan rows refl new in
    let all = ap (map interface_row) c.in_ok-insert.ensures.entries ∙ pushed in
    subst HaveShortDevices (sym all)
    (All-push (λ (i : InterfaceRow). length i.device ≤ 15) rows
    (interface_row (c.args.key, c.args.lan))
    c.self.invariant c.requires.short)
