-- Interfaces that are kept by router and device.
use Rattle.std.proofs.Common.{◌≡◌, ℕ, ◌<◌, false, ◌&&◌, List, [], ◌∷◌, ◌++◌, length, map}
use Rattle.std.proofs.Common.{Option, Some, None, refl, arith}
use Rattle.std.specs.Prelude.{◌==◌}
use Rattle.std.specs.Str.{bytes_eq}
use Rattle.std.proofs.lemmas.Option.{slice_get_within, get_or_from_slice_get}
use Rattle.indexmap.specs.IndexMap.{IndexMap, insert_entry}
use Rattle.mc_topology.specs.contracts.interfaces.InterfaceKeyPartialEq.TheImpl as key_tests
use Rattle.mc_topology.specs.declared.interfaces.InterfaceKey.{InterfaceKey}
use Rattle.mc_topology.specs.Lookup.{is_interface_of, has_interface, lan_of_interface}
use Rattle.mc_topology.specs.Lookup.{interface_row, HaveShortDevices}
use Rattle.mc_topology.specs.SectionRows.{InterfaceRow}
use Rattle.mc_topology.proofs.InterfaceLemmas.{IsIn-from_lan_of_interface, interface_row_of}
use Rattle.mc_topology.proofs.Keyed.{bytes_eq-flip, nat_eq-flip, rows-insert_new_entry}

-- a test of a key is a test of its row
pub is_interface_of-interface_row : (k : InterfaceKey) (e : InterfaceKey × ℕ)
    → ((k.router == e.0.router) && bytes_eq k.device.items e.0.device.items)
    ≡ is_interface_of k.router k.device.items (interface_row e)
is_interface_of-interface_row k e =
    rw (nat_eq-flip k.router e.0.router, bytes_eq-flip k.device.items e.0.device.items) refl

-- an interface with a new router and device is added last
pub interface_rows-insert_new : {S : Type 0} (m : IndexMap InterfaceKey ℕ S) (k : InterfaceKey) (lan : ℕ)
    (old : List InterfaceRow) → map interface_row m.entries ≡ old
    → has_interface k.router k.device.items old ≡ false
    → map interface_row (insert_entry key_tests.ghosts.eq m.entries k lan)
    ≡ old ++ interface_row (k, lan) ∷ []
interface_rows-insert_new m k lan old kept new =
    let unknown = rw (← kept) at new in
    let pushed =
    rows-insert_new_entry interface_row key_tests.ghosts.eq (is_interface_of k.router k.device.items) m k lan
    (is_interface_of-interface_row k) unknown in
    rw (← kept) pushed

-- a device whose name is longer than any interface's has no interface
pub lan_of_interface-long_device : (rows : List InterfaceRow) (router : ℕ) (device : List ℕ) (o : Option ℕ)
    → HaveShortDevices rows → 15 < length device → lan_of_interface router device rows ≡ o
    → lan_of_interface router device rows ≡ None
lan_of_interface-long_device rows router device None short long is = is
lan_of_interface-long_device rows router device (Some lan) short long is =
    let row = IsIn-from_lan_of_interface rows router device lan is in
    let within = slice_get_within rows row.0 (interface_row_of router device lan) row.1 in
    let at = get_or_from_slice_get rows row.0 (interface_row_of router device lan)
    (interface_row_of router device lan) row.1 in
    let kept = rw at at (short row.0 (interface_row_of router device lan) within) in
    absurd (omega (arith, kept, long))
