-- The tests of whether two rows of a section have the same key.
use Rattle.std.proofs.Common.{◌≡◌, ℕ, ◌&&◌, Bool, List, refl, ap}
use Rattle.std.specs.Prelude.{◌==◌}
use Rattle.std.specs.Bool.{Decides}
use Rattle.std.specs.Cmp.{unsigned_Decides}
use Rattle.std.specs.Str.{bytes_eq}
use Rattle.std.proofs.lemmas.Bool.{and_parts}
use Rattle.std.proofs.lemmas.Slice.Eq.{bytes_eq-Decides}
use Rattle.mc_topology.specs.declared.flow.Flow.{Flow}
use Rattle.mc_topology.specs.SectionRows.{RouterRow, InterfaceRow, SourceRow}
use Rattle.mc_topology.specs.Lookup.{is_interface_of}
use Rattle.mc_topology.specs.Topology.{lan_key, router_key, interface_key, source_key, flow_key}

-- two LANs have the same name
abbrev pub same_lan : List ℕ → List ℕ → Bool
same_lan y x = bytes_eq y x

-- exactly if they have the same key, and so for the rows of the other sections
pub same_lan-Decides : (y x : List ℕ) → Decides (same_lan y x) (lan_key y ≡ lan_key x)
same_lan-Decides y x = bytes_eq-Decides y x

-- two routers have the same name
abbrev pub same_router : RouterRow → RouterRow → Bool
same_router y x = bytes_eq y.name x.name

pub same_router-Decides : (y x : RouterRow)
    → Decides (same_router y x) (router_key y ≡ router_key x)
same_router-Decides y x = bytes_eq-Decides y.name x.name

-- two interfaces have the same router and device
abbrev pub same_interface : InterfaceRow → InterfaceRow → Bool
same_interface y x = is_interface_of x.router x.device y

-- an interface has this router and this device exactly if it has their key
pub is_interface_of-Decides : (router : ℕ) (device : List ℕ) (i : InterfaceRow)
    → Decides (is_interface_of router device i) (interface_key i ≡ (router, device))
is_interface_of-Decides router device i = (
  λ e.
      let (same_router, same_device) = and_parts _ _ e in
      let one : i.router ≡ router = (unsigned_Decides i.router router).0 same_router in
      let other : i.device ≡ device = (bytes_eq-Decides i.device device).0 same_device in
      rw (one, other) refl,
  λ e.
      let one : i.router ≡ router = ap (λ (p : ℕ × List ℕ). p.0) e in
      let other : i.device ≡ device = ap (λ (p : ℕ × List ℕ). p.1) e in
      rw ((unsigned_Decides i.router router).1 one) ((bytes_eq-Decides i.device device).1 other),
)

pub same_interface-Decides : (y x : InterfaceRow)
    → Decides (same_interface y x) (interface_key y ≡ interface_key x)
same_interface-Decides y x = is_interface_of-Decides x.router x.device y

-- two sources have the same address
abbrev pub same_source : SourceRow → SourceRow → Bool
same_source y x = y.address == x.address

pub same_source-Decides : (y x : SourceRow)
    → Decides (same_source y x) (source_key y ≡ source_key x)
same_source-Decides y x = unsigned_Decides y.address x.address

-- two flows have the same source and group
abbrev pub same_flow : Flow → Flow → Bool
same_flow y x = (y.source == x.source) && (y.group == x.group)

pub same_flow-Decides : (y x : Flow) → Decides (same_flow y x) (flow_key y ≡ flow_key x)
same_flow-Decides y x = (
  λ e.
      let (source, group) = and_parts _ _ e in
      let one : y.source ≡ x.source = (unsigned_Decides y.source x.source).0 source in
      let other : y.group ≡ x.group = (unsigned_Decides y.group x.group).0 group in
      rw (one, other) refl,
  λ e.
      let one : y.source ≡ x.source = ap (λ (p : ℕ × ℕ). p.0) e in
      let other : y.group ≡ x.group = ap (λ (p : ℕ × ℕ). p.1) e in
      rw ((unsigned_Decides y.source x.source).1 one) ((unsigned_Decides y.group x.group).1 other),
)
