-- The LAN of the interface with a router and a device.
use Rattle.std.proofs.Common.{◌≡◌, ℕ, zero, suc, ◌<◌, ◌≤◌, Bool, true, false, cond}
use Rattle.std.proofs.Common.{List, [], ◌∷◌, length, Option, Some, None, refl, sym}
use Rattle.std.proofs.Common.{ap, subst, ◌∙◌, arith}
use Rattle.std.specs.Prelude.{slice_get, IfSome}
use Rattle.mc_topology.specs.SectionRows.{InterfaceRow}
use Rattle.mc_topology.specs.Lookup.{is_interface_of}
use Rattle.mc_topology.specs.Topology.{TopologyValue, AreDistinctBy, IsIn}
use Rattle.mc_topology.specs.Topology.{IsValidTopology, interface_key, lan_of_interface}
use Rattle.mc_topology.proofs.Keys.{is_interface_of-Decides}

-- the row of a router, a device and a LAN
abbrev pub interface_row_of : ℕ → List ℕ → ℕ → InterfaceRow
interface_row_of router device lan = record { router = router; device = device; lan = lan }

-- the look-up's result at the first interface, by whether it is the one
lan_of_interface-first : (router : ℕ) (device : List ℕ) (i : InterfaceRow) (more : List InterfaceRow)
    (b : Bool)
    → is_interface_of router device i ≡ b
    → lan_of_interface router device (i ∷ more)
    ≡ cond b (Some i.lan) (lan_of_interface router device more)
lan_of_interface-first router device i more true e = rw e refl
lan_of_interface-first router device i more false e = rw e refl

-- the interface that is found is the first, or a later one
IsIn-first_interface : (router : ℕ) (device : List ℕ) (i : InterfaceRow) (more : List InterfaceRow) (lan : ℕ)
    (b : Bool) → is_interface_of router device i ≡ b
    → (lan_of_interface router device more ≡ Some lan → IsIn more (interface_row_of router device lan))
    → lan_of_interface router device (i ∷ more) ≡ Some lan
    → IsIn (i ∷ more) (interface_row_of router device lan)
IsIn-first_interface router device i more lan true at later e =
    let key = (is_interface_of-Decides router device i).0 at in
    let here : i.lan ≡ lan = let first =
    sym (lan_of_interface-first router device i more true at) ∙ e in cc in
    let r : i.router ≡ router = ap (λ (k : ℕ × List ℕ). k.0) key in
    let d : i.device ≡ device = ap (λ (k : ℕ × List ℕ). k.1) key in
    (0, rw (← r, ← d, ← here) refl)
IsIn-first_interface router device i more lan false at later e =
    let found = later (sym (lan_of_interface-first router device i more false at) ∙ e) in
    (suc found.0, found.1)

-- what the look-up finds is a row
pub IsIn-from_lan_of_interface : (interfaces : List InterfaceRow) (router : ℕ) (device : List ℕ) (lan : ℕ)
    → lan_of_interface router device interfaces ≡ Some lan
    → IsIn interfaces (interface_row_of router device lan)
IsIn-from_lan_of_interface [] router device lan e = absurd cc
IsIn-from_lan_of_interface (i ∷ more) router device lan e =
    IsIn-first_interface router device i more lan (is_interface_of router device i) refl
    (λ h. IsIn-from_lan_of_interface more router device lan h) e

-- the rest of the interfaces have distinct keys too
AreDistinctBy-rest : (i : InterfaceRow) (more : List InterfaceRow)
    → AreDistinctBy interface_key (i ∷ more) → AreDistinctBy interface_key more
AreDistinctBy-rest i more distinct m n x y at_m at_n k =
    let one : suc m ≡ suc n = distinct (suc m) (suc n) x y at_m at_n k in
    omega (arith, one)

-- a later interface is found past one of another key
lan_of_interface-later : (interfaces : List InterfaceRow) (i : InterfaceRow) (n : ℕ) (x : InterfaceRow)
    (b : Bool) → is_interface_of x.router x.device i ≡ b → AreDistinctBy interface_key (i ∷ interfaces)
    → slice_get interfaces n ≡ Some x → lan_of_interface x.router x.device interfaces ≡ Some x.lan
    → lan_of_interface x.router x.device (i ∷ interfaces) ≡ Some x.lan
lan_of_interface-later interfaces i n x true at distinct e later =
    let same : 0 ≡ suc n =
    distinct 0 (suc n) i x refl e ((is_interface_of-Decides x.router x.device i).0 at) in
    absurd (omega (arith, same))
lan_of_interface-later interfaces i n x false at distinct e later =
    lan_of_interface-first x.router x.device i interfaces false at ∙ later

-- a row is found, where no two have the same key
pub lan_of_interface-listed_row : (interfaces : List InterfaceRow) (n : ℕ) (x : InterfaceRow)
    → AreDistinctBy interface_key interfaces → slice_get interfaces n ≡ Some x
    → lan_of_interface x.router x.device interfaces ≡ Some x.lan
lan_of_interface-listed_row [] n x distinct e = absurd cc
lan_of_interface-listed_row (i ∷ more) zero x distinct e =
    let same : i ≡ x = cc in
    subst (λ (y : InterfaceRow). lan_of_interface y.router y.device (i ∷ more) ≡ Some y.lan) same
    (lan_of_interface-first i.router i.device i more true
    ((is_interface_of-Decides i.router i.device i).1 refl))
lan_of_interface-listed_row (i ∷ more) (suc n) x distinct e =
    lan_of_interface-later more i n x (is_interface_of x.router x.device i) refl distinct e
    (lan_of_interface-listed_row more n x (AreDistinctBy-rest i more distinct) e)

-- the LAN that the look-up finds is one of the topology's
pub lan_of_interface-below_length : (t : TopologyValue) (router : ℕ) (device : List ℕ) (o : Option ℕ)
    → IsValidTopology t
    → lan_of_interface router device t.interfaces ≡ o → IfSome o (λ lan. lan < length t.lans)
lan_of_interface-below_length t router device None is e = tt
lan_of_interface-below_length t router device (Some lan) is e =
    let row = IsIn-from_lan_of_interface t.interfaces router device lan e in
    (is.valid_interfaces row.0 (interface_row_of router device lan) row.1).lan

-- a router that the topology doesn't have has no interface
pub lan_of_interface-no_router : (t : TopologyValue) (router : ℕ) (device : List ℕ) (o : Option ℕ)
    → IsValidTopology t → lan_of_interface router device t.interfaces ≡ o → length t.routers ≤ router
    → o ≡ None
lan_of_interface-no_router t router device None is e past = refl
lan_of_interface-no_router t router device (Some lan) is e past =
    let row = IsIn-from_lan_of_interface t.interfaces router device lan e in
    let within = (is.valid_interfaces row.0 (interface_row_of router device lan) row.1).router in
    absurd (omega (arith, within, past))
