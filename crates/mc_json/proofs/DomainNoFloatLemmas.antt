-- No value of a domain's line has a fraction.
use Rattle.std.proofs.Common.{◌≡◌, ℕ, false, length, List, [], ◌∷◌, Option, Some, None, flat_map, refl}
use Rattle.mc_tables.specs.VifTable.{VifValue}
use Rattle.mc_topology.specs.SectionRows.{InterfaceRow}
use Rattle.mc_topology.specs.Topology.{TopologyValue}
use Rattle.mc_theory.specs.Lists.{below}
use Rattle.mc_forward.specs.ListedTables.{DomainFacts}
use Rattle.mc_search.specs.TopologyLans.{vif_of_device}
use Rattle.serde_json.specs.Data.{Data, string}
use Rattle.serde_json.specs.Written.{has_float}
use Rattle.mc_json.specs.DomainData.{domain_data, interfaces_data, lan_or_null, parts_data, source_data}
use Rattle.mc_json.specs.DomainData.{router_with_order, unmatched_data, unmatched_data_of, vif_data}
use Rattle.mc_json.specs.DomainData.{vifs_data}
use Rattle.mc_json.proofs.NoFloatLemmas.{HaveNoFloat, no_float-append, no_float-map, no_float-lans}

-- items with several values each
no_float-flat_map : {A : Type 0} (f : A → List Data) → ((x : A) → HaveNoFloat (f x)) → (xs : List A)
    → HaveNoFloat (flat_map f xs)
no_float-flat_map f each [] = refl
no_float-flat_map f each (x ∷ xs) =
    no_float-append (f x) (flat_map f xs) (each x) (no_float-flat_map f each xs)

-- a LAN's name, or null
no_float-lan_or_null : (t : TopologyValue) (o : Option ℕ) → has_float (lan_or_null t o) ≡ false
no_float-lan_or_null t None = refl
no_float-lan_or_null t (Some lan) = refl

-- a vif, if it is there
no_float-vif_data : (d : DomainFacts) (router vif : ℕ) (o : Option VifValue)
    → HaveNoFloat (vif_data d router vif o)
no_float-vif_data d router vif None = refl
no_float-vif_data d router vif (Some v) = rw (no_float-lan_or_null d.topology ((d.nets 0).placed router vif))

-- the vifs of a router
no_float-vifs_data : (d : DomainFacts) (router : ℕ) → HaveNoFloat (vifs_data d router)
no_float-vifs_data d router =
    no_float-flat_map (λ vif. vif_data d router vif (d.vifs router vif))
    (λ vif. no_float-vif_data d router vif (d.vifs router vif)) (below 32)

-- an interface of the topology, if no vif is its own
no_float-unmatched_data : (o : Option ℕ) (t : TopologyValue) (i : InterfaceRow)
    → HaveNoFloat (unmatched_data_of o t i)
no_float-unmatched_data None t i = refl
no_float-unmatched_data (Some vif) t i = refl

-- all such interfaces
no_float-interfaces_data : (d : DomainFacts) → HaveNoFloat (interfaces_data d)
no_float-interfaces_data d =
    no_float-append (flat_map (vifs_data d) (below (length d.topology.routers)))
    (flat_map (unmatched_data d) d.topology.interfaces)
    (no_float-flat_map (vifs_data d) (no_float-vifs_data d) (below (length d.topology.routers)))
    (no_float-flat_map (unmatched_data d)
    (λ i. no_float-unmatched_data (vif_of_device d i.router i.device) d.topology i) d.topology.interfaces)

-- the parts of the domain
no_float-parts_data : (d : DomainFacts) → has_float (parts_data d) ≡ false
no_float-parts_data d =
    let t = d.topology in
    rw (
      no_float-interfaces_data d,
      no_float-lans t (below (length t.lans)),
      no_float-map (router_with_order t) (λ router. refl) (below (length t.routers)),
      no_float-map (source_data t) (λ s. refl) t.sources,
    )

-- the domain's line
pub no_float-domain_data : (d : DomainFacts) (words : List (List ℕ)) → has_float (domain_data d words) ≡ false
no_float-domain_data d words = rw (no_float-parts_data d, no_float-map string (λ word. refl) words)
