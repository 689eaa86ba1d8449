-- What the rules of a domain mean for the nets of its flows.
use Rattle.std.proofs.Common.{◌≡◌, ℕ, zero, suc, ◌<◌, ◌≤◌, ◌⊎◌, inl, inr, Bool, true, false}
use Rattle.std.proofs.Common.{cond, ◌||◌, List, [], ◌∷◌, map, length, slice_get, get_or, Option}
use Rattle.std.proofs.Common.{Some, None, option_map, unwrap_or, IsSome, refl, ap, sym, subst, ◌∙◌}
use Rattle.std.proofs.Common.{arith}
use Rattle.std.specs.Prelude.{IfSome, slice_index_or, option_and_then}
use Rattle.std.specs.Str.{bytes_eq}
use Rattle.std.specs.FinMap as finite
use Rattle.std.specs.List.{AllByRecursion}
use Rattle.std.specs.List.Sorted.{IsStrictlyIncreasing}
use Rattle.std.proofs.lemmas.List.{length-map}
use Rattle.std.proofs.lemmas.Option.{slice_get_within, slice_get_read, slice_get_past}
use Rattle.mc_tables.proofs.EntryLemmas.{tail-ascends}
use Rattle.mc_tables.specs.CacheTable.{to_oif}
use Rattle.mc_tables.specs.declared.cache.entry.Oif.{Oif}
use Rattle.mc_tables.specs.VifTable.{VifValue, no_device}
use Rattle.mc_topology.specs.declared.flow.Flow.{Flow}
use Rattle.mc_topology.specs.Topology.{TopologyValue, IsValidTopology, lan_of_interface}
use Rattle.mc_theory.specs.Lists.{In, Distinct, below}
use Rattle.mc_theory.specs.Nets.{IsNet, Interface, Row, interfaces}
use Rattle.mc_theory.specs.Nets.Row.{Exact, NoRow}
use Rattle.mc_topology.proofs.InterfaceLemmas.{lan_of_interface-below_length}
use Rattle.mc_forward.specs.Domains.{VifsValue, DomainValue, AreVifs, IsDomain, IsValidRow, lan_of_vif}
use Rattle.mc_forward.specs.Domains.{placed_in, placed_of, row_of, vif_of}
use Rattle.mc_forward.specs.Domains.{wants_of, source_of, ttl_of, net_of}
use Rattle.mc_forward.specs.DomainParts.{vif_lans_of, interfaces_of}
use Rattle.mc_forward.proofs.BelowLemmas.{length-below, slice_get-map_below}

-- ---- placed

-- a placed vif is in its router's table
vif_exists-from_placed : (t : TopologyValue) (vifs : List VifsValue) (router vif lan : ℕ)
    → placed_in t vifs router vif ≡ Some lan
    → (own : VifsValue) × (slice_get vifs router ≡ Some own) × IsSome (finite.get own vif)
vif_exists-from_placed t vifs router vif lan e = by_vifs t vifs router vif lan (slice_get vifs router) refl e
  where
    by_vif : (t : TopologyValue) (router lan : ℕ) (o : Option VifValue)
        → option_and_then (lan_of_vif t router) o ≡ Some lan → IsSome o
    by_vif t router lan None e = absurd cc
    by_vif t router lan (Some v) e = refl

    by_vifs : (t : TopologyValue) (vifs : List VifsValue) (router vif lan : ℕ)
        (o : Option VifsValue) → slice_get vifs router ≡ o
        → option_and_then (lan_of_vif t router) (option_and_then (λ own. finite.get own vif) o)
        ≡ Some lan
        → (own : VifsValue) × (slice_get vifs router ≡ Some own) × IsSome (finite.get own vif)
    by_vifs t vifs router vif lan None at e = absurd cc
    by_vifs t vifs router vif lan (Some own) at e =
        (own, at, by_vif t router lan (finite.get own vif) e)

-- a vif is placed on a LAN of the topology
pub placed_in-below_lan_count : (t : TopologyValue) (vifs : List VifsValue) (router vif : ℕ)
    → IsValidTopology t → (o : Option ℕ) → placed_in t vifs router vif ≡ o
    → IfSome o (λ lan. lan < length t.lans)
placed_in-below_lan_count t vifs router vif ok None e = tt
placed_in-below_lan_count t vifs router vif ok (Some lan) e =
    by_vif t router lan ok (vif_of vifs router vif) e
  where
    by_kind : (t : TopologyValue) (router lan : ℕ) → IsValidTopology t → (v : VifValue) (b : Bool)
        → cond b None (lan_of_interface router v.device t.interfaces) ≡ Some lan
        → lan < length t.lans
    by_kind t router lan ok v true e = absurd cc
    by_kind t router lan ok v false e = lan_of_interface-below_length t router v.device (Some lan) ok e

    by_vif : (t : TopologyValue) (router lan : ℕ) → IsValidTopology t → (o : Option VifValue)
        → option_and_then (lan_of_vif t router) o ≡ Some lan → lan < length t.lans
    by_vif t router lan ok None e = absurd cc
    by_vif t router lan ok (Some v) e = by_kind t router lan ok v
        ((v.tunnel || v.register) || bytes_eq v.device no_device) e

-- so it is in a domain
pub placed-below_lan_count : (d : DomainValue) (router vif : ℕ) → IsDomain d → (o : Option ℕ)
    → placed_of d router vif ≡ o → IfSome o (λ lan. lan < length d.topology.lans)
placed-below_lan_count d router vif ok = placed_in-below_lan_count d.topology d.vifs router vif ok.topology

-- ---- rows

-- later ones of ascending numbers are above the first
increasing-above_first : (x : ℕ) (xs : List ℕ) → IsStrictlyIncreasing (x ∷ xs) → (y : ℕ) → In y xs → x < y
increasing-above_first x [] h y k = absurd k
increasing-above_first x (z ∷ zs) h y k = (
    let first : x < z = h 0 (omega arith) in
    elim k [
      | inl e ↦ subst (λ (n : ℕ). x < n) e first
      | inr j ↦ (let rest = increasing-above_first z zs (tail-ascends x (z ∷ zs) h) y j in omega
          (arith, rest, first))
    ])

-- numbers that ascend are distinct
pub distinct-from_increasing : (xs : List ℕ) → IsStrictlyIncreasing xs → Distinct xs
distinct-from_increasing [] h = tt
distinct-from_increasing (x ∷ xs) h = (
  (λ k. let lt = increasing-above_first x xs h x k in absurd (omega (arith, lt))),
  distinct-from_increasing xs (tail-ascends x xs h),
)

-- pairs as outgoing vifs have the same vifs
map_vif-to_oif : (pairs : List (ℕ × ℕ)) → map (λ (o : Oif). o.vif) (map to_oif pairs)
    ≡ map (λ (p : ℕ × ℕ). p.0) pairs
map_vif-to_oif [] = refl
map_vif-to_oif (p ∷ pairs) = ap (λ (vs : List ℕ). p.0 ∷ vs) (map_vif-to_oif pairs)

-- each row of a router is valid, and so is none past the last
is_valid_row-at_flow : (own : List Row) (flow : ℕ) → AllByRecursion IsValidRow own
    → IsValidRow (slice_index_or own flow NoRow)
is_valid_row-at_flow [] flow all = tt
is_valid_row-at_flow (row ∷ own) zero all = all.0
is_valid_row-at_flow (row ∷ own) (suc flow) all = is_valid_row-at_flow own flow all.1

-- so are those of a router
are_valid_rows-at_router : (rows : List (List Row)) (router : ℕ)
    → ((r : ℕ) (own : List Row) → slice_get rows r ≡ Some own → AllByRecursion IsValidRow own)
    → AllByRecursion IsValidRow (slice_index_or rows router [])
are_valid_rows-at_router [] router each = tt
are_valid_rows-at_router (own ∷ rows) zero each = each 0 own refl
are_valid_rows-at_router (own ∷ rows) (suc router) each =
    are_valid_rows-at_router rows router (λ r other at. each (suc r) other at)

-- each row of a domain is valid
pub is_valid_row-row_of : (d : DomainValue) (flow router : ℕ) → IsDomain d
    → IsValidRow (row_of d flow router)
is_valid_row-row_of d flow router ok =
    is_valid_row-at_flow (slice_index_or d.rows router []) flow
    (are_valid_rows-at_router d.rows router ok.rows.valid)

-- the outgoing vifs of an exact row ascend
pub row_of-vifs_ascend : (d : DomainValue) (flow router v : ℕ) (pairs : List (ℕ × ℕ)) → IsDomain d
    → row_of d flow router ≡ Exact v pairs → IsStrictlyIncreasing (map (λ (p : ℕ × ℕ). p.0) pairs)
row_of-vifs_ascend d flow router v pairs ok e =
    let entry : IsValidRow (Exact v pairs) = subst IsValidRow e (is_valid_row-row_of d flow router ok) in
    subst IsStrictlyIncreasing (map_vif-to_oif pairs) entry.ascending

-- ---- the laws

-- the net of a flow has the laws of nets
pub is_net-net_of : (d : DomainValue) (flow : ℕ) → IsDomain d → IsNet (net_of d flow)
is_net-net_of d flow ok = record {
  router = λ r v l e. (let own = vif_exists-from_placed d.topology d.vifs r v l e in let lt =
      slice_get_within d.vifs r own.0 own.1 in subst (λ (n : ℕ). r < n) ok.vifs.routers lt);
  vif = λ r v l e. (let own = vif_exists-from_placed d.topology d.vifs r v l e in let le =
      (ok.vifs.valid r own.0 own.1).numbered v own.2 in omega (arith, le));
  vifs = λ r v pairs e. distinct-from_increasing (map (λ (p : ℕ × ℕ). p.0) pairs)
      (row_of-vifs_ascend d flow r v pairs ok e);
}

-- a row with something true is one of the rows
index-below_from_true : (rows : List (List Bool)) (i j : ℕ)
    → slice_index_or (slice_index_or rows i []) j false ≡ true → i < length rows
index-below_from_true [] i j e = absurd cc
index-below_from_true (b ∷ rows) zero j e = omega arith
index-below_from_true (b ∷ rows) (suc i) j e = let h = index-below_from_true rows i j e in omega (arith, h)

-- only LANs of the topology want a flow
pub wants-below_lan_count : (d : DomainValue) (flow lan : ℕ) → IsDomain d → wants_of d flow lan ≡ true
    → lan < length d.topology.lans
wants-below_lan_count d flow lan ok e =
    subst (λ (n : ℕ). lan < n) ok.lans (index-below_from_true d.wants lan flow e)

-- the flow of a number
pub flow-exists_at_index : (flows : List Flow) (i : ℕ) → i < length flows
    → (f : Flow) × (slice_get flows i ≡ Some f)
flow-exists_at_index [] i h = absurd (omega arith)
flow-exists_at_index (f ∷ flows) zero h = (f, refl)
flow-exists_at_index (f ∷ flows) (suc i) h = flow-exists_at_index flows i (omega arith)

-- its source is on a LAN of the topology
pub source-below_lan_count : (d : DomainValue) (flow : ℕ) → IsDomain d → flow < length d.topology.flows
    → source_of d flow < length d.topology.lans
source-below_lan_count d flow ok h =
    let f = flow-exists_at_index d.topology.flows flow h in
    subst (λ (o : Option Flow). unwrap_or (option_map (λ (f : Flow). f.lan) o) 0 < length
    d.topology.lans) (sym f.1) (ok.topology.valid_flows flow f.0 f.1).lan

-- its TTL is 1 at least
pub ttl-at_least_1 : (d : DomainValue) (flow : ℕ) → IsDomain d → flow < length d.topology.flows
    → 1 ≤ ttl_of d flow
ttl-at_least_1 d flow ok h =
    let f = flow-exists_at_index d.topology.flows flow h in
    subst (λ (o : Option Flow). 1 ≤ unwrap_or (option_map (λ (f : Flow). f.ttl) o) 0) (sym f.1)
    (ok.topology.valid_flows flow f.0 f.1).ttl_from

-- and 255 at most
pub ttl-at_most_255 : (d : DomainValue) (flow : ℕ) → IsDomain d → flow < length d.topology.flows
    → ttl_of d flow ≤ 255
ttl-at_most_255 d flow ok h =
    let f = flow-exists_at_index d.topology.flows flow h in
    subst (λ (o : Option Flow). unwrap_or (option_map (λ (f : Flow). f.ttl) o) 0 ≤ 255) (sym f.1)
    (ok.topology.valid_flows flow f.0 f.1).ttl_to

-- ---- the look-up tables

-- a row for each router
pub length-vif_lans_of : (d : DomainValue) → length (vif_lans_of d) ≡ length d.topology.routers
length-vif_lans_of d = length-map (below (length d.topology.routers))
    (λ (router : ℕ). map (placed_of d router) (below 32)) ∙ length-below (length d.topology.routers)

-- a list for each LAN
pub length-interfaces_of : (d : DomainValue) → length (interfaces_of d) ≡ length d.topology.lans
length-interfaces_of d = length-map (below (length d.topology.lans)) (interfaces (net_of d 0))
    ∙ length-below (length d.topology.lans)

-- no vif from 32 on is placed
placed_of-none_from_vif_32 : (d : DomainValue) (router vif : ℕ) → AreVifs d.topology d.vifs
    → 32 ≤ vif → (o : Option ℕ) → placed_of d router vif ≡ o → None ≡ placed_of d router vif
placed_of-none_from_vif_32 d router vif ok h None e = sym e
placed_of-none_from_vif_32 d router vif ok h (Some lan) e =
    let own = vif_exists-from_placed d.topology d.vifs router vif lan e in
    let le = (ok.valid router own.0 own.1).numbered vif own.2 in
    absurd (omega (arith, le))

-- the vif's place in the row of its router
pub vif_lans-placed_of : (d : DomainValue) (ps : List (List (Option ℕ))) (own : List (Option ℕ))
    (router vif : ℕ) → AreVifs d.topology d.vifs → ps ≡ vif_lans_of d
    → router < length d.topology.routers → own ≡ get_or ps router own
    → unwrap_or (slice_get own vif) None ≡ placed_of d router vif
vif_lans-placed_of d ps own router vif ok e h read =
    let width : List (Option ℕ) = map (placed_of d router) (below 32) in
    let size : length ps ≡ length d.topology.routers = ap length e ∙ length-vif_lans_of d in
    let at : slice_get ps router ≡ Some own = slice_get_read ps (length ps) router own refl
    (omega (arith, size)) read in
    let table : slice_get (vif_lans_of d) router ≡ Some width =
    slice_get-map_below (λ (r : ℕ). map (placed_of d r) (below 32))
    (length d.topology.routers) router h in
    let same : own ≡ width = (let q : Some own ≡ Some width = sym at
    ∙ ap (λ (xs : List (List (Option ℕ))). slice_get xs router) e ∙ table in cc) in
    ap (λ (xs : List (Option ℕ)). unwrap_or (slice_get xs vif) None) same ∙ (elim (within vif) [
      | inl low ↦ ap (λ (o : Option (Option ℕ)). unwrap_or o None)
          (slice_get-map_below (placed_of d router) 32 vif low)
      | inr high ↦ (
          let past : slice_get width vif ≡ None =
          slice_get_past width vif (let n : length width ≡ 32 =
          length-map (below 32) (placed_of d router)
          ∙ length-below 32 in omega (arith, n)) in
          ap (λ (o : Option (Option ℕ)). unwrap_or o None) past
          ∙ placed_of-none_from_vif_32 d router vif ok high (placed_of d router vif) refl)
    ])
  where
    within : (vif : ℕ) → (vif < 32) ⊎ (32 ≤ vif)
    within vif = grind arith

-- a LAN's interfaces are the same for each flow
pub interfaces-same_for_each_flow : (d : DomainValue) (flow flow' lan : ℕ)
    → interfaces (net_of d flow) lan ≡ interfaces (net_of d flow') lan
unfolding interfaces
interfaces-same_for_each_flow d flow flow' lan = refl

-- so the list at a LAN's number has the interfaces of the LAN, whatever the flow
pub interfaces_of-at_index : (d : DomainValue) (is : List (List Interface)) (own : List Interface)
    (lan flow : ℕ) → is ≡ interfaces_of d
    → lan < length d.topology.lans → own ≡ get_or is lan own → own ≡ interfaces (net_of d flow) lan
interfaces_of-at_index d is own lan flow e h read =
    let size : length is ≡ length d.topology.lans = ap length e ∙ length-interfaces_of d in
    let at : slice_get is lan ≡ Some own = slice_get_read is (length is) lan own refl
    (omega (arith, size)) read in
    let table : slice_get (interfaces_of d) lan ≡ Some (interfaces (net_of d 0) lan) =
    slice_get-map_below (interfaces (net_of d 0)) (length d.topology.lans) lan h in
    let same : own ≡ interfaces (net_of d 0) lan =
    (let q : Some own ≡ Some (interfaces (net_of d 0) lan) = sym at
    ∙ ap (λ (xs : List (List Interface)). slice_get xs lan) e ∙ table in cc) in
    same ∙ interfaces-same_for_each_flow d 0 flow lan
