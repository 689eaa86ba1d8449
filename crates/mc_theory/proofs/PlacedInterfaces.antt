-- The interfaces of a LAN are the vifs that are placed on it, each once.
use Rattle.std.proofs.Common.{◌≡◌, ℕ, ◌<◌, true, map, Option, Some, None, is_some, ap, sym, ◌∙◌}
use Rattle.std.proofs.Common.{eqb-true, eq-eqb, refl}
use Rattle.mc_theory.specs.Lists.{In, Distinct, below}
use Rattle.mc_theory.specs.Nets.{Net, IsNet, Interface, is_lan, router_vif_pairs, interfaces}
use Rattle.mc_theory.specs.Nets.{placed_interfaces}
use Rattle.mc_theory.proofs.ListLemmas.{in-map, in-map_cases, in-filter, in-filter_cases, in-flat_map}
use Rattle.mc_theory.proofs.ListLemmas.{in-below, distinct-filter, distinct-map, distinct-flat_map}
use Rattle.mc_theory.proofs.ListLemmas.{distinct-below}

in-router_vif_pairs : (w n : ℕ) (r v : ℕ) → r < n → v < w → In (r, v) (router_vif_pairs w n)
in-router_vif_pairs w n r v h k = in-flat_map (λ r. map (λ v. (r, v)) (below w)) r (r, v) (below n)
    (in-below r n h) (in-map (λ v. (r, v)) v (below w) (in-below v w k))

distinct-router_vif_pairs : (w n : ℕ) → Distinct (router_vif_pairs w n)
distinct-router_vif_pairs w n = distinct-flat_map (λ r. map (λ v. (r, v)) (below w)) (below n)
    (distinct-below n) (λ r. distinct-map (λ (v : ℕ). (r, v))
    (λ x y e. ap (λ (p : Interface). p.1) e) (below w) (distinct-below w))
    (λ x y b h k. let p = in-map_cases (λ (v : ℕ). (x, v)) b (below w) h in let q = in-map_cases
    (λ (v : ℕ). (y, v)) b (below w) k in ap (λ (p : Interface). p.0) (p.2 ∙ sym q.2))

pub is_lan-true : (o : Option ℕ) (l : ℕ) → is_lan o l ≡ true → o ≡ Some l
is_lan-true None l e = absurd cc
is_lan-true (Some q) l e = ap Some (eqb-true q l e)

pub is_lan-from_equal : (o : Option ℕ) (l : ℕ) → o ≡ Some l → is_lan o l ≡ true
is_lan-from_equal None l e = absurd cc
is_lan-from_equal (Some q) l e = eq-eqb q l cc

pub in-interfaces : (n : Net) (r v l : ℕ) → IsNet n → n.placed r v ≡ Some l →
    In (r, v) (interfaces n l)
unfolding interfaces
in-interfaces n r v l net e = in-filter (λ (i : Interface). is_lan (n.placed i.0 i.1) l) (r, v)
    (router_vif_pairs 32 n.routers)
    (in-router_vif_pairs 32 n.routers r v (net.router r v l e) (net.vif r v l e))
    (is_lan-from_equal (n.placed r v) l e)

pub placed-member_of_interfaces : (n : Net) (i : Interface) (l : ℕ) → In i (interfaces n l) →
    n.placed i.0 i.1 ≡ Some l
unfolding interfaces
placed-member_of_interfaces n i l h = is_lan-true (n.placed i.0 i.1) l
    (in-filter_cases (λ (i : Interface). is_lan (n.placed i.0 i.1) l) i (router_vif_pairs 32 n.routers) h).1

pub distinct-interfaces : (n : Net) (l : ℕ) → Distinct (interfaces n l)
unfolding interfaces
distinct-interfaces n l = distinct-filter (λ (i : Interface). is_lan (n.placed i.0 i.1) l)
    (router_vif_pairs 32 n.routers) (distinct-router_vif_pairs 32 n.routers)

is_some-from_equal : {A : Type 0} (o : Option A) (x : A) → o ≡ Some x → is_some o ≡ true
is_some-from_equal None x e = absurd cc
is_some-from_equal (Some y) x e = refl

pub in_placed_interfaces-of_lan : (n : Net) (l : ℕ) (i : Interface) → In i (interfaces n l) →
    In i (placed_interfaces n)
unfolding interfaces
in_placed_interfaces-of_lan n l i h =
    let k = in-filter_cases (λ (i : Interface). is_lan (n.placed i.0 i.1) l) i (router_vif_pairs 32 n.routers)
    h in
    in-filter (λ (i : Interface). is_some (n.placed i.0 i.1)) i (router_vif_pairs 32 n.routers) k.0
    (is_some-from_equal (n.placed i.0 i.1) l (is_lan-true (n.placed i.0 i.1) l k.1))
