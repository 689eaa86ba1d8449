-- A domain as the packets of one flow meet it: which vif is placed on which LAN, which row each
-- router has for the flow, and which LANs want the flow. A flow is a source and a group, (S,G) (RFC
-- 7761, section 2.1). Routers and LANs are numbered from 0.
use Rattle.std.specs.Prelude.{◌≡◌, ℕ, ◌<◌, Bool, true, false, ◌==◌, List, map, filter, flat_map}
use Rattle.std.specs.Prelude.{Option, Some, None, is_some}
use Rattle.mc_theory.specs.Lists.{Distinct, below}

-- An interface: a router, and one of its vifs, which are the kernel's numbers of its multicast
-- interfaces (`struct vif_device` in include/linux/mroute_base.h).
abbrev pub Interface : Type 0
Interface = ℕ × ℕ

-- What a router has for the flow, as its kernel looks it up by source and group (`ip_mr_input` in
-- net/ipv4/ipmr.c).
pub data Row : Type 0 where
  -- A resolved (S,G) entry: the vif that packets have to come in by, and the pairs of an outgoing
  -- vif and its threshold.
  Exact : (incoming : ℕ) → (pairs : List (ℕ × ℕ)) → Row
  -- No such entry, but a resolved one for all sources: of the group, (*,G), or of all groups, (*,*).
  -- What it would do isn't followed (our own choice: it counts as leading out of the known domain,
  -- whichever vif the packet came in by).
  Open : Row
  -- Neither of these.
  NoRow : Row

-- The domain for one flow: all that matters to the copies of the flow's packets.
pub record Net : Type 0 where
  -- how many routers there are
  pub routers : ℕ
  -- the LAN that a router's vif is placed on, if it is
  pub placed : ℕ → ℕ → Option ℕ
  -- a router's row for the flow
  pub row : ℕ → Row
  -- whether some host of a LAN wants the flow (RFC 3376, section 3.2, over what its hosts reported)
  pub wants : ℕ → Bool
  -- the LAN that the source sends on
  pub source : ℕ
  -- the least TTL that the source sends with
  pub ttl : ℕ

-- whether the LAN is the one on which a vif is placed, if it is placed on any
abbrev pub is_lan : Option ℕ → ℕ → Bool
is_lan None lan = false
is_lan (Some placed_on) lan = placed_on == lan

-- the vifs below `width` of each router, by router and then by vif
abbrev pub router_vif_pairs : ℕ → ℕ → List Interface
router_vif_pairs width routers =
    flat_map (λ router. map (λ vif. (router, vif)) (below width)) (below routers)

-- The interfaces of a LAN: the vifs that are placed on it, by router and then by vif. A kernel has
-- vifs 0 to 31 (MAXVIFS in include/uapi/linux/mroute.h).
unfoldable pub interfaces : Net → ℕ → List Interface
interfaces net lan =
    filter (λ interface. is_lan (net.placed interface.0 interface.1) lan) (router_vif_pairs 32 net.routers)

-- the interfaces of all LANs, by router and then by vif
abbrev pub placed_interfaces : Net → List Interface
placed_interfaces net =
    filter (λ interface. is_some (net.placed interface.0 interface.1)) (router_vif_pairs 32 net.routers)

-- What holds of every domain. All that is proved of flights rests on these three facts and, where a law
-- says so, on `WantsBelow` and on a TTL of 1 to 255.
pub record IsNet (net : Net) : Type 0 where
  -- a placed vif belongs to a router of the domain
  pub router : (router vif lan : ℕ) → net.placed router vif ≡ Some lan → router < net.routers
  -- and is one of 0 to 31
  pub vif : (router vif lan : ℕ) → net.placed router vif ≡ Some lan → vif < 32
  -- a row has one pair at most for each outgoing vif
  pub vifs : (router vif : ℕ) (pairs : List (ℕ × ℕ)) →
      net.row router ≡ Exact vif pairs → Distinct (map (λ pair. pair.0) pairs)

-- LANs that want the flow are numbered below the count.
abbrev pub WantsBelow : Net → ℕ → Type 0
WantsBelow net count = (lan : ℕ) → net.wants lan ≡ true → lan < count
