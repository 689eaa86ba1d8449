-- The slots of a domain: how many they are, which has which number, and their names.
use Rattle.std.proofs.Common.{◌≡◌, ℕ, zero, suc, ◌+◌, ◌*◌, ◌≤◌, ◌<◌, Bool, true, false, List, []}
use Rattle.std.proofs.Common.{◌∷◌, ◌++◌, codes, length, map, Some, refl, ap, ◌∙◌, arith}
use Rattle.std.proofs.Common.{None, append-nil, append_assoc, lit≤, subst}
use Rattle.std.specs.Prelude.{◌&&◌, flat_map, IsTrue, nat_le, option_map, slice_get}
use Rattle.std.specs.List.{AllByRecursion, list_all}
use Rattle.std.proofs.lemmas.Bool.{and_parts}
use Rattle.std.proofs.lemmas.List.{length-append, length-map}
use Rattle.mc_bundle.specs.Bundle.{IsPartName}
use Rattle.mc_text.proofs.Lists.{AllByRecursion-append, slice_get-append_front}
use Rattle.mc_topology.specs.Names.{is_name, is_name_byte}
use Rattle.mc_topology.specs.SectionRows.{RouterRow}
use Rattle.mc_topology.specs.Topology.{TopologyValue, IsValidTopology}
use Rattle.mc_files.specs.Layout.{Slot, part_name, file_name, router_slots, reports_slot, vif_slot}
use Rattle.mc_files.specs.Layout.{cache_slot, certificate_slot, certificate_slots, slots_after_topology}
use Rattle.mc_files.specs.Layout.{slots, topology_slot}
use Rattle.mc_files.proofs.PartNames.{IsPartName-append}

-- ---- how many they are

-- two for each router
length-router_slots : (rs : List RouterRow) → length (flat_map router_slots rs) ≡ 2 * length rs
length-router_slots [] = refl
length-router_slots (r ∷ rs) = omega (arith, length-router_slots rs)

-- at most one of a certificate
length-certificate_slots : (certified : Bool) → length (certificate_slots certified) ≤ 1
length-certificate_slots true = lit≤ tt
length-certificate_slots false = lit≤ tt

-- two for each router, one for each LAN, and the certificate's
pub length-slots_after_topology : (certified : Bool) (t : TopologyValue)
    → length (slots_after_topology certified t)
    ≡ 2 * length t.routers + length t.lans + length (certificate_slots certified)
length-slots_after_topology certified t =
    omega (
      arith,
      length-append (flat_map router_slots t.routers)
          (map reports_slot t.lans ++ certificate_slots certified),
      length-append (map reports_slot t.lans) (certificate_slots certified),
      length-map t.lans reports_slot,
      length-router_slots t.routers,
    )

-- at most 1,537, of 256 routers, 1,024 LANs and a certificate
pub slots_after_topology-at_most_1537 : (certified : Bool) (t : TopologyValue) → IsValidTopology t
    → length (slots_after_topology certified t) ≤ 1537
slots_after_topology-at_most_1537 certified t is =
    omega (
      arith,
      length-slots_after_topology certified t,
      length-certificate_slots certified,
      is.few_routers,
      is.few_lans,
    )

-- ---- which has which number

module _ (more : List Slot) where
  -- a router's vifs have the even ones,
  pub slice_get-vif_slot : (rs : List RouterRow) (i k : ℕ) (name : List ℕ) → k ≡ 2 * i
      → option_map (λ r. r.name) (slice_get rs i) ≡ Some name
      → slice_get (flat_map router_slots rs ++ more) k ≡ Some (vif_slot name)
  slice_get-vif_slot [] i k name is at = absurd cc
  slice_get-vif_slot (r ∷ rs) zero zero name is at =
      let same : r.name ≡ name = cc in ap (λ n. Some (vif_slot n)) same
  slice_get-vif_slot (r ∷ rs) zero (suc k) name is at = absurd (omega (arith, is))
  slice_get-vif_slot (r ∷ rs) (suc i) zero name is at = absurd (omega (arith, is))
  slice_get-vif_slot (r ∷ rs) (suc i) (suc zero) name is at = absurd (omega (arith, is))
  slice_get-vif_slot (r ∷ rs) (suc i) (suc (suc k)) name is at =
      slice_get-vif_slot rs i k name (omega (arith, is)) at

  -- its cache the odd ones,
  pub slice_get-cache_slot : (rs : List RouterRow) (i k : ℕ) (name : List ℕ) → k ≡ 2 * i + 1
      → option_map (λ r. r.name) (slice_get rs i) ≡ Some name
      → slice_get (flat_map router_slots rs ++ more) k ≡ Some (cache_slot name)
  slice_get-cache_slot [] i k name is at = absurd cc
  slice_get-cache_slot (r ∷ rs) zero zero name is at = absurd (omega (arith, is))
  slice_get-cache_slot (r ∷ rs) zero (suc zero) name is at =
      let same : r.name ≡ name = cc in ap (λ n. Some (cache_slot n)) same
  slice_get-cache_slot (r ∷ rs) zero (suc (suc k)) name is at = absurd (omega (arith, is))
  slice_get-cache_slot (r ∷ rs) (suc i) zero name is at = absurd (omega (arith, is))
  slice_get-cache_slot (r ∷ rs) (suc i) (suc zero) name is at = absurd (omega (arith, is))
  slice_get-cache_slot (r ∷ rs) (suc i) (suc (suc k)) name is at =
      slice_get-cache_slot rs i k name (omega (arith, is)) at

  -- those after them the next,
  pub slice_get-after_routers : (rs : List RouterRow) (k : ℕ)
      → slice_get (flat_map router_slots rs ++ more) (k + 2 * length rs) ≡ slice_get more k
  slice_get-after_routers [] k = let same : k + 0 ≡ k = omega arith in ap (slice_get more) same
  slice_get-after_routers (r ∷ rs) k =
      let same : k + 2 * suc (length rs) ≡ suc (suc (k + 2 * length rs)) = omega arith in
      ap (slice_get (flat_map router_slots (r ∷ rs) ++ more)) same ∙ slice_get-after_routers rs k

  -- and each LAN's reports theirs
  pub slice_get-reports_slot : (lans : List (List ℕ)) (k : ℕ) (lan : List ℕ) → slice_get lans k ≡ Some lan
      → slice_get (map reports_slot lans ++ more) k ≡ Some (reports_slot lan)
  slice_get-reports_slot [] k lan at = absurd cc
  slice_get-reports_slot (l ∷ lans) zero lan at =
      let same : l ≡ lan = cc in ap (λ n. Some (reports_slot n)) same
  slice_get-reports_slot (l ∷ lans) (suc k) lan at = slice_get-reports_slot lans k lan at

  -- and those after them the next
  pub slice_get-after_lans : (lans : List (List ℕ)) (k : ℕ)
      → slice_get (map reports_slot lans ++ more) (k + length lans) ≡ slice_get more k
  slice_get-after_lans [] k = let same : k + 0 ≡ k = omega arith in ap (slice_get more) same
  slice_get-after_lans (l ∷ lans) k =
      let same : k + suc (length lans) ≡ suc (k + length lans) = omega arith in
      ap (slice_get (map reports_slot (l ∷ lans) ++ more)) same ∙ slice_get-after_lans lans k

-- a number of one more is that behind the topology
slice_get-behind_first : (xs : List Slot) (s : Slot) (n k : ℕ) → n ≡ k + 1
    → slice_get (s ∷ xs) n ≡ slice_get xs k
slice_get-behind_first xs s zero k is = absurd (omega (arith, is))
slice_get-behind_first xs s (suc n) k is = let same : n ≡ k = omega (arith, is) in ap (slice_get xs) same

-- a slot of the routers
pub router_slot : (certified : Bool) (t : TopologyValue) (n k : ℕ) (slot : Slot) → n ≡ k + 1
    → ((more : List Slot) → slice_get (flat_map router_slots t.routers ++ more) k ≡ Some slot)
    → slice_get (slots certified t) n ≡ Some slot
router_slot certified t n k slot is at =
    slice_get-behind_first (slots_after_topology certified t) topology_slot n k is
    ∙ at (map reports_slot t.lans ++ certificate_slots certified)

-- the vifs of one of the routers
pub slots-vif_slot : (certified : Bool) (t : TopologyValue) (n router : ℕ) (name : List ℕ)
    → n ≡ 1 + 2 * router → option_map (λ r. r.name) (slice_get t.routers router) ≡ Some name
    → slice_get (slots certified t) n ≡ Some (vif_slot name)
slots-vif_slot certified t n router name is at =
    router_slot certified t n (2 * router) (vif_slot name) (omega (arith, is))
    (λ more. slice_get-vif_slot more t.routers router (2 * router) name refl at)

-- and its cache
pub slots-cache_slot : (certified : Bool) (t : TopologyValue) (n router : ℕ) (name : List ℕ)
    → n ≡ 2 + 2 * router → option_map (λ r. r.name) (slice_get t.routers router) ≡ Some name
    → slice_get (slots certified t) n ≡ Some (cache_slot name)
slots-cache_slot certified t n router name is at =
    router_slot certified t n (2 * router + 1) (cache_slot name) (omega (arith, is))
    (λ more. slice_get-cache_slot more t.routers router (2 * router + 1) name refl at)

-- a slot behind those of the routers
slots-behind_routers : (certified : Bool) (t : TopologyValue) (n k : ℕ)
    → n ≡ k + 2 * length t.routers + 1
    → slice_get (slots certified t) n
    ≡ slice_get (map reports_slot t.lans ++ certificate_slots certified) k
slots-behind_routers certified t n k is =
    slice_get-behind_first (slots_after_topology certified t) topology_slot n (k + 2 * length t.routers) is
    ∙ slice_get-after_routers (map reports_slot t.lans ++ certificate_slots certified) t.routers k

-- one of the LANs
pub slots-reports_slot : (certified : Bool) (t : TopologyValue) (n k : ℕ) (lan : List ℕ)
    → n ≡ k + 2 * length t.routers + 1 → slice_get t.lans k ≡ Some lan
    → slice_get (slots certified t) n ≡ Some (reports_slot lan)
slots-reports_slot certified t n k lan is at =
    slots-behind_routers certified t n k is
    ∙ slice_get-reports_slot (certificate_slots certified) t.lans k lan at

-- and behind those of the LANs the certificate's alone
pub slots-certificate_slot : (certified : Bool) (t : TopologyValue) (n : ℕ)
    → 2 * length t.routers + length t.lans < n → n < length (slots certified t)
    → slice_get (slots certified t) n ≡ Some certificate_slot
slots-certificate_slot false t n past within =
    absurd (omega (arith, past, within, length-slots_after_topology false t))
slots-certificate_slot true t n past within =
    slots-behind_routers true t n (length t.lans)
    (omega (arith, past, within, length-slots_after_topology true t))
    ∙ ap (slice_get (map reports_slot t.lans ++ certificate_slots true)) zero_first
    ∙ slice_get-after_lans (certificate_slots true) t.lans 0
  where
    zero_first : length t.lans ≡ 0 + length t.lans
    zero_first = omega arith

-- a certificate comes after all of them
pub slots-with_certificate : (certified : Bool) (t : TopologyValue) (n : ℕ) (slot : Slot)
    → slice_get (slots false t) n ≡ Some slot → slice_get (slots certified t) n ≡ Some slot
slots-with_certificate false t n slot at = at
slots-with_certificate true t n slot at =
    let routers = flat_map router_slots t.routers in
    let lans = map reports_slot t.lans in
    let last = certificate_slot ∷ [] in
    let same : (routers ++ (lans ++ [])) ++ last ≡ routers ++ (lans ++ last) =
    append_assoc routers (lans ++ []) last ∙ ap (λ ss. routers ++ (ss ++ last)) (append-nil lans) in
    subst (λ (ss : List Slot). slice_get (topology_slot ∷ ss) n ≡ Some slot) same
    (slice_get-append_front (slots false t) last n slot at)

-- ---- their names in a bundle

-- the slot's name in a bundle is one that a part may have
abbrev HasPartName : Slot → Type 0
HasPartName slot = IsPartName (part_name slot)

module _ (P : Slot → Type 0) where
  -- what holds of a vif's and a cache's slot of each name holds of those of routers
  AllByRecursion-router_slots : (rs : List RouterRow)
      → ((n : ℕ) (r : RouterRow) → slice_get rs n ≡ Some r → IsTrue (is_name r.name))
      → ((name : List ℕ) → IsTrue (is_name name) → P (vif_slot name) × P (cache_slot name))
      → AllByRecursion P (flat_map router_slots rs)
  AllByRecursion-router_slots [] named each = tt
  AllByRecursion-router_slots (r ∷ rs) named each =
      let here = each r.name (named 0 r refl) in
      (here.0, (here.1, AllByRecursion-router_slots rs (λ n q at. named (suc n) q at) each))

  -- what holds of the slot of reports of each name holds of those of LANs
  AllByRecursion-reports_slots : (lans : List (List ℕ))
      → ((n : ℕ) (lan : List ℕ) → slice_get lans n ≡ Some lan → IsTrue (is_name lan))
      → ((name : List ℕ) → IsTrue (is_name name) → P (reports_slot name))
      → AllByRecursion P (map reports_slot lans)
  AllByRecursion-reports_slots [] named each = tt
  AllByRecursion-reports_slots (lan ∷ lans) named each =
      (each lan (named 0 lan refl), AllByRecursion-reports_slots lans (λ n q at. named (suc n) q at) each)

  -- what holds of the slots of each name holds of those of a topology
  AllByRecursion-slots_after_topology : (certified : Bool) (t : TopologyValue) → IsValidTopology t
      → ((name : List ℕ) → IsTrue (is_name name) → P (vif_slot name) × P (cache_slot name))
      → ((name : List ℕ) → IsTrue (is_name name) → P (reports_slot name))
      → AllByRecursion P (certificate_slots certified) → AllByRecursion P (slots_after_topology certified t)
  AllByRecursion-slots_after_topology certified t is routers lans last =
      AllByRecursion-append P (flat_map router_slots t.routers)
      (map reports_slot t.lans ++ certificate_slots certified)
      (AllByRecursion-router_slots t.routers is.valid_router_names routers)
      (AllByRecursion-append P (map reports_slot t.lans) (certificate_slots certified)
      (AllByRecursion-reports_slots t.lans is.valid_lan_names lans) last)

-- topology is a name
is_name-topology : is_name (codes "topology") ≡ true
unfolding is_name
is_name-topology = refl

-- certificate is a name
is_name-certificate : is_name (codes "certificate") ≡ true
unfolding is_name
is_name-certificate = refl

-- vif/NAME is a part's name
pub HasPartName-vif_slot : (name : List ℕ) → is_name name ≡ true → HasPartName (vif_slot name)
HasPartName-vif_slot name is = IsPartName-append (codes "vif/") name refl (lit≤ tt) is

-- cache/NAME is a part's name
pub HasPartName-cache_slot : (name : List ℕ) → is_name name ≡ true → HasPartName (cache_slot name)
HasPartName-cache_slot name is = IsPartName-append (codes "cache/") name refl (lit≤ tt) is

-- igmp/NAME is a part's name
pub HasPartName-reports_slot : (name : List ℕ) → is_name name ≡ true → HasPartName (reports_slot name)
HasPartName-reports_slot name is = IsPartName-append (codes "igmp/") name refl (lit≤ tt) is

-- topology is a part's name
pub IsPartName-topology : IsPartName (codes "topology")
IsPartName-topology = IsPartName-append [] (codes "topology") refl (lit≤ tt) is_name-topology

-- certificate is a part's name
pub IsPartName-certificate : IsPartName (codes "certificate")
IsPartName-certificate = IsPartName-append [] (codes "certificate") refl (lit≤ tt) is_name-certificate

-- the certificate's slot, if there is one, has a part's name
HasPartName-certificate_slots : (certified : Bool) → AllByRecursion HasPartName (certificate_slots certified)
HasPartName-certificate_slots true = (IsPartName-certificate, tt)
HasPartName-certificate_slots false = tt

-- each slot of a domain has a part's name
pub HasPartName-slots : (certified : Bool) (t : TopologyValue) → IsValidTopology t
    → AllByRecursion HasPartName (slots certified t)
HasPartName-slots certified t is = (
  IsPartName-topology,
  AllByRecursion-slots_after_topology HasPartName certified t is
      (λ name ok. (HasPartName-vif_slot name ok, HasPartName-cache_slot name ok))
      HasPartName-reports_slot (HasPartName-certificate_slots certified),
)

-- ---- their names in a folder

-- the slot's name in a folder has bytes of names alone
abbrev HasPlainFileName : Slot → Type 0
HasPlainFileName slot = IsTrue (list_all is_name_byte (file_name slot))

-- a name of the topology has such bytes alone
list_all-is_name_byte : (name : List ℕ) → is_name name ≡ true → list_all is_name_byte name ≡ true
unfolding is_name
list_all-is_name_byte name is =
    (and_parts (nat_le 1 (length name) && nat_le (length name) 32)
    (list_all is_name_byte name) is).1

-- so has that of the certificate's slot, if there is one
HasPlainFileName-certificate_slots : (certified : Bool)
    → AllByRecursion HasPlainFileName (certificate_slots certified)
HasPlainFileName-certificate_slots true = (refl, tt)
HasPlainFileName-certificate_slots false = tt

-- so has that of each slot of a domain
pub HasPlainFileName-slots : (certified : Bool) (t : TopologyValue) → IsValidTopology t
    → AllByRecursion HasPlainFileName (slots certified t)
HasPlainFileName-slots certified t is = (
  refl,
  AllByRecursion-slots_after_topology HasPlainFileName certified t is
      (λ name ok. (list_all-is_name_byte name ok, list_all-is_name_byte name ok)) list_all-is_name_byte
      (HasPlainFileName-certificate_slots certified),
)
