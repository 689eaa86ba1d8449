-- Look-ups by name and by number are inverse.
use Rattle.std.proofs.Common.{◌≡◌, ℕ, ◌<◌, ◌≤◌, nat_le, not, codes, Bool, true, false, List, []}
use Rattle.std.proofs.Common.{◌∷◌, length, get_or, Option, Some, None, option_map, refl, ap, subst}
use Rattle.std.proofs.Common.{◌∙◌, arith}
use Rattle.std.specs.Prelude.{position, slice_get}
use Rattle.std.specs.List.{position_or_len}
use Rattle.std.specs.Str.{bytes_eq}
use Rattle.std.proofs.lemmas.Bool.{lt-ltb, leb-true, and_parts, false_from_ne_true}
use Rattle.std.proofs.lemmas.List.Quantifiers.{position-Some}
use Rattle.std.proofs.lemmas.List.Sums.{position_or_len_is}
use Rattle.std.proofs.lemmas.Option.{slice_get_within, slice_get-get_or, get_or_from_slice_get}
use Rattle.std.proofs.lemmas.Slice.Eq.{bytes_eq-Decides}
use Rattle.mc_topology.specs.SectionRows.{RouterRow}
use Rattle.mc_text.specs.Names.{is_device_name}
use Rattle.mc_topology.specs.Names.{is_device, index_of}
use Rattle.mc_topology.specs.Lookup.{router_no_of}
use Rattle.mc_topology.specs.Topology.{AreDistinctBy, lan_key, router_key}

module _ {X : Type 0} where
  -- the place of an item that passes a test which no earlier one passes
  position-first_match : (p : X → Bool) (xs : List X) (k : ℕ) (x : X) → slice_get xs k ≡ Some x → p x ≡ true
      → ((j : ℕ) → j < k → p (get_or xs j x) ≡ false) → position p xs ≡ Some k
  position-first_match p xs k x e passes before =
      let within = slice_get_within xs k x e in
      let is : position_or_len p xs ≡ k =
      position_or_len_is p xs k x (omega (arith, within)) before
      (λ _. ap p (get_or_from_slice_get xs k x x e) ∙ passes) in
      rw (is, lt-ltb k (length xs) within) refl

  -- the place of an item by its name, where no two have the same
  position-distinct_name : (name_of : X → List ℕ) (xs : List X) (k : ℕ) (x : X) → AreDistinctBy name_of xs
      → slice_get xs k ≡ Some x → position (λ y. bytes_eq (name_of y) (name_of x)) xs ≡ Some k
  position-distinct_name name_of xs k x distinct e =
      position-first_match (λ y. bytes_eq (name_of y) (name_of x)) xs k x e
      ((bytes_eq-Decides (name_of x) (name_of x)).1 refl)
      (λ j lt.
      false_from_ne_true _ (λ same.
      let within = slice_get_within xs k x e in
      let at = slice_get-get_or xs j x (omega (arith, lt, within)) in
      let one : j ≡ k = distinct j k (get_or xs j x) x at e
      ((bytes_eq-Decides (name_of (get_or xs j x)) (name_of x)).0 same) in
      omega (arith, lt, one)))

-- ---- LANs

-- the number of a LAN's name is the LAN's, where no two LANs have the same name
pub index_of-lan_name : (lans : List (List ℕ)) (lan : ℕ) (name : List ℕ) → AreDistinctBy lan_key lans
    → slice_get lans lan ≡ Some name → index_of name lans ≡ Some lan
index_of-lan_name lans lan name distinct e = position-distinct_name lan_key lans lan name distinct e

-- the LAN of a name's number has the name
pub lan_name-index_of : (lans : List (List ℕ)) (lan : ℕ) (name : List ℕ) → index_of name lans ≡ Some lan
    → slice_get lans lan ≡ Some name
lan_name-index_of lans lan name e =
    let at = position-Some (λ y. bytes_eq y name) lans lan name e in
    slice_get-get_or lans lan name at.0
    ∙ ap Some ((bytes_eq-Decides (get_or lans lan name) name).0 at.1)

-- a name's number is below the number of LANs
pub index_of-below_length : (lans : List (List ℕ)) (lan : ℕ) (name : List ℕ) → index_of name lans ≡ Some lan
    → lan < length lans
index_of-below_length lans lan name e = (position-Some (λ y. bytes_eq y name) lans lan name e).0

-- ---- routers

-- a name's number is below the number of routers
pub router_no_of-below_length : (routers : List RouterRow) (router : ℕ) (name : List ℕ)
    → router_no_of name routers ≡ Some router → router < length routers
router_no_of-below_length [] router name e = absurd cc
router_no_of-below_length (r ∷ routers) router name e =
    (position-Some (λ y. bytes_eq y.name name) (r ∷ routers) router r e).0

-- a router, by its name
router-from_its_name : (o : Option RouterRow) (name : List ℕ)
    → option_map (λ (r : RouterRow). r.name) o ≡ Some name → (r : RouterRow) × (o ≡ Some r)
    × (r.name ≡ name)
router-from_its_name None name e = absurd cc
router-from_its_name (Some r) name e = (r, refl, cc)

-- the number of a router's name is the router's, where no two have the same name
pub router_no_of-router_name : (routers : List RouterRow) (router : ℕ) (name : List ℕ)
    → AreDistinctBy router_key routers
    → option_map (λ (r : RouterRow). r.name) (slice_get routers router) ≡ Some name
    → router_no_of name routers ≡ Some router
router_no_of-router_name routers router name distinct e =
    let (r, found, called) = router-from_its_name (slice_get routers router) name e in
    subst (λ (n : List ℕ). router_no_of n routers ≡ Some router) called
    (position-distinct_name router_key routers router r distinct found)

-- the router of a name's number has the name
pub router_name-router_no_of : (routers : List RouterRow) (router : ℕ) (name : List ℕ)
    → router_no_of name routers ≡ Some router
    → option_map (λ (r : RouterRow). r.name) (slice_get routers router) ≡ Some name
router_name-router_no_of [] router name e = absurd cc
router_name-router_no_of (r ∷ routers) router name e =
    let at = position-Some (λ y. bytes_eq y.name name) (r ∷ routers) router r e in
    let found = slice_get-get_or (r ∷ routers) router r at.0 in
    ap (option_map (λ (x : RouterRow). x.name)) found
    ∙ ap Some ((bytes_eq-Decides (get_or (r ∷ routers) router r).name name).0 at.1)

-- ---- devices

-- the name of a device has at most 15 bytes
pub device_length-at_most_15 : (text : List ℕ) → is_device text ≡ true → length text ≤ 15
unfolding is_device
device_length-at_most_15 text e =
    let device = and_parts (is_device_name text) (not (bytes_eq text (codes "none"))) e in
    let long = and_parts _ _ device.0 in
    let both = and_parts (nat_le 1 (length text)) (nat_le (length text) 15) long.0 in
    leb-true (length text) 15 both.1
