-- A table of the LANs of all vifs, and the interfaces of each LAN by it.
use Rattle.std.proofs.Common.{◌≡◌, ℕ, ◌+◌, ◌<◌, inl, inr, Bool, true, false, cond}
use Rattle.std.proofs.Common.{List, [], ◌∷◌, ◌++◌, map, filter, flat_map, length, take, set, get_or}
use Rattle.std.proofs.Common.{slice_get, Option, Some, None, refl, ap, sym, ◌∙◌}
use Rattle.std.proofs.Common.{arith, append_assoc, append-nil}
use Rattle.std.specs.Prelude.{slice_index_or, option_and_then}
use Rattle.std.proofs.lemmas.Bool.{cases_eq, cases_lt, eq-eqb, ne_eqb}
use Rattle.std.proofs.lemmas.List.{get_or-set_same, get_or-set_other, get_or_default, get_or_past}
use Rattle.std.proofs.lemmas.List.{map-append, take_more_set}
use Rattle.std.proofs.lemmas.List.Elements.{filter-append}
use Rattle.std.proofs.lemmas.List.Concat.{flat_map-append}
use Rattle.std.proofs.lemmas.Option.{unwrap_or-slice_get, get_or_from_slice_get}
use Rattle.std.specs.FinMap as finite
use Rattle.mc_topology.specs.Topology.{TopologyValue, IsValidTopology}
use Rattle.mc_theory.specs.Lists.{below}
use Rattle.mc_theory.specs.Nets.{Interface, interfaces, is_lan, router_vif_pairs}
use Rattle.mc_forward.specs.Domains.{VifsValue, DomainValue, AreVifs, lan_of_vif, placed_in}
use Rattle.mc_forward.specs.Domains.{placed_of}
use Rattle.mc_forward.specs.DomainParts.{vif_lans_of, interfaces_of}
use Rattle.mc_forward.specs.Assembling.{vif_lan_in, interfaces_by_vif_lans, vifs_on, vif_lans_by_vifs}
use Rattle.mc_forward.proofs.BelowLemmas.{below-more, map_below-more, slice_get-map_below}
use Rattle.mc_forward.proofs.DomainLemmas.{length-vif_lans_of, placed_in-below_lan_count}
use Rattle.mc_forward.proofs.DomainLemmas.{vif_lans-placed_of}
use Rattle.mc_forward.proofs.UnknownRouterLemmas.{placed_of-none_past_last_router}

-- ---- one vif more

-- the vifs on a LAN, with the next one
vifs_on-more : (vif_lans : List (Option ℕ)) (router lan k : ℕ)
    → vifs_on vif_lans router lan (below (k + 1)) ≡ vifs_on vif_lans router lan
    (below k) ++ vifs_on vif_lans router lan (k ∷ [])
vifs_on-more vif_lans router lan k =
    let test : ℕ → Bool = λ vif. is_lan (slice_index_or vif_lans vif None) lan in
    let pair : ℕ → Interface = λ vif. (router, vif) in
    ap (vifs_on vif_lans router lan) (below-more k)
    ∙ ap (map pair) (filter-append test (below k) (k ∷ []))
    ∙ map-append pair (filter test (below k)) (filter test (k ∷ []))

-- one vif, if it is there
map-filter_of_one : (router k : ℕ) (b : Bool) → map {B = Interface} (λ (vif : ℕ). (router, vif))
    (cond b (k ∷ []) []) ≡ cond b ((router, k) ∷ []) []
map-filter_of_one router k true = refl
map-filter_of_one router k false = refl

-- of one vif: it is on the LAN, or nothing is
vifs_on-single : (vif_lans : List (Option ℕ)) (router lan k : ℕ) (b : Bool)
    → is_lan (slice_index_or vif_lans k None) lan ≡ b
    → vifs_on vif_lans router lan (k ∷ []) ≡ cond b ((router, k) ∷ []) []
vifs_on-single vif_lans router lan k b e =
    ap (λ (t : Bool). map {B = Interface} (λ (vif : ℕ). (router, vif)) (cond t (k ∷ []) [])) e
    ∙ map-filter_of_one router k b

-- the lists have what was in them at first, and a router's vifs so far
abbrev pub HaveVifs : List (List Interface) → List (List Interface) → List (Option ℕ) → ℕ → ℕ
    → Type 0
HaveVifs start lists vif_lans router k =
    (lan : ℕ) → lan < length start → slice_index_or lists lan []
    ≡ slice_index_or start lan [] ++ vifs_on vif_lans router lan (below k)

-- nothing of this vif on this LAN
vifs_on-more_unplaced : (vif_lans : List (Option ℕ)) (router lan k : ℕ) (old now : List Interface)
    → is_lan (slice_index_or vif_lans k None) lan ≡ false
    → now ≡ old ++ vifs_on vif_lans router lan (below k)
    → now ≡ old ++ vifs_on vif_lans router lan (below (k + 1))
vifs_on-more_unplaced vif_lans router lan k old now e h =
    h ∙ ap (λ is. old ++ is) (sym (append-nil (vifs_on vif_lans router lan (below k)))
    ∙ ap (λ is. vifs_on vif_lans router lan (below k) ++ is)
    (sym (vifs_on-single vif_lans router lan k false e))
    ∙ sym (vifs_on-more vif_lans router lan k))

-- this vif on this LAN
vifs_on-more_placed : (vif_lans : List (Option ℕ)) (router lan k : ℕ) (old now : List Interface)
    → is_lan (slice_index_or vif_lans k None) lan ≡ true
    → now ≡ old ++ vifs_on vif_lans router lan (below k)
    → now ++ (router, k) ∷ [] ≡ old ++ vifs_on vif_lans router lan (below (k + 1))
vifs_on-more_placed vif_lans router lan k old now e h =
    ap (λ is. is ++ (router, k) ∷ []) h ∙ append_assoc old (vifs_on vif_lans router lan (below k))
    ((router, k) ∷ [])
    ∙ ap (λ is. old ++ is) (ap (λ is. vifs_on vif_lans router lan (below k) ++ is)
    (sym (vifs_on-single vif_lans router lan k true e)) ∙ sym (vifs_on-more vif_lans router lan k))

-- the next vif is placed on no LAN
pub have_vifs-more_unplaced : (start lists : List (List Interface)) (vif_lans : List (Option ℕ))
    (router k : ℕ)
    → slice_index_or vif_lans k None ≡ None
    → HaveVifs start lists vif_lans router k → HaveVifs start lists vif_lans router (k + 1)
have_vifs-more_unplaced start lists vif_lans router k none have lan lt =
    vifs_on-more_unplaced vif_lans router lan k (slice_index_or start lan []) (slice_index_or lists lan [])
    (ap (λ (o : Option ℕ). is_lan o lan) none) (have lan lt)

-- the next vif is placed on the LAN q, to whose list it was added
pub have_vifs-more_placed : (start lists : List (List Interface)) (vif_lans : List (Option ℕ))
    (router k q : ℕ)
    (own next : List Interface)
    → q < length lists → own ≡ get_or lists q own → next ≡ own ++ (router, k) ∷ []
    → slice_index_or vif_lans k None ≡ Some q
    → HaveVifs start lists vif_lans router k → HaveVifs start (set lists q next) vif_lans router (k + 1)
have_vifs-more_placed start lists vif_lans router k q own next within read is at have lan lt =
    elim (cases_eq lan q) [
      | inl same ↦ (
          let here : get_or (set lists q next) lan [] ≡ next =
          ap (λ (n : ℕ). get_or (set lists q next) n []) same
          ∙ get_or-set_same lists q next [] within in
          let was : own ≡ get_or lists lan [] = read ∙ get_or_default lists q own [] within
          ∙ ap (λ (n : ℕ). get_or lists n []) (sym same) in
          here ∙ is ∙ vifs_on-more_placed vif_lans router lan k (slice_index_or start lan []) own
          (ap (λ (o : Option ℕ). is_lan o lan) at ∙ eq-eqb q lan (sym same)) (was ∙ have lan lt))
      | inr other ↦ (
          get_or-set_other lists q lan next [] other
          ∙ vifs_on-more_unplaced vif_lans router lan k (slice_index_or start lan []) (get_or lists lan [])
          (ap (λ (o : Option ℕ). is_lan o lan) at ∙ ne_eqb q lan (λ e. other (sym e)))
          (have lan lt))
    ]

-- ---- one router more

-- items are picked before they are mapped, or after
filter-map : {A B : Type 0} (p : B → Bool) (f : A → B) (xs : List A)
    → filter p (map f xs) ≡ map f (filter (λ x. p (f x)) xs)
filter-map p f [] = refl
filter-map p f (x ∷ xs) = step p f x xs (p (f x)) (filter-map p f xs)
  where
    step : {A B : Type 0} (p : B → Bool) (f : A → B) (x : A) (xs : List A) (b : Bool)
        → filter p (map f xs) ≡ map f (filter (λ x. p (f x)) xs)
        → cond b (f x ∷ filter p (map f xs)) (filter p (map f xs))
        ≡ map f (cond b (x ∷ filter (λ x. p (f x)) xs) (filter (λ x. p (f x)) xs))
    step p f x xs true e = ap (λ ys. f x ∷ ys) e
    step p f x xs false e = e

-- the vifs of one router more come after the others
router_vif_pairs-more : (r : ℕ) →
    router_vif_pairs 32 (r + 1) ≡ router_vif_pairs 32 r ++ map {B = Interface} (λ (v : ℕ). (r, v))
    (below 32)
router_vif_pairs-more r =
    ap (flat_map (λ (n : ℕ). map {B = Interface} (λ (v : ℕ). (n, v)) (below 32))) (below-more r)
    ∙ flat_map-append (λ (n : ℕ). map {B = Interface} (λ (v : ℕ). (n, v)) (below 32)) (below r)
    (r ∷ [])
    ∙ ap (λ is. router_vif_pairs 32 r ++ is) (append-nil (map {B = Interface} (λ (v : ℕ). (r, v)) (below 32)))

-- so do its interfaces on a LAN
pub interfaces_by_vif_lans-more : (vif_lans : List (List (Option ℕ))) (r lan : ℕ)
    → interfaces_by_vif_lans vif_lans (r + 1) lan ≡ interfaces_by_vif_lans vif_lans r lan ++ vifs_on
    (slice_index_or vif_lans r []) r lan (below 32)
interfaces_by_vif_lans-more vif_lans r lan =
    let test : Interface → Bool = λ i. is_lan (vif_lan_in vif_lans i.0 i.1) lan in
    ap (filter test) (router_vif_pairs-more r) ∙ filter-append test (router_vif_pairs 32 r)
    (map {B = Interface} (λ (v : ℕ). (r, v)) (below 32))
    ∙ ap (λ is. interfaces_by_vif_lans vif_lans r lan ++ is)
    (filter-map {B = Interface} test (λ (v : ℕ). (r, v)) (below 32))

-- ---- the table of a domain

-- the table has the LAN of each vif
vif_lan_in-placed_of : (d : DomainValue) (vif_lans : List (List (Option ℕ)))
    → AreVifs d.topology d.vifs → vif_lans ≡ vif_lans_of d → (router vif : ℕ)
    → vif_lan_in vif_lans router vif ≡ placed_of d router vif
vif_lan_in-placed_of d vif_lans ok e router vif = elim (cases_lt router (length d.topology.routers)) [
  | inl lt ↦ (
      let own = get_or vif_lans router [] in
      let size : length vif_lans ≡ length d.topology.routers = ap length e ∙ length-vif_lans_of d in
      sym (unwrap_or-slice_get own vif None)
      ∙ vif_lans-placed_of d vif_lans own router vif ok e lt
      (get_or_default vif_lans router [] own (omega (arith, size, lt))))
  | inr past ↦ (
      let size : length vif_lans ≡ length d.topology.routers = ap length e ∙ length-vif_lans_of d in
      ap (λ (row : List (Option ℕ)). get_or row vif None)
      (get_or_past vif_lans router [] (omega (arith, size, past)))
      ∙ sym (placed_of-none_past_last_router d ok router vif past))
]

-- these are LANs of the topology
pub vif_lan_in-below_lan_count : (d : DomainValue) (vif_lans : List (List (Option ℕ)))
    → IsValidTopology d.topology → AreVifs d.topology d.vifs → vif_lans ≡ vif_lans_of d
    → (router vif lan : ℕ) → vif_lan_in vif_lans router vif ≡ Some lan → lan < length d.topology.lans
vif_lan_in-below_lan_count d vif_lans rules ok e router vif lan at =
    placed_in-below_lan_count d.topology d.vifs router vif rules (Some lan)
    (sym (vif_lan_in-placed_of d vif_lans ok e router vif) ∙ at)

-- the interfaces of each LAN, by where vifs are placed
filter-by_placed_of : (d : DomainValue) (place : ℕ → ℕ → Option ℕ) (routers : ℕ) → place ≡ placed_of d
    → routers ≡ length d.topology.routers
    → map (λ lan. filter (λ (i : Interface). is_lan (place i.0 i.1) lan) (router_vif_pairs 32 routers))
    (below (length d.topology.lans)) ≡ interfaces_of d
unfolding interfaces
filter-by_placed_of d place routers e size =
    let lans = below (length d.topology.lans) in
    ap (λ (p : ℕ → ℕ → Option ℕ). map (λ lan. filter (λ (i : Interface). is_lan (p i.0 i.1) lan)
    (router_vif_pairs 32 routers)) lans) e
    ∙ ap (λ (n : ℕ). map (λ lan. filter (λ (i : Interface). is_lan (placed_of d i.0 i.1) lan)
    (router_vif_pairs 32 n)) lans) size

-- so by the table they are those of the domain
pub interfaces_by_vif_lans-interfaces_of : (d : DomainValue) (vif_lans : List (List (Option ℕ)))
    → AreVifs d.topology d.vifs → vif_lans ≡ vif_lans_of d
    → map (interfaces_by_vif_lans vif_lans (length vif_lans)) (below (length d.topology.lans))
    ≡ interfaces_of d
interfaces_by_vif_lans-interfaces_of d vif_lans ok e =
    let same : vif_lan_in vif_lans ≡ placed_of d =
    λ i router vif. vif_lan_in-placed_of d vif_lans ok e router vif
    i in
    filter-by_placed_of d (vif_lan_in vif_lans) (length vif_lans) same (ap length e ∙ length-vif_lans_of d)

-- ---- loops

-- one vif's place more
pub take_set-map_below_more : (f : ℕ → Option ℕ) (vif_lans : List (Option ℕ)) (k : ℕ) (o : Option ℕ)
    → k < length vif_lans → take k vif_lans ≡ map f (below k)
    → o ≡ f k → take (k + 1) (set vif_lans k o) ≡ map f (below (k + 1))
take_set-map_below_more f vif_lans k o lt done is =
    take_more_set vif_lans k o lt ∙ ap (λ os. os ++ o ∷ []) done
    ∙ ap (λ p. map f (below k) ++ p ∷ []) is ∙ sym (map_below-more f k)

-- one item more of a list by numbers
pub map_below-push : {A : Type 0} (f : ℕ → A) (xs ys : List A) (k : ℕ) (x : A) → xs ≡ map f (below k)
    → ys ≡ xs ++ x ∷ [] → x ≡ f k
    → ys ≡ map f (below (k + 1))
map_below-push f xs ys k x done more is =
    more ∙ ap (λ zs. zs ++ x ∷ []) done ∙ ap (λ y. map f (below k) ++ y ∷ []) is
    ∙ sym (map_below-more f k)

-- a list by no numbers
pub map_below-none : {A : Type 0} (f : ℕ → A) (xs : List A) → xs ≡ [] → xs ≡ map f (below 0)
unfolding below
map_below-none f xs e = e

-- the places by a router's own vifs are those by all routers'
pub vif_lans_by_vifs-own : (t : TopologyValue) (vifs : List VifsValue) (router : ℕ) (own : VifsValue)
    → slice_get vifs router ≡ Some own
    → vif_lans_by_vifs t router own ≡ map (placed_in t vifs router) (below 32)
vif_lans_by_vifs-own t vifs router own at =
    ap (λ (o : Option VifsValue). map (λ vif. option_and_then (lan_of_vif t router)
    (option_and_then (λ x. finite.get x vif) o)) (below 32)) (sym at)

-- no vif of a router was added yet
pub have_vifs-start : (lists : List (List Interface)) (vif_lans : List (Option ℕ)) (router : ℕ)
    → HaveVifs lists lists vif_lans router 0
unfolding below
have_vifs-start lists vif_lans router lan lt = sym (append-nil (slice_index_or lists lan []))

-- the lists before the first router
pub lists-before_first_router : (lists : List (List Interface)) (vif_lans : List (List (Option ℕ))) (lans : ℕ)
    → lists ≡ map (λ lan. []) (below lans)
    → (lan : ℕ) → lan < lans → slice_index_or lists lan [] ≡ interfaces_by_vif_lans vif_lans 0 lan
unfolding below
lists-before_first_router lists vif_lans lans e lan lt =
    get_or_from_slice_get lists lan [] [] (ap (λ (xs : List (List Interface)). slice_get xs lan) e
    ∙ slice_get-map_below (λ n. []) lans lan lt)

-- the lists after one router more
pub lists-after_next_router : (old now : List (List Interface)) (vif_lans : List (List (Option ℕ)))
    (own : List (Option ℕ)) (lans r : ℕ) → length old ≡ lans
    → r < length vif_lans → own ≡ get_or vif_lans r own
    → ((lan : ℕ) → lan < lans → slice_index_or old lan [] ≡ interfaces_by_vif_lans vif_lans r lan)
    → ((lan : ℕ) → lan < length old → slice_index_or now lan []
    ≡ slice_index_or old lan [] ++ vifs_on own r lan (below 32))
    → (lan : ℕ) → lan < lans → slice_index_or now lan [] ≡ interfaces_by_vif_lans vif_lans (r + 1) lan
lists-after_next_router old now vif_lans own lans r size within read before added lan lt =
    let row : own ≡ slice_index_or vif_lans r [] = read ∙ get_or_default vif_lans r own [] within in
    added lan (omega (arith, size, lt)) ∙ ap (λ is. is ++ vifs_on own r lan (below 32))
    (before lan lt)
    ∙ ap (λ (o : List (Option ℕ)). interfaces_by_vif_lans vif_lans r lan ++ vifs_on o r lan (below 32)) row
    ∙ sym (interfaces_by_vif_lans-more vif_lans r lan)

-- a place that was read, whatever the default for one past the end
pub slice_index_or-from_read : (vif_lans : List (Option ℕ)) (k : ℕ) (d o : Option ℕ) → k < length vif_lans
    → get_or vif_lans k d ≡ o → slice_index_or vif_lans k None ≡ o
slice_index_or-from_read vif_lans k d o lt read = get_or_default vif_lans k None d lt ∙ read
