-- Each router on a LAN of a search is named by a line about that LAN.
use Rattle.std.proofs.Common.{◌≡◌, ◌==◌, ◌||◌, ℕ, ◌<◌, inl, inr, Bool, true, false, cond, List, [], ◌∷◌, ◌++◌}
use Rattle.std.proofs.Common.{flat_map, filter, find, length, Option, Some, None, refl, ap}
use Rattle.std.proofs.Common.{ap₂, sym, subst, ◌∙◌}
use Rattle.std.specs.Prelude.{◌⊎◌, ◌&&◌, not, codes, slice_get, unwrap_or}
use Rattle.std.specs.Option.{option_and_then}
use Rattle.std.specs.Str.{bytes_eq}
use Rattle.std.proofs.lemmas.Bool.{and_parts, eq-eqb, eqb-true, false≢true, not-true}
use Rattle.std.proofs.lemmas.Option.{slice_get_within}
use Rattle.std.proofs.lemmas.Slice.Eq.{bytes_eq-Decides}
use Rattle.mc_text.specs.Names.{is_device_name}
use Rattle.mc_tables.specs.VifTable.{VifValue, no_device}
use Rattle.mc_topology.specs.Names.{is_device}
use Rattle.mc_topology.specs.SectionRows.{InterfaceRow}
use Rattle.mc_topology.specs.Topology.{AreDistinctBy, IsIn, TopologyValue, interface_key, lan_of_interface}
use Rattle.mc_topology.proofs.InterfaceLemmas.{lan_of_interface-listed_row}
use Rattle.mc_theory.specs.Lists.{In, below}
use Rattle.mc_theory.specs.Nets.{Row, is_lan}
use Rattle.mc_theory.specs.Nets.Row.{Exact, Open, NoRow as no_row}
use Rattle.mc_theory.specs.Flights.{Copy}
use Rattle.mc_theory.specs.Findings.{taken_from}
use Rattle.mc_theory.specs.CertificateOfCopies.{threshold_of}
use Rattle.mc_theory.proofs.ListLemmas.{in-append_left, in-append_right, in-below, in-filter, in-flat_map}
use Rattle.mc_theory.proofs.ListLemmas.{in-map}
use Rattle.mc_forward.specs.Domains.{DomainValue, IsDomain, lan_of_vif, vif_of}
use Rattle.mc_forward.specs.ListedTables.{DomainFacts, facts}
use Rattle.mc_search.specs.declared.search_line.SearchLine.{SearchLine}
use Rattle.mc_search.specs.declared.search_line.SearchLine.TheVariants.{DoesNotSend}
use Rattle.mc_search.specs.declared.search_line.SearchLine.TheVariants.{EverySource}
use Rattle.mc_search.specs.declared.search_line.SearchLine.TheVariants.{ExpectedFromHere}
use Rattle.mc_search.specs.declared.search_line.SearchLine.TheVariants.{FromUnplaced}
use Rattle.mc_search.specs.declared.search_line.SearchLine.TheVariants.{Excluded, NoRow}
use Rattle.mc_search.specs.declared.search_line.SearchLine.TheVariants.{NoVif, NotMulticast}
use Rattle.mc_search.specs.declared.search_line.SearchLine.TheVariants.{Unresolved}
use Rattle.mc_search.specs.declared.listed_interface.ListedInterface.{ListedInterface}
use Rattle.mc_search.specs.SearchLine.{Search, carried, device_lines, expected_lines, group_by_router}
use Rattle.mc_search.specs.SearchLine.{stopped_or_waiting}
use Rattle.mc_search.specs.SearchLine.{is_expecting, is_excluded, is_unresolved, is_virtual, add_to_group}
use Rattle.mc_search.specs.SearchLine.{lans_of_search, closing_lines, lines_of_routers, lines_of_lan, net}
use Rattle.mc_search.specs.SearchLine.{router_lines}
use Rattle.mc_search.specs.SearchLine.{routers_on, row_lines, search_lines, sends_by, table_lines}
use Rattle.mc_search.specs.SearchLine.{incoming_lines, vif_line, vif_lines}
use Rattle.mc_search.specs.SearchNames.{NamesRouter, lan_and_router_of}
use Rattle.mc_search.specs.TopologyLans.{interfaces_by_router, interface_at, vif_has_device}
use Rattle.mc_search.specs.TopologyLans.{listed_interface_at, listed_interface_of, interfaces_of_router}
use Rattle.mc_search.specs.TopologyLans.{interfaces_on_lan}

-- ---- lines that name a router, among others

-- lines before others
names_router-left : (lan r : ℕ) (xs ys : List SearchLine) → NamesRouter lan r xs
    → NamesRouter lan r (xs ++ ys)
names_router-left lan r xs ys n = (n.0, (in-append_left n.0 xs ys n.1.0, n.1.1))

-- lines after others
names_router-right : (lan r : ℕ) (xs ys : List SearchLine) → NamesRouter lan r ys
    → NamesRouter lan r (xs ++ ys)
names_router-right lan r xs ys n = (n.0, (in-append_right n.0 xs ys n.1.0, n.1.1))

-- the lines of an item
names_router-flat_map : {A : Type 0} (lan r : ℕ) (f : A → List SearchLine) (x : A) (xs : List A) → In x xs
    → NamesRouter lan r (f x) → NamesRouter lan r (flat_map f xs)
names_router-flat_map lan r f x xs h n = (n.0, (in-flat_map f x n.0 xs h n.1.0, n.1.1))

-- one line
names_router-one : (lan r : ℕ) (line : SearchLine) → lan_and_router_of line ≡ (lan, Some r)
    → NamesRouter lan r (line ∷ [])
names_router-one lan r line is = (line, (inl refl, is))

-- ---- the routers of a LAN

-- an interface is in the group of its router
abbrev IsGrouped : ListedInterface → List (ℕ × List ListedInterface) → Type 0
IsGrouped i gs = (g : ℕ × List ListedInterface) × (In g gs × ((g.0 ≡ i.router) × In i g.1))

-- an interface that is added is in a group of its router
is_grouped-own : (i : ListedInterface) (gs : List (ℕ × List ListedInterface))
    → IsGrouped i (add_to_group i gs)
is_grouped-own i [] = ((i.router, i ∷ []), (inl refl, (refl, inl refl)))
is_grouped-own i (g ∷ gs) = by (g.0 == i.router)
  where
    by : (b : Bool) → IsGrouped i (cond b ((i.router, i ∷ g.1) ∷ gs) ((i.router, i ∷ []) ∷ g ∷ gs))
    by true = ((i.router, i ∷ g.1), (inl refl, (refl, inl refl)))
    by false = ((i.router, i ∷ []), (inl refl, (refl, inl refl)))

-- it is there still after another one was added
is_grouped-later : (i j : ListedInterface) (gs : List (ℕ × List ListedInterface)) → IsGrouped i gs
    → IsGrouped i (add_to_group j gs)
is_grouped-later i j [] (g, (h, is)) = absurd h
is_grouped-later i j (f ∷ gs) (g, (h, is)) = by (f.0 == j.router) refl
  where
    by : (b : Bool) → (f.0 == j.router) ≡ b
        → IsGrouped i (cond b ((j.router, j ∷ f.1) ∷ gs) ((j.router, j ∷ []) ∷ f ∷ gs))
    by true e = elim h [
      | inl same ↦ (
        (j.router, j ∷ f.1),
        (
          inl refl,
          (
            sym (eqb-true f.0 j.router e) ∙ ap (λ (x : ℕ × List ListedInterface). x.0) same ∙ is.0,
            inr (subst (λ (x : ℕ × List ListedInterface). In i x.1) (sym same) is.1),
          ),
        ),
      )
      | inr k ↦ (g, (inr k, is))
    ]
    by false e = (g, (inr h, is))

-- so each interface is
is_grouped-group_by_router : (i : ListedInterface) (is : List ListedInterface) → In i is
    → IsGrouped i (group_by_router is)
is_grouped-group_by_router i [] h = absurd h
is_grouped-group_by_router i (j ∷ is) (inl e) =
    subst (λ (x : ListedInterface). IsGrouped i (add_to_group x (group_by_router is))) (sym e)
    (is_grouped-own i (group_by_router is))
is_grouped-group_by_router i (j ∷ is) (inr h) = is_grouped-later i j (group_by_router is)
    (is_grouped-group_by_router i is h)

-- ---- an interface of the topology among those on its LAN

-- the interface with a number
interface_at-from_get : (t : TopologyValue) (k : ℕ) (i : InterfaceRow) → slice_get t.interfaces k ≡ Some i
    → interface_at t k ≡ i
interface_at-from_get t k i at =
    ap (λ (o : Option InterfaceRow). unwrap_or o (record { router = 0; device = []; lan = 0 })) at

-- it is among those on its LAN
in-interfaces_on_lan : (x : DomainFacts) (k : ℕ) (i : InterfaceRow) → slice_get x.topology.interfaces k
    ≡ Some i
    → i.router < length x.topology.routers → In (listed_interface_of x k i) (interfaces_on_lan x i.lan)
in-interfaces_on_lan x k i at few =
    let t = x.topology in
    let here = interface_at-from_get t k i at in
    let within : In k (below (length t.interfaces)) =
    in-below k (length t.interfaces) (slice_get_within t.interfaces k i at) in
    let own : In k (interfaces_of_router t (below (length t.interfaces)) i.router) =
    in-filter (λ (n : ℕ). (interface_at t n).router == i.router) k (below (length t.interfaces)) within
    (eq-eqb (interface_at t k).router i.router (ap (λ (y : InterfaceRow). y.router) here)) in
    let all : In k (interfaces_by_router t) =
    in-flat_map (interfaces_of_router t (below (length t.interfaces))) i.router k (below (length t.routers))
    (in-below i.router (length t.routers) few) own in
    subst (λ (y : InterfaceRow). In (listed_interface_of x k y) (interfaces_on_lan x i.lan)) here
    (in-map (listed_interface_at x) k (filter (λ (n : ℕ). (interface_at t n).lan == i.lan)
    (interfaces_by_router t))
    (in-filter (λ (n : ℕ). (interface_at t n).lan == i.lan) k (interfaces_by_router t) all
    (eq-eqb (interface_at t k).lan i.lan (ap (λ (y : InterfaceRow). y.lan) here))))

-- ---- the LAN on which its vif is placed

-- the vif of its device, if that is no tunnel and no register vif, is placed on its LAN
abbrev PlacedOn : DomainFacts → (flow : ℕ) → ListedInterface → (lan : ℕ) → Type 0
PlacedOn x flow i lan = (vif : ℕ) → i.vif ≡ Some vif → is_virtual (x.vifs i.router vif) ≡ false
    → (x.nets flow).placed i.router vif ≡ Some lan

-- what is found passes the test
find-passes : (p : ℕ → Bool) (xs : List ℕ) (x : ℕ) → find p xs ≡ Some x → p x ≡ true
find-passes p [] x e = absurd cc
find-passes p (y ∷ ys) x e = by (p y) refl (find-passes p ys x) e
  where
    by : (b : Bool) → p y ≡ b → (find p ys ≡ Some x → p x ≡ true)
        → cond b (Some y) (find p ys) ≡ Some x → p x ≡ true
    by true passes later e = let same : y ≡ x = cc in subst (λ (z : ℕ). p z ≡ true) same passes
    by false fails later e = later e

-- a device's name isn't the one that stands for none
bytes_eq-no_device : (device : List ℕ) → is_device device ≡ true → bytes_eq device no_device ≡ false
unfolding is_device
bytes_eq-no_device device ok =
    not-true (bytes_eq device no_device)
    (and_parts (is_device_name device) (not (bytes_eq device (codes "none"))) ok).1

-- the kernel's vif of the device
lan_of_vif-from_device : (t : TopologyValue) (k : ℕ) (i : InterfaceRow) → AreDistinctBy interface_key
    t.interfaces
    → slice_get t.interfaces k ≡ Some i → is_device i.device ≡ true
    → (o : Option VifValue) → vif_has_device i.device o ≡ true → is_virtual o ≡ false
    → option_and_then (lan_of_vif t i.router) o ≡ Some i.lan
lan_of_vif-from_device t k i distinct at ok None own real = absurd (false≢true own)
lan_of_vif-from_device t k i distinct at ok (Some v) own real =
    let device : v.device ≡ i.device = (bytes_eq-Decides v.device i.device).0 own in
    let apart : bytes_eq v.device no_device ≡ false =
    ap (λ (d : List ℕ). bytes_eq d no_device) device ∙ bytes_eq-no_device i.device ok in
    ap₂ (λ (a b : Bool). cond (a || b) None (lan_of_interface i.router v.device t.interfaces)) real apart
    ∙ ap (λ (d : List ℕ). lan_of_interface i.router d t.interfaces) device
    ∙ lan_of_interface-listed_row t.interfaces k i distinct at

-- so it is in a domain
placed_on-from_is_domain : (d : DomainValue) (flow k : ℕ) (i : InterfaceRow) → IsDomain d
    → slice_get d.topology.interfaces k ≡ Some i → PlacedOn (facts d) flow (listed_interface_of (facts d) k
    i) i.lan
placed_on-from_is_domain d flow k i ok at vif found real =
    lan_of_vif-from_device d.topology k i ok.topology.distinct_interfaces at
    (ok.topology.valid_interfaces k i at).device (vif_of d.vifs i.router vif)
    (find-passes (λ v. vif_has_device i.device (vif_of d.vifs i.router v)) (below 32) vif found) real

-- ---- the lines of a router

-- the line of a vif is about its LAN and names its router
lan_and_router_of-vif_line : (s : Search) (lan r from : ℕ) (pairs : List (ℕ × ℕ)) (vif : ℕ)
    → lan_and_router_of (vif_line s lan r from pairs vif) ≡ (lan, Some r)
lan_and_router_of-vif_line s lan r from pairs vif = by (sends_by vif pairs) (s.first_copy_on from)
  where
    by : (b : Bool) (o : Option Copy) → lan_and_router_of
        (cond b (stopped_or_waiting o lan r vif from (threshold_of vif pairs))
        (DoesNotSend lan r vif from (carried s from))) ≡ (lan, Some r)
    by true None = refl
    by true (Some copy) = refl
    by false o = refl

-- a router whose row takes from another LAN, by its vifs or its devices
names_router-vifs_and_devices : (s : Search) (lan from : ℕ) (pairs : List (ℕ × ℕ)) (g : ℕ
    × List ListedInterface)
    (i : ListedInterface) → In i g.1 → g.0 ≡ i.router → PlacedOn s.domain s.flow i lan
    → NamesRouter lan g.0 (flat_map (λ j. vif_lines s lan g.0 from pairs j.vif) g.1
    ++ flat_map (λ j. device_lines s lan j j.vif) g.1)
names_router-vifs_and_devices s lan from pairs g i h own placed = by i.vif refl
  where
    rows : List SearchLine
    rows = flat_map (λ j. vif_lines s lan g.0 from pairs j.vif) g.1

    devices : List SearchLine
    devices = flat_map (λ j. device_lines s lan j j.vif) g.1

    of_device : NamesRouter lan g.0 (device_lines s lan i i.vif) → NamesRouter lan g.0 (rows ++ devices)
    of_device n =
        names_router-right lan g.0 rows devices (names_router-flat_map lan g.0 (λ j. device_lines s lan j
        j.vif) i g.1 h n)

    real : (vif : ℕ) (b : Bool) → i.vif ≡ Some vif → is_virtual (s.domain.vifs i.router vif) ≡ b
        → NamesRouter lan g.0 (rows ++ devices)
    real vif true at e =
        of_device (subst (λ (o : Option ℕ). NamesRouter lan g.0 (device_lines s lan i o)) (sym at)
        (subst (λ (b : Bool). NamesRouter lan g.0 (cond b (NotMulticast lan i.router i.interface ∷ []) []))
        (sym e) (names_router-one lan g.0 (NotMulticast lan i.router i.interface)
        (ap (λ (r : ℕ). (lan, Some r)) (sym own)))))
    real vif false at e =
        let here : is_lan ((net s).placed g.0 vif) lan ≡ true =
        ap (λ (r : ℕ). is_lan ((net s).placed r vif) lan) own
        ∙ ap (λ (o : Option ℕ). is_lan o lan) (placed vif at e) ∙ eq-eqb lan lan refl in
        names_router-left lan g.0 rows devices
        (names_router-flat_map lan g.0 (λ j. vif_lines s lan g.0 from pairs j.vif) i g.1 h
        (subst (λ (o : Option ℕ). NamesRouter lan g.0 (vif_lines s lan g.0 from pairs o)) (sym at)
        (subst (λ (b : Bool). NamesRouter lan g.0 (cond b (vif_line s lan g.0 from pairs vif ∷ []) []))
        (sym here) (names_router-one lan g.0 (vif_line s lan g.0 from pairs vif)
        (lan_and_router_of-vif_line s lan g.0 from pairs vif)))))

    by : (o : Option ℕ) → i.vif ≡ o → NamesRouter lan g.0 (rows ++ devices)
    by None at =
        of_device (subst (λ (o : Option ℕ). NamesRouter lan g.0 (device_lines s lan i o)) (sym at)
        (names_router-one lan g.0 (NoVif lan i.router i.interface) (ap (λ (r : ℕ). (lan, Some r)) (sym own))))
    by (Some vif) at = real vif (is_virtual (s.domain.vifs i.router vif)) at refl

-- a line by its tables names the router, or its row takes from the LAN
abbrev IsNamedBy : Search → (lan : ℕ) → ℕ × List ListedInterface → Row → Type 0
IsNamedBy s lan g row =
    NamesRouter lan g.0 (row_lines s lan g.0 g.1 row ++ flat_map (λ j. device_lines s lan j j.vif) g.1)
    ⊎ (is_lan (taken_from (net s) g.0 row) lan ≡ true)

-- so it is for each row
is_named_by-row : (s : Search) (lan : ℕ) (g : ℕ × List ListedInterface) (i : ListedInterface) → In i g.1
    → g.0 ≡ i.router → PlacedOn s.domain s.flow i lan → (row : Row) → IsNamedBy s lan g row
is_named_by-row s lan g i h own placed (Exact incoming pairs) = from-where ((net s).placed g.0 incoming)
  where
    devices : List SearchLine
    devices = flat_map (λ j. device_lines s lan j j.vif) g.1

    from-where : (o : Option ℕ) → NamesRouter lan g.0 (incoming_lines s lan g.0 pairs g.1 o ++ devices)
        ⊎ (is_lan o lan ≡ true)
    from-where None =
        inl (names_router-left lan g.0 (FromUnplaced lan g.0 ∷ []) devices
        (names_router-one lan g.0 (FromUnplaced lan g.0) refl))
    from-where (Some from) =
        elim (from == lan) as (λ b. NamesRouter lan g.0 (cond b []
        (flat_map (λ j. vif_lines s lan g.0 from pairs j.vif) g.1) ++ devices) ⊎ (b ≡ true)) [
          | true ↦ inr refl
          | false ↦ inl (names_router-vifs_and_devices s lan from pairs g i h own placed)
        ]
is_named_by-row s lan g i h own placed Open =
    inl (names_router-left lan g.0 (EverySource lan g.0 ∷ []) (flat_map (λ j. device_lines s lan j j.vif) g.1)
    (names_router-one lan g.0 (EverySource lan g.0) refl))
is_named_by-row s lan g i h own placed no_row =
    inl (names_router-left lan g.0 (cond (is_unresolved s g.0) (Unresolved lan g.0) (NoRow lan g.0) ∷ [])
    (flat_map (λ j. device_lines s lan j j.vif) g.1) (by (is_unresolved s g.0)))
  where
    by : (b : Bool) → NamesRouter lan g.0 (cond b (Unresolved lan g.0) (NoRow lan g.0) ∷ [])
    by true = names_router-one lan g.0 (Unresolved lan g.0) refl
    by false = names_router-one lan g.0 (NoRow lan g.0) refl

-- ---- the lines of a LAN

-- the lines of all routers name each of these
names_router-lines_of_routers : (s : Search) (lan : ℕ) (gs : List (ℕ × List ListedInterface))
    (g : ℕ × List ListedInterface) (i : ListedInterface) → In g gs → In i g.1 → g.0 ≡ i.router
    → PlacedOn s.domain s.flow i lan → NamesRouter lan g.0 (lines_of_routers s lan gs)
names_router-lines_of_routers s lan gs g i h k own placed = by (is_excluded s.excluded g.0) refl
  where
    router_part : List SearchLine
    router_part = flat_map (router_lines s lan) gs

    expected : List SearchLine
    expected = flat_map (expected_lines s lan) gs

    by_router_lines : NamesRouter lan g.0 (router_lines s lan g) → NamesRouter lan g.0 (router_part
        ++ expected)
    by_router_lines n =
        names_router-left lan g.0 router_part expected (names_router-flat_map lan g.0 (router_lines s lan) g
        gs h n)

    by : (b : Bool) → is_excluded s.excluded g.0 ≡ b → NamesRouter lan g.0 (router_part ++ expected)
    by true e =
        by_router_lines (subst (λ (b : Bool). NamesRouter lan g.0
        (cond b (Excluded lan g.0 ∷ []) (table_lines s lan g))) (sym e)
        (names_router-one lan g.0 (Excluded lan g.0) refl))
    by false e = elim (is_named_by-row s lan g i k own placed ((net s).row g.0)) [
      | inl n ↦ by_router_lines (subst (λ (b : Bool). NamesRouter lan g.0
          (cond b (Excluded lan g.0 ∷ []) (table_lines s lan g))) (sym e) n)
      | inr takes ↦ (
          let expects : is_expecting s lan g.0 ≡ true =
          ap₂ (λ (a b : Bool). not a && b) e takes in
          names_router-right lan g.0 router_part expected (names_router-flat_map lan g.0
          (expected_lines s lan) g gs h
          (subst (λ (b : Bool). NamesRouter lan g.0 (cond b (ExpectedFromHere lan g.0 ∷ []) []))
          (sym expects) (names_router-one lan g.0 (ExpectedFromHere lan g.0) refl))))
    ]

-- the lines of a LAN name the router of each interface on it
names_router-lines_of_lan : (s : Search) (lan : ℕ) (i : ListedInterface)
    → In i (interfaces_on_lan s.domain lan)
    → PlacedOn s.domain s.flow i lan → NamesRouter lan i.router (lines_of_lan s lan)
names_router-lines_of_lan s lan i h placed =
    let (g, (k, is)) = is_grouped-group_by_router i (interfaces_on_lan s.domain lan) h in
    names_router-left lan i.router (lines_of_routers s lan (routers_on s lan))
    (closing_lines s lan (routers_on s lan) (lines_of_routers s lan (routers_on s lan)))
    (subst (λ (r : ℕ). NamesRouter lan r (lines_of_routers s lan (routers_on s lan))) is.0
    (names_router-lines_of_routers s lan (routers_on s lan) g i k is.1 is.0 placed))

-- so do those of a search, for each LAN that it visits
pub names_router-search_lines : (d : DomainValue) (s : Search) (missed : ℕ) (i : InterfaceRow) → IsDomain d
    → s.domain ≡ facts d → IsIn d.topology.interfaces i → In i.lan (lans_of_search s missed)
    → NamesRouter i.lan i.router (search_lines s missed)
names_router-search_lines d s missed i ok same (k, at) h =
    let few = (ok.topology.valid_interfaces k i at).router in
    names_router-flat_map i.lan i.router (lines_of_lan s) i.lan (lans_of_search s missed) h
    (names_router-lines_of_lan s i.lan (listed_interface_of s.domain k i)
    (subst (λ (x : DomainFacts). In (listed_interface_of x k i) (interfaces_on_lan x i.lan)) (sym same)
    (in-interfaces_on_lan (facts d) k i at few))
    (subst (λ (x : DomainFacts). PlacedOn x s.flow (listed_interface_of x k i) i.lan) (sym same)
    (placed_on-from_is_domain d s.flow k i ok at)))
