-- The routers of a search, one by one.
use Rattle.std.proofs.Common.{◌≡◌, ℕ, zero, suc, ◌+◌, ◌<◌, ◌≤◌, ◌==◌, ◌||◌, ◌&&◌, ◌⊎◌, not, All}
use Rattle.std.proofs.Common.{inl, inr, Bool, true, false, cond, List, [], ◌∷◌, ◌++◌}
use Rattle.std.proofs.Common.{length, map, filter, flat_map, take, get_or, refl, ap, sym, subst}
use Rattle.std.proofs.Common.{◌∙◌, arith, append-nil}
use Rattle.std.specs.List.{list_any}
use Rattle.std.proofs.lemmas.Bool.{eqb-true}
use Rattle.std.proofs.lemmas.List.{flat_map_more, take_more}
use Rattle.std.proofs.lemmas.List.Elements.{filter-append}
use Rattle.mc_theory.specs.Lists.{In, below}
use Rattle.mc_theory.proofs.ListLemmas.{in-below_cases, in-filter_cases, in-flat_map_cases}
use Rattle.mc_theory.proofs.ListLemmas.{in-map_cases}
use Rattle.mc_theory.proofs.ListLemmas.{in-push_cases}
use Rattle.mc_theory.specs.Events.{Event}
use Rattle.mc_forward.specs.ListedTables.{DomainFacts}
use Rattle.mc_search.specs.declared.listed_interface.ListedInterface.{ListedInterface}
use Rattle.mc_search.specs.TopologyLans.{interface_at, listed_interface_at, interfaces_of_router}
use Rattle.mc_search.specs.TopologyLans.{interfaces_on_lan}
use Rattle.mc_search.specs.SearchLine.{Search, append_new, group_by_router, add_to_group}
use Rattle.mc_search.specs.SearchLine.{router_of_group, routers_on}
use Rattle.mc_search.specs.SearchReach.{has_event, routers_of_lans}
use Rattle.mc_search.specs.BucketsAndMarks.{AreMarksOf}
use Rattle.mc_search.specs.declared.reach.Handling.{Handling}
use Rattle.mc_search.specs.declared.reach.Handling.TheVariants.{SentOn, TookNone}

-- one router more, which passes the test or doesn't
pub filter-take_more : (p : ℕ → Bool) (rs : List ℕ) (i r : ℕ) (found now : List ℕ) (b : Bool)
    → i < length rs → r ≡ get_or rs i r → p r ≡ b → found ≡ filter p (take i rs)
    → now ≡ cond b (found ++ r ∷ []) found → now ≡ filter p (take (i + 1) rs)
filter-take_more p rs i r found now b lt read test before more =
    more ∙ ap (λ (xs : List ℕ). cond b (xs ++ r ∷ []) xs) before ∙ by b
    ∙ ap (λ (c : Bool). filter p (take i rs) ++ cond c (r ∷ []) []) (sym test)
    ∙ sym (filter-append p (take i rs) (r ∷ []))
    ∙ ap (filter p) (sym (take_more rs i r lt ∙ ap (λ (x : ℕ). take i rs ++ x ∷ []) (sym read)))
  where
    by : (c : Bool) → cond c (filter p (take i rs) ++ r ∷ []) (filter p (take i rs))
        ≡ filter p (take i rs) ++ cond c (r ∷ []) []
    by true = refl
    by false = sym (append-nil (filter p (take i rs)))

-- each group is of an interface's router
group-has_interface : (is : List ListedInterface) (g : ℕ × List ListedInterface) → In g (group_by_router is)
    → (i : ListedInterface) × In i is × (i.router ≡ g.0)
group-has_interface [] g h = absurd h
group-has_interface (i ∷ is) g h = by (group_by_router is) (group-has_interface is g) h
  where
    here : (g : ℕ × List ListedInterface) (xs : List ListedInterface) → (i.router, xs) ≡ g
        → (j : ListedInterface) × In j (i ∷ is) × (j.router ≡ g.0)
    here g xs e = (i, inl refl, ap (λ (x : ℕ × List ListedInterface). x.0) e)

    later : (g : ℕ × List ListedInterface)
        → ((j : ListedInterface) × In j is × (j.router ≡ g.0))
        → (j : ListedInterface) × In j (i ∷ is) × (j.router ≡ g.0)
    later g found = (found.0, inr found.1, found.2)

    cut : (b : Bool) (k : ℕ × List ListedInterface) (gs : List (ℕ × List ListedInterface))
        → (In g (k ∷ gs) → (j : ListedInterface) × In j is × (j.router ≡ g.0))
        → In g (cond b ((i.router, i ∷ k.1) ∷ gs) ((i.router, i ∷ []) ∷ k ∷ gs))
        → (j : ListedInterface) × In j (i ∷ is) × (j.router ≡ g.0)
    cut true k gs old (inl e) = here g (i ∷ k.1) e
    cut true k gs old (inr h) = later g (old (inr h))
    cut false k gs old (inl e) = here g (i ∷ []) e
    cut false k gs old (inr h) = later g (old h)

    by : (gs : List (ℕ × List ListedInterface))
        → (In g gs → (j : ListedInterface) × In j is × (j.router ≡ g.0))
        → In g (add_to_group i gs) → (j : ListedInterface) × In j (i ∷ is) × (j.router ≡ g.0)
    by [] old (inl e) = here g (i ∷ []) e
    by [] old (inr none) = absurd none
    by (k ∷ gs) old h = cut (k.0 == i.router) k gs old h

-- its router is one of the topology
pub group_router-of_topology : (d : DomainFacts) (lan : ℕ) (g : ℕ × List ListedInterface)
    → In g (group_by_router (interfaces_on_lan d lan)) → g.0 < length d.topology.routers
group_router-of_topology d lan g h =
    let t = d.topology in
    let found = group-has_interface (interfaces_on_lan d lan) g h in
    let at = in-map_cases (listed_interface_at d) found.0 _ found.1 in
    let on = in-filter_cases (λ k. (interface_at t k).lan == lan) at.0 _ at.1 in
    let by = in-flat_map_cases (interfaces_of_router t (below (length t.interfaces))) at.0
    (below (length t.routers)) on.0 in
    let own = in-filter_cases (λ k. (interface_at t k).router == by.0) at.0 _ by.2 in
    let lt = in-below_cases by.0 (length t.routers) by.1 in
    let same : (interface_at t at.0).router ≡ by.0 = eqb-true (interface_at t at.0).router by.0 own.1 in
    let is : (interface_at t at.0).router ≡ g.0 =
    ap (λ (i : ListedInterface). i.router) at.2 ∙ found.2 in
    subst (λ (r : ℕ). r < length t.routers) (sym same ∙ is) lt

-- new numbers of two parts, one after the other
pub append_new-append : (visited_lans xs ys : List ℕ) → append_new (append_new visited_lans xs) ys
    ≡ append_new visited_lans (xs ++ ys)
append_new-append visited_lans [] ys = refl
append_new-append visited_lans (x ∷ xs) ys = append_new-append (cond (list_any (λ m. m == x) visited_lans)
    visited_lans (visited_lans ++ x ∷ [])) xs ys

-- the routers on one LAN more
pub routers_of_lans-more : (s : Search) (lans : List ℕ) (i lan : ℕ) (old now : List ℕ) → i < length lans
    → lan ≡ get_or lans i lan → old ≡ routers_of_lans s (take i lans)
    → now ≡ append_new old (map router_of_group (routers_on s lan))
    → now ≡ routers_of_lans s (take (i + 1) lans)
routers_of_lans-more s lans i lan old now lt read before more =
    let own : ℕ → List ℕ = λ l. map router_of_group (routers_on s l) in
    more ∙ ap (λ (ms : List ℕ). append_new ms (own lan)) before
    ∙ append_new-append [] (flat_map own (take i lans)) (own lan)
    ∙ ap (append_new []) (flat_map_more own [] (take i lans) lan
    ∙ ap (flat_map own) (sym (take_more lans i lan lt ∙ ap (λ (x : ℕ). take i lans ++ x ∷ []) (sym read))))

-- a number of both is one of the old or of the new
in-from_append_new : (visited_lans more : List ℕ) (x : ℕ) → In x (append_new visited_lans more)
    → In x visited_lans ⊎ In x more
in-from_append_new visited_lans [] x h = inl h
in-from_append_new visited_lans (y ∷ more) x h =
    by (list_any (λ m. m == y) visited_lans) (in-from_append_new visited_lans more x)
    (in-from_append_new (visited_lans ++ y ∷ []) more x) h
  where
    old : In x visited_lans ⊎ In x more → In x visited_lans ⊎ In x (y ∷ more)
    old (inl a) = inl a
    old (inr b) = inr (inr b)

    new : In x (visited_lans ++ y ∷ []) ⊎ In x more → In x visited_lans ⊎ In x (y ∷ more)
    new (inl a) = elim (in-push_cases x visited_lans y a) [ inl b ↦ inl b | inr e ↦ inr (inl e) ]
    new (inr b) = inr (inr b)

    by : (b : Bool) → (In x (append_new visited_lans more) → In x visited_lans ⊎ In x more)
        → (In x (append_new (visited_lans ++ y ∷ []) more) → In x (visited_lans ++ y ∷ []) ⊎ In x more)
        → In x (append_new (cond b visited_lans (visited_lans ++ y ∷ [])) more) → In x visited_lans
        ⊎ In x (y ∷ more)
    by true f g k = old (f k)
    by false f g k = new (g k)

-- each router on the LANs is one of the topology
routers_of_lans-inside : (s : Search) (lans : List ℕ) (r : ℕ) → In r (routers_of_lans s lans)
    → r < length s.domain.topology.routers
routers_of_lans-inside s lans r h = elim (in-from_append_new [] _ r h) [
  | inl none ↦ absurd none
  | inr k ↦ (
      let on = in-flat_map_cases (λ lan. map router_of_group (routers_on s lan)) r lans k in
      let at = in-map_cases router_of_group r (routers_on s on.0) on.2 in
      subst (λ (n : ℕ). n < length s.domain.topology.routers) at.2
      (group_router-of_topology s.domain on.0 at.0 at.1))
]

-- an item at a place is in the list
in-get_or : (xs : List ℕ) (k d : ℕ) → k < length xs → In (get_or xs k d) xs
in-get_or [] k d lt = absurd (omega (arith, lt))
in-get_or (x ∷ xs) zero d lt = inl refl
in-get_or (x ∷ xs) (suc k) d lt = inr (in-get_or xs k d (omega (arith, lt)))

-- so each is below their number
pub routers_of_lans-all_below : (s : Search) (lans rs : List ℕ) (n : ℕ) → rs ≡ routers_of_lans s lans
    → length s.domain.topology.routers ≤ n → All (λ r. r < n) rs
routers_of_lans-all_below s lans rs n e le k d lt =
    let one = routers_of_lans-inside s lans (get_or rs k d)
    (subst (In (get_or rs k d)) e (in-get_or rs k d lt)) in
    omega (arith, one, le)

-- the marks of routers with such an event, and of those without one
pub are_marks_of-has_event : (events : List Event) (handling : Handling) (old now : List Bool)
    → length now ≡ length old
    → ((r : ℕ) → get_or old r false ≡ false)
    → ((r : ℕ) → r < length old → get_or now r false ≡ (get_or old r false || has_event handling events r))
    → AreMarksOf (has_event handling events) now
are_marks_of-has_event events handling old now count none marks r lt =
    marks r (subst (λ (n : ℕ). r < n) count lt)
    ∙ ap (λ (b : Bool). b || has_event handling events r) (none r)

-- and the marks of routers that took none and sent none on
pub are_marks_of-took_none : (events : List Event) (old now : List Bool) → length now ≡ length old
    → AreMarksOf (has_event TookNone events) old
    → ((r : ℕ) → r < length old
    → get_or now r false ≡ (get_or old r false && not (has_event SentOn events r)))
    → AreMarksOf (λ r. has_event TookNone events r && not (has_event SentOn events r)) now
are_marks_of-took_none events old now count before marks r lt =
    let within = subst (λ (n : ℕ). r < n) count lt in
    marks r within ∙ ap (λ (b : Bool). b && not (has_event SentOn events r)) (before r within)
