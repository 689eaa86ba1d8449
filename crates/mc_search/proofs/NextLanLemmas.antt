-- The LANs that lines lead to are LANs of the domain.
use Rattle.std.proofs.Common.{◌≡◌, ℕ, ◌<◌, ◌∷◌, [], ◌++◌, inl, inr, Bool, true, false, cond, List, length}
use Rattle.std.proofs.Common.{flat_map, Option, Some, None, refl, sym, subst, get_or, zero, suc, arith}
use Rattle.std.specs.Prelude.{IfSome, ◌==◌}
use Rattle.std.specs.List.{list_any}
use Rattle.mc_tables.specs.CacheTable.{EntryValue}
use Rattle.mc_theory.specs.Lists.{In}
use Rattle.mc_theory.specs.Nets.{Row, is_lan}
use Rattle.mc_theory.specs.Nets.Row.{Exact, Open, NoRow as no_row}
use Rattle.mc_theory.specs.Flights.{Copy}
use Rattle.mc_theory.specs.CertificateOfCopies.{threshold_of}
use Rattle.mc_theory.proofs.ListLemmas.{in-append_cases, in-flat_map_cases}
use Rattle.mc_forward.specs.Domains.{DomainValue, IsDomain}
use Rattle.mc_forward.specs.ListedTables.{DomainFacts, facts}
use Rattle.mc_forward.proofs.DomainLemmas.{placed-below_lan_count}
use Rattle.mc_search.specs.declared.search_line.SearchLine.{SearchLine}
use Rattle.mc_search.specs.declared.search_line.SearchLine.TheVariants.{DoesNotSend, Excluded}
use Rattle.mc_search.specs.declared.search_line.SearchLine.TheVariants.{NoRow, NoSender}
use Rattle.mc_search.specs.declared.search_line.SearchLine.TheVariants.{Unresolved}
use Rattle.mc_search.specs.declared.listed_interface.ListedInterface.{ListedInterface}
use Rattle.mc_search.specs.SearchLine.{Search, carried, device_lines, every_source_from, expected_lines}
use Rattle.mc_search.specs.SearchLine.{stopped_or_waiting, if_missed, is_excluded, is_unresolved}
use Rattle.mc_search.specs.SearchLine.{closing_lines, next_lan}
use Rattle.mc_search.specs.SearchLine.{lines_of_routers, lines_of_lan, may_send_here, net, router_lines}
use Rattle.mc_search.specs.SearchLine.{routers_on, row_for_every_source, row_lines, sends_by, table_lines}
use Rattle.mc_search.specs.SearchLine.{incoming_lines, vif_line, vif_lines}

-- each vif is placed on a LAN of the domain, or on none
abbrev pub PlacesInside : Search → Type 0
PlacesInside s = (router vif : ℕ) →
    IfSome ((net s).placed router vif) (λ lan. lan < length s.domain.topology.lans)

-- it is so in a search of a domain
pub places_inside-from_is_domain : (d : DomainValue) (s : Search) → IsDomain d → s.domain ≡ facts d
    → PlacesInside s
places_inside-from_is_domain d s ok same router vif =
    subst (λ (x : DomainFacts).
    IfSome ((x.nets s.flow).placed router vif) (λ lan. lan < length x.topology.lans)) (sym same)
    (placed-below_lan_count d router vif ok _ refl)

-- if a line leads to a LAN, then to one of the domain
abbrev pub NextLanIsInside : Search → SearchLine → Type 0
NextLanIsInside s line = IfSome (next_lan s line) (λ lan. lan < length s.domain.topology.lans)

-- it is so for each of these lines
abbrev pub NextLansAreInside : Search → List SearchLine → Type 0
NextLansAreInside s lines = (line : SearchLine) → In line lines → NextLanIsInside s line

-- for one line
next_lans_are_inside-one : (s : Search) (line : SearchLine) → NextLanIsInside s line
    → NextLansAreInside s (line ∷ [])
next_lans_are_inside-one s line h x (inl e) = subst (NextLanIsInside s) e h
next_lans_are_inside-one s line h x (inr none) = absurd none

-- for lines of two lists
next_lans_are_inside-append : (s : Search) (xs ys : List SearchLine) → NextLansAreInside s xs
    → NextLansAreInside s ys
    → NextLansAreInside s (xs ++ ys)
next_lans_are_inside-append s xs ys f g line h = elim (in-append_cases line xs ys h) [
  | inl left ↦ f line left
  | inr right ↦ g line right
]

-- for lines of each item
next_lans_are_inside-flat_map : {A : Type 0} (s : Search) (f : A → List SearchLine) (xs : List A)
    → ((x : A) → NextLansAreInside s (f x)) → NextLansAreInside s (flat_map f xs)
next_lans_are_inside-flat_map s f xs each line h =
    let found = in-flat_map_cases f line xs h in
    each found.0 line found.2

-- for a line that may be there
next_lans_are_inside-if : (s : Search) (b : Bool) (line : SearchLine) → NextLanIsInside s line
    → NextLansAreInside s (cond b (line ∷ []) [])
next_lans_are_inside-if s true line h = next_lans_are_inside-one s line h
next_lans_are_inside-if s false line h = λ x none. absurd none

-- for lines that may be left out
next_lans_are_inside-unless : (s : Search) (b : Bool) (lines : List SearchLine) → NextLansAreInside s lines
    → NextLansAreInside s (cond b [] lines)
next_lans_are_inside-unless s true lines h = λ x none. absurd none
next_lans_are_inside-unless s false lines h = h

-- a LAN that carried no copy, if a vif is placed on it
if_missed-inside : (s : Search) (o : Option ℕ) → IfSome o (λ lan. lan < length s.domain.topology.lans)
    → IfSome (if_missed s o) (λ lan. lan < length s.domain.topology.lans)
if_missed-inside s None h = h
if_missed-inside s (Some lan) h = by (carried s lan)
  where
    by : (b : Bool) → IfSome (cond b None (Some lan)) (λ l. l < length s.domain.topology.lans)
    by true = tt
    by false = h

-- the LAN that a (*,G) entry takes from
every_source_from-inside : (s : Search) (router : ℕ) → PlacesInside s → (o : Option (ℕ × EntryValue))
    → IfSome (every_source_from s router o) (λ lan. lan < length s.domain.topology.lans)
every_source_from-inside s router ok None = tt
every_source_from-inside s router ok (Some row) = ok router row.1.iif

-- the line of a vif by which a row sends: the copy is stopped, or the row waits for one
stopped_or_waiting-inside : (s : Search) (copy : Option Copy) (lan router vif from threshold : ℕ)
    → from < length s.domain.topology.lans → NextLanIsInside s (stopped_or_waiting copy lan router vif from
    threshold)
stopped_or_waiting-inside s None lan router vif from threshold h = h
stopped_or_waiting-inside s (Some copy) lan router vif from threshold h = tt

-- the line of a vif
vif_line-inside : (s : Search) (lan router from : ℕ) (pairs : List (ℕ × ℕ)) (vif : ℕ)
    → from < length s.domain.topology.lans → NextLanIsInside s (vif_line s lan router from pairs vif)
vif_line-inside s lan router from pairs vif h =
    by (sends_by vif pairs) (stopped_or_waiting (s.first_copy_on from) lan router vif from
    (threshold_of vif pairs))
    (stopped_or_waiting-inside s (s.first_copy_on from) lan router vif from (threshold_of vif pairs) h)
  where
    by : (b : Bool) (line : SearchLine) → NextLanIsInside s line
        → NextLanIsInside s (cond b line (DoesNotSend lan router vif from (carried s from)))
    by true line inside = inside
    by false line inside = tt

-- the line of an interface's vif, if it has one
vif_lines-inside : (s : Search) (lan router from : ℕ) (pairs : List (ℕ × ℕ)) (o : Option ℕ)
    → from < length s.domain.topology.lans → NextLansAreInside s (vif_lines s lan router from pairs o)
vif_lines-inside s lan router from pairs None h = λ x none. absurd none
vif_lines-inside s lan router from pairs (Some vif) h =
    next_lans_are_inside-if s (is_lan ((net s).placed router vif) lan) (vif_line s lan router from pairs vif)
    (vif_line-inside s lan router from pairs vif h)

-- the lines of an exact row, by the LAN that it takes from
incoming_lines-inside : (s : Search) (lan router : ℕ) (pairs : List (ℕ × ℕ)) (is : List ListedInterface)
    (o : Option ℕ) → IfSome o (λ l. l < length s.domain.topology.lans)
    → NextLansAreInside s (incoming_lines s lan router pairs is o)
incoming_lines-inside s lan router pairs is None h = next_lans_are_inside-one s _ tt
incoming_lines-inside s lan router pairs is (Some from) h =
    next_lans_are_inside-unless s (from == lan)
    (flat_map (λ (i : ListedInterface). vif_lines s lan router from pairs i.vif) is)
    (next_lans_are_inside-flat_map s (λ (i : ListedInterface). vif_lines s lan router from pairs i.vif) is
    (λ i. vif_lines-inside s lan router from pairs i.vif h))

-- the lines of a router by its row
row_lines-inside : (s : Search) (lan router : ℕ) (is : List ListedInterface) → PlacesInside s
    → (row : Row) → NextLansAreInside s (row_lines s lan router is row)
row_lines-inside s lan router is ok (Exact incoming pairs) =
    incoming_lines-inside s lan router pairs is ((net s).placed router incoming)
    (ok router incoming)
row_lines-inside s lan router is ok Open =
    next_lans_are_inside-one s _ (if_missed-inside s (every_source_from s router
    (row_for_every_source s router))
    (every_source_from-inside s router ok (row_for_every_source s router)))
row_lines-inside s lan router is ok no_row = by (is_unresolved s router)
  where
    by : (b : Bool) → NextLansAreInside s (cond b (Unresolved lan router) (NoRow lan router) ∷ [])
    by true = next_lans_are_inside-one s (Unresolved lan router) tt
    by false = next_lans_are_inside-one s (NoRow lan router) tt

-- the lines on a device
device_lines-inside : (s : Search) (lan : ℕ) (i : ListedInterface) (o : Option ℕ)
    → NextLansAreInside s (device_lines s lan i o)
device_lines-inside s lan i None = next_lans_are_inside-one s _ tt
device_lines-inside s lan i (Some vif) = next_lans_are_inside-if s _ _ tt

-- the lines that end those of a LAN
closing_lines-inside : (s : Search) (lan : ℕ) (gs : List (ℕ × List ListedInterface)) (lines : List SearchLine)
    → NextLansAreInside s (closing_lines s lan gs lines)
closing_lines-inside s lan gs [] = next_lans_are_inside-one s _ tt
closing_lines-inside s lan gs (line ∷ lines) =
    next_lans_are_inside-unless s (list_any (may_send_here s) gs) (NoSender lan ∷ [])
    (next_lans_are_inside-one s (NoSender lan) tt)

-- the lines of a router by its tables
table_lines-inside : (s : Search) (lan : ℕ) (g : ℕ × List ListedInterface) → PlacesInside s
    → NextLansAreInside s (table_lines s lan g)
table_lines-inside s lan g ok =
    next_lans_are_inside-append s _ _ (row_lines-inside s lan g.0 g.1 ok ((net s).row g.0))
    (next_lans_are_inside-flat_map s (λ (i : ListedInterface). device_lines s lan i i.vif) g.1
    (λ i. device_lines-inside s lan i i.vif))

-- the lines of a router
router_lines-inside : (s : Search) (lan : ℕ) (g : ℕ × List ListedInterface) → PlacesInside s
    → NextLansAreInside s (router_lines s lan g)
router_lines-inside s lan g ok = by (is_excluded s.excluded g.0)
  where
    by : (b : Bool) → NextLansAreInside s (cond b (Excluded lan g.0 ∷ []) (table_lines s lan g))
    by true = next_lans_are_inside-one s (Excluded lan g.0) tt
    by false = table_lines-inside s lan g ok

-- each line of a LAN
pub lines_of_lan-inside : (s : Search) (lan : ℕ) → PlacesInside s → NextLansAreInside s (lines_of_lan s lan)
lines_of_lan-inside s lan ok =
    next_lans_are_inside-append s (lines_of_routers s lan (routers_on s lan)) _
    (next_lans_are_inside-append s (flat_map (router_lines s lan) (routers_on s lan)) _
    (next_lans_are_inside-flat_map s (router_lines s lan) (routers_on s lan)
    (λ g. router_lines-inside s lan g ok))
    (next_lans_are_inside-flat_map s (expected_lines s lan) (routers_on s lan) (λ g. next_lans_are_inside-if
    s _ _ tt)))
    (closing_lines-inside s lan (routers_on s lan) (lines_of_routers s lan (routers_on s lan)))

-- an element at a place in the list is in the list
in-get_or : (xs : List SearchLine) (k : ℕ) (d : SearchLine) → k < length xs → In (get_or xs k d) xs
in-get_or [] k d lt = absurd (omega (arith, lt))
in-get_or (x ∷ xs) zero d lt = inl refl
in-get_or (x ∷ xs) (suc k) d lt = inr (in-get_or xs k d (omega (arith, lt)))

-- the same for each line that was added
pub added_line-inside : (s : Search) (lan : ℕ) (lines : List SearchLine) → PlacesInside s
    → lines ≡ lines_of_lan s lan → (k : ℕ) (d : SearchLine) → k < length lines
    → NextLanIsInside s (get_or lines k d)
added_line-inside s lan lines ok e k d lt =
    lines_of_lan-inside s lan ok (get_or lines k d)
    (subst (In (get_or lines k d)) e (in-get_or lines k d lt))
