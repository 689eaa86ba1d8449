-- No value of a flow that isn't right, or of why it isn't, has a fraction.
use Rattle.std.proofs.Common.{◌≡◌, ℕ, false, List, [], ◌∷◌, Option, Some, None, codes, flat_map, map, refl}
use Rattle.std.specs.Cmp.Lexicographic.{slice_cmp}
use Rattle.std.specs.Ordering.{nat_cmp, match_ordering}
use Rattle.std.specs.declared.cmp.Ordering.{Ordering}
use Rattle.std.specs.declared.cmp.Ordering.TheVariants.{Less, Equal, Greater}
use Rattle.std.proofs.lemmas.Bool.{or_parts}
use Rattle.mc_tables.specs.Summary.{SummaryValue}
use Rattle.mc_forward.specs.ListedTables.{DomainFacts}
use Rattle.mc_search.specs.SearchLine.{every_source_of}
use Rattle.mc_explain.specs.ExplanationValues.{ExplanationValue}
use Rattle.mc_search.specs.ShownLines.{shown_lines}
use Rattle.mc_shown.specs.WantedText.{lans_wanting}
use Rattle.mc_explain.specs.declared.causes.Cause.{Cause}
use Rattle.mc_search.specs.declared.searching.LanSearch.{LanSearch}
use Rattle.serde_json.specs.Data.{Data, Members, no_members, member, put, string}
use Rattle.serde_json.specs.Written.{has_float, members_have_float}
use Rattle.mc_lines.specs.CauseLines.{cause_items, cause_lines}
use Rattle.mc_lines.specs.ExplanationText.{context_of}
use Rattle.mc_lines.specs.Filled.{joined_sentences}
use Rattle.mc_lines.specs.FlowContext.{FlowContext, flow_of, row_for_flow}
use Rattle.mc_lines.specs.Lines.{FactValue, Line}
use Rattle.mc_lines.specs.Lines.FactValue.{Lan, Router, Device, Interface, IncomingDevice, IncomingVif}
use Rattle.mc_lines.specs.Lines.FactValue.{Row, EverySourceRow, Flag, Number, Routers}
use Rattle.mc_lines.specs.SearchLines.{reach_items, reach_lines, search_items, shown_items, shown_line}
use Rattle.mc_theory.specs.Nets.{Interface as NetInterface}
use Rattle.mc_topology.specs.Topology.{TopologyValue, flow_at}
use Rattle.mc_explain.specs.declared.causes.behind.Behind.{Behind}
use Rattle.mc_json_wrong.specs.BehindData.{behind_data, stray_data}
use Rattle.mc_json_wrong.specs.FactData.{fact_data}
use Rattle.mc_json_wrong.specs.LineData.{line_data, line_values, with_facts}
use Rattle.mc_json_wrong.specs.WhyData.{causes_data, search_data_if_any, why_data}
use Rattle.mc_json_wrong.specs.WrongLine.{FoundTravelValue, found_flow_data, wrong_flow_of}
use Rattle.mc_json.proofs.NoFloatLemmas.{HaveNoFloat, no_float-append, no_float-device_data}
use Rattle.mc_json.proofs.NoFloatLemmas.{no_float-every_source_row_data, no_float-incoming_device}
use Rattle.mc_json.proofs.NoFloatLemmas.{no_float-incoming_vif, no_float-flow_row_data, no_float-routers}
use Rattle.mc_json.proofs.NoFloatLemmas.{no_float-lans, no_float-map, no_float-optional_finding}
use Rattle.mc_json.proofs.NoFloatLemmas.{no_float-finding_data}
use Rattle.mc_json_wrong.proofs.WrongNoFloatLemmas.{no_float-events_if_asked, no_float-shown_from}
use Rattle.mc_json_wrong.proofs.WrongNoFloatLemmas.{no_float-wrong_data}

-- ---- members

-- whichever of three members an order picks
no_float-match_ordering : (o : Ordering) (a b c : Members) → members_have_float a ≡ false
    → members_have_float b ≡ false → members_have_float c ≡ false
    → members_have_float (match_ordering o a b c) ≡ false
no_float-match_ordering Less a b c x y z = x
no_float-match_ordering Equal a b c x y z = y
no_float-match_ordering Greater a b c x y z = z

-- members with one more
no_float-put : (k : List ℕ) (d : Data) (ms : Members) → has_float d ≡ false
    → members_have_float ms ≡ false → members_have_float (put k d ms) ≡ false
no_float-put k d no_members value none = rw value
no_float-put k d (member l e ms) value none =
    let parts = or_parts (has_float e) (members_have_float ms) none in
    no_float-match_ordering (slice_cmp nat_cmp k l) (member k d (member l e ms)) (member l d ms)
    (member l e (put k d ms)) (rw (value, parts.0, parts.1)) (rw (value, parts.1))
    (rw (parts.0, no_float-put k d ms value parts.1))

-- ---- a line

-- a fact
no_float-fact_data : (c : FlowContext) (fact : FactValue) → has_float (fact_data c fact) ≡ false
no_float-fact_data c (Lan lan) = refl
no_float-fact_data c (Router router) = refl
no_float-fact_data c (Device router vif) = no_float-device_data (c.domain.vifs router vif)
no_float-fact_data c (Interface interface) = refl
no_float-fact_data c (IncomingDevice router) =
    no_float-incoming_device c.domain router (row_for_flow c router)
no_float-fact_data c (IncomingVif router) = no_float-incoming_vif (row_for_flow c router)
no_float-fact_data c (Row router) = no_float-flow_row_data c.domain c.flow router
no_float-fact_data c (EverySourceRow router) =
    no_float-every_source_row_data c.domain router (every_source_of c.summary (flow_of c).group router)
no_float-fact_data c (Flag flag) = refl
no_float-fact_data c (Number n) = refl
no_float-fact_data c (Routers routers) = no_float-routers c.domain.topology routers

-- members with the facts of a line
no_float-with_facts : (c : FlowContext) (facts : List (List ℕ × FactValue)) (ms : Members)
    → members_have_float ms ≡ false → members_have_float (with_facts c facts ms) ≡ false
no_float-with_facts c [] ms none = none
no_float-with_facts c (f ∷ fs) ms none =
    no_float-with_facts c fs (put f.0 (fact_data c f.1) ms)
    (no_float-put f.0 (fact_data c f.1) ms (no_float-fact_data c f.1) none)

-- a line
no_float-line_data : (c : FlowContext) (l : Line) → has_float (line_data c l) ≡ false
no_float-line_data c l =
    let kind = put (codes "kind") (string l.kind) no_members in
    no_float-put (codes "text") (string (joined_sentences c l.facts l.sentences)) (with_facts c l.facts kind)
    refl (no_float-with_facts c l.facts kind refl)

-- ---- lines

-- values of each item
no_float-flat_map : {A : Type 0} (f : A → List Data) → ((x : A) → HaveNoFloat (f x)) → (xs : List A)
    → HaveNoFloat (flat_map f xs)
no_float-flat_map f each [] = refl
no_float-flat_map f each (x ∷ xs) =
    no_float-append (f x) (flat_map f xs) (each x) (no_float-flat_map f each xs)

-- the values of a line
no_float-line_values : (c : FlowContext) (l : Line) → HaveNoFloat (line_values c l)
no_float-line_values c l = rw (no_float-line_data c l) refl

-- the values of a cause
no_float-cause_items : (c : FlowContext) (cause : Cause) → HaveNoFloat (cause_items line_values c cause)
no_float-cause_items c cause =
    no_float-flat_map (line_values c) (no_float-line_values c) (cause_lines c cause)

-- those of a search, if there is one
no_float-search_data_if_any : (d : DomainFacts) (summary : List SummaryValue) (flow : ℕ)
    (search : Option LanSearch) → HaveNoFloat (search_data_if_any d summary flow search)
no_float-search_data_if_any d summary flow None = refl
no_float-search_data_if_any d summary flow (Some found) =
    let c = context_of d summary flow in
    no_float-append
    (reach_items line_values c found.reach.sent_on.items found.reach.took_none.items)
    (search_items line_values c found.lines.items)
    (no_float-flat_map (line_values c) (no_float-line_values c)
    (reach_lines found.reach.sent_on.items found.reach.took_none.items))
    (no_float-flat_map (shown_items line_values c) (λ l. no_float-line_values c (shown_line c l))
    (shown_lines found.lines.items))

-- all of why a flow isn't right
pub no_float-why_data : (d : DomainFacts) (summary : List SummaryValue) (flow : ℕ) (causes : List Cause)
    (search : Option LanSearch) → HaveNoFloat (why_data d summary flow causes search)
no_float-why_data d summary flow causes search =
    let c = context_of d summary flow in
    no_float-append (causes_data d summary flow causes) (search_data_if_any d summary flow search)
    (no_float-flat_map (cause_items line_values c) (no_float-cause_items c) causes)
    (no_float-search_data_if_any d summary flow search)

-- ---- what is behind a stray

-- the strays behind
no_float-strays : (t : TopologyValue) (strays : List NetInterface) → HaveNoFloat (map (stray_data t) strays)
no_float-strays t strays = no_float-map (stray_data t) (λ i. refl) strays

-- all that is behind, or null
pub no_float-behind_data : (d : DomainFacts) (summary : List SummaryValue) (flow : ℕ) (behind : Option Behind)
    → has_float (behind_data d summary flow behind) ≡ false
no_float-behind_data d summary flow None = refl
no_float-behind_data d summary flow (Some b) =
    let t = d.topology in
    rw (
      no_float-optional_finding t b.finding,
      no_float-lans t b.missed.items,
      no_float-routers t b.open_routers.items,
      no_float-shown_from b.shown_from,
      no_float-strays t b.strays.items,
      no_float-flat_map (cause_items line_values (context_of d summary flow))
          (no_float-cause_items (context_of d summary flow)) b.causes.items,
    )

-- ---- a flow with a finding

-- the object of a flow with a finding
pub no_float-found_flow_data : (d : DomainFacts) (summary : List SummaryValue) (found : FoundTravelValue)
    (x : ExplanationValue) → has_float (found_flow_data d summary found x) ≡ false
no_float-found_flow_data d summary found x =
    let t = d.topology in
    let w = wrong_flow_of d summary found x in
    no_float-wrong_data found.flow (flow_at t found.flow) w.certainty w.also w.at_flow_ttl w.behind w.events
    w.finding w.found_ttl w.wanted w.why (no_float-lans t x.also)
    (no_float-optional_finding t x.certainty.shown_by.at_flow_ttl)
    (no_float-behind_data d summary found.flow x.behind)
    (no_float-events_if_asked t (d.nets found.flow) found.events)
    (no_float-finding_data t found.finding) (no_float-lans t (lans_wanting d found.flow))
    (no_float-why_data d summary found.flow x.printed x.search)
