-- The lines of a flow with a finding are determined by the flights of its travels and by its explanation.
use Rattle.std.proofs.Common.{◌≡◌, ℕ, ◌+◌, Bool, true, false, List, [], ◌∷◌, ◌++◌, Option, Some, None}
use Rattle.std.proofs.Common.{refl, ap, ap₂, ◌∙◌}
use Rattle.std.specs.Prelude.{codes, if◌then◌else◌, map, option_map}
use Rattle.mc_tables.specs.Summary.{SummaryValue}
use Rattle.mc_topology.specs.Topology.{TopologyValue, flow_at}
use Rattle.mc_theory.specs.Nets.{Interface}
use Rattle.mc_forward.specs.ListedTables.{DomainFacts}
use Rattle.mc_replay.specs.declared.finding.Finding.{Finding}
use Rattle.mc_replay.specs.declared.travel.FinishedTravel.{FinishedTravel}
use Rattle.mc_maker.specs.declared.examination.Examined.TheVariants as examined_as
use Rattle.mc_search.specs.declared.searching.LanSearch.{LanSearch}
use Rattle.mc_lines.specs.ExplanationText.{causes_text, context_of, first_lines_text}
use Rattle.mc_lines.specs.Filled.{line_text}
use Rattle.mc_lines.specs.SearchLines.{reach_items, search_items}
use Rattle.mc_search.specs.ShownLines.{shown_lines}
use Rattle.mc_shown.specs.WantedText.{also_missed_text, lans_wanting}
use Rattle.mc_lines.specs.BehindText.{leaks_behind_text}
use Rattle.mc_explain.specs.declared.causes.Cause.{Cause}
use Rattle.mc_explain.specs.declared.causes.behind.Behind.{Behind}
use Rattle.mc_explain.specs.declared.causes.explanation.Certainty.{Certainty}
use Rattle.mc_json_wrong.specs.BehindData.{behind_data, found_behind_data, stray_data}
use Rattle.mc_json.specs.EndData.{routers_data}
use Rattle.mc_json.specs.FlowData.{event_data, finding_data, optional_finding_data}
use Rattle.mc_json_wrong.specs.WrongData.{WrongFlow, shown_from_data, wrong_data}
use Rattle.mc_json.specs.RowData.{lan_data, line_of, list_data, object_data}
use Rattle.mc_json_wrong.specs.LineData.{line_values}
use Rattle.mc_json_wrong.specs.WhyData.{causes_data, search_data_if_any, why_data}
use Rattle.mc_json_wrong.specs.WrongLine.{wrong_flow_of}
use Rattle.serde_json.specs.Data.{Data}
use Rattle.mc_run.specs.AuditObjects.{found_travel, wrong_object}
use Rattle.mc_explain.specs.ExplanationValues.{ExplanationValue}
use Rattle.mc_run.specs.AuditText.{behind_text, events_if_shown, explanation_lines, searched_lines}
use Rattle.mc_run.specs.AuditText.{second_behind_text, found_flow_line, shown_by_text, wrong_lines}
use Rattle.mc_run.specs.AuditFlowText.{wrong_lines_or_object}
use Rattle.mc_commands.specs.ReplayRun.{event_lines}
use Rattle.mc_run.proofs.UniqueTravel.{IsSameFinishedTravel}
use Rattle.mc_run.proofs.UniqueSearch.{HaveSameSearch}
use Rattle.mc_run.proofs.UniqueBehind.{HaveSameBehind, IsSameBehind}
use Rattle.mc_run.proofs.UniqueExplanation.{IsSameExplanation}

-- the lines of a search
searched_lines-same_search : (d : DomainFacts) (summary : List SummaryValue) (flow : ℕ)
    (s t : Option LanSearch) → HaveSameSearch s t
    → searched_lines d summary flow s ≡ searched_lines d summary flow t
searched_lines-same_search d summary flow None None same = refl
searched_lines-same_search d summary flow None (Some b) same = absurd same
searched_lines-same_search d summary flow (Some a) None same = absurd same
searched_lines-same_search d summary flow (Some a) (Some b) same =
    let c = context_of d summary flow in
    λ i. reach_items line_text c (same.1 i) (same.2 i) ++ first_lines_text c (shown_lines (same.0 i))

-- the lines of a travel's events
events_if_shown-same_events : (travels : Bool) (t : TopologyValue) (a b : FinishedTravel)
    → IsSameFinishedTravel a b
    → events_if_shown travels t a.travel ≡ events_if_shown travels t b.travel
events_if_shown-same_events true t a b same = ap (event_lines t) same.events
events_if_shown-same_events false t a b same = refl

-- the text of a second copy behind a stray
second_behind_text-same_parts : (d : DomainFacts) (summary : List SummaryValue) (flow : ℕ)
    (causes others : List Cause)
    (from to : Option ℕ) (x y : Option Finding) → causes ≡ others → from ≡ to → x ≡ y
    → second_behind_text d summary flow causes from x ≡ second_behind_text d summary flow others to y
second_behind_text-same_parts d summary flow causes others from to x y same least finding =
    ap₂ (λ (cs : List Cause) (k : Option ℕ). second_behind_text d summary flow cs k x) same least
    ∙ ap (second_behind_text d summary flow others to) finding

-- the text of all that is behind a stray
behind_text-same_behind : (d : DomainFacts) (summary : List SummaryValue) (flow : ℕ) (s t : Option Behind)
    → HaveSameBehind s t → behind_text d summary flow s ≡ behind_text d summary flow t
behind_text-same_behind d summary flow None None same = refl
behind_text-same_behind d summary flow None (Some b) same = absurd same
behind_text-same_behind d summary flow (Some a) None same = absurd same
behind_text-same_behind d summary flow (Some a) (Some b) same =
    ap₂ (λ (one two : List ℕ). one ++ two)
    (second_behind_text-same_parts d summary flow a.causes.items b.causes.items a.shown_from
    b.shown_from a.finding b.finding same.causes same.shown_from same.finding)
    (ap (λ (is : List Interface). leaks_behind_text d is a.open_routers.items a.missed.items) same.strays
    ∙ ap₂ (λ (rs ls : List ℕ). leaks_behind_text d b.strays.items rs ls) same.open_routers same.missed)

-- the members of what is behind a stray
abbrev behind_members : TopologyValue → Option Finding → (missed open_routers : List ℕ) → Option ℕ
    → List Interface → (why : List Data) → Data
behind_members t finding missed open_routers shown_from strays why = object_data (
    (codes "finding", optional_finding_data t finding)
    ∷ (codes "missed", list_data (map (lan_data t) missed))
    ∷ (codes "open", routers_data t open_routers)
    ∷ (codes "shown_from", shown_from_data shown_from)
    ∷ (codes "strays", list_data (map (stray_data t) strays))
    ∷ (codes "why", list_data why) ∷ [])

-- the value of what is behind a stray, by its members
found_behind_data-same_parts : (t : TopologyValue) (a b : Behind) (why because : List Data) → IsSameBehind a b
    → why ≡ because → found_behind_data t a why ≡ found_behind_data t b because
found_behind_data-same_parts t a b why because same is =
    ap₂ (λ (x : Option Finding) (ls : List ℕ). behind_members t x ls a.open_routers.items a.shown_from
    a.strays.items why) same.finding same.missed
    ∙ ap₂ (λ (rs : List ℕ) (k : Option ℕ). behind_members t b.finding b.missed.items rs k a.strays.items why)
    same.open_routers same.shown_from
    ∙ ap₂ (λ (is : List Interface) (ds : List Data). behind_members t b.finding b.missed.items
    b.open_routers.items b.shown_from is ds) same.strays is

-- the value of what is behind a stray, or null
behind_data-same_behind : (d : DomainFacts) (summary : List SummaryValue) (flow : ℕ) (s t : Option Behind)
    → HaveSameBehind s t → behind_data d summary flow s ≡ behind_data d summary flow t
behind_data-same_behind d summary flow None None same = refl
behind_data-same_behind d summary flow None (Some b) same = absurd same
behind_data-same_behind d summary flow (Some a) None same = absurd same
behind_data-same_behind d summary flow (Some a) (Some b) same =
    found_behind_data-same_parts d.topology a b (causes_data d summary flow a.causes.items)
    (causes_data d summary flow b.causes.items) same (ap (causes_data d summary flow) same.causes)

-- the lines of an explanation
explanation_lines-same_explanation : (d : DomainFacts) (summary : List SummaryValue) (flow : ℕ)
    (x y : ExplanationValue) → IsSameExplanation x y
    → explanation_lines d summary flow x ≡ explanation_lines d summary flow y
explanation_lines-same_explanation d summary flow x y same =
    ap (λ (printed : List Cause). causes_text d summary flow printed
    ++ (searched_lines d summary flow x.search
    ++ (also_missed_text d.topology x.also ++ behind_text d summary flow x.behind))) same.printed
    ∙ ap₂ (λ (found : List ℕ) (also : List ℕ). causes_text d summary flow y.printed
    ++ (found ++ (also_missed_text d.topology also ++ behind_text d summary flow x.behind)))
    (searched_lines-same_search d summary flow x.search y.search same.search) same.also
    ∙ ap (λ (past : List ℕ). causes_text d summary flow y.printed ++ (searched_lines d summary flow y.search
    ++ (also_missed_text d.topology y.also ++ past)))
    (behind_text-same_behind d summary flow x.behind y.behind same.behind)

-- the lines of a flow with a finding
wrong_lines-same_travel : (travels : Bool) (d : DomainFacts) (summary : List SummaryValue)
    (flow : ℕ) (a b : FinishedTravel) (x y : ExplanationValue) → IsSameFinishedTravel a b
    → IsSameExplanation x y
    → wrong_lines travels d summary flow a.travel x ≡ wrong_lines travels d summary flow b.travel y
wrong_lines-same_travel travels d summary flow a b x y ended same =
    let t = d.topology in
    ap₂ (λ (c : Certainty) (w : Finding). found_flow_line t (flow_at t flow) c.known w
    ++ (shown_by_text t (flow_at t flow).ttl c.shown_by
    ++ (explanation_lines d summary flow x ++ events_if_shown travels t a.travel)))
    same.certainty ended.finding
    ∙ ap₂ (λ (why : List ℕ) (es : List ℕ).
    found_flow_line t (flow_at t flow) y.certainty.known b.travel.finding
    ++ (shown_by_text t (flow_at t flow).ttl y.certainty.shown_by ++ (why ++ es)))
    (explanation_lines-same_explanation d summary flow x y same)
    (events_if_shown-same_events travels t a b ended)

-- the values of a search
found_data-same_travel : (d : DomainFacts) (summary : List SummaryValue) (flow : ℕ)
    (s t : Option LanSearch) → HaveSameSearch s t
    → search_data_if_any d summary flow s ≡ search_data_if_any d summary flow t
found_data-same_travel d summary flow None None same = refl
found_data-same_travel d summary flow None (Some b) same = absurd same
found_data-same_travel d summary flow (Some a) None same = absurd same
found_data-same_travel d summary flow (Some a) (Some b) same =
    let c = context_of d summary flow in
    λ i. reach_items line_values c (same.1 i) (same.2 i) ++ search_items line_values c (same.0 i)

-- the values of causes and of a search
why_data-same_explanation : (d : DomainFacts) (summary : List SummaryValue) (flow : ℕ)
    (x y : ExplanationValue)
    → IsSameExplanation x y
    → why_data d summary flow x.printed x.search ≡ why_data d summary flow y.printed y.search
why_data-same_explanation d summary flow x y same =
    ap₂ (λ (printed : List Cause) (found : List Data). causes_data d summary flow printed ++ found)
    same.printed (found_data-same_travel d summary flow x.search y.search same.search)

-- what is written of a flow with a finding
wrong_flow_of-same_travel : (travels : Bool) (d : DomainFacts) (summary : List SummaryValue)
    (flow ttl : ℕ) (a b : FinishedTravel) (x y : ExplanationValue) → IsSameFinishedTravel a b
    → IsSameExplanation x y
    → wrong_flow_of d summary (found_travel travels flow ttl a.travel) x
    ≡ wrong_flow_of d summary (found_travel travels flow ttl b.travel) y
wrong_flow_of-same_travel travels d summary flow ttl a b x y ended same = λ i. record {
  certainty = same.certainty i;
  also = map (lan_data d.topology) (same.also i);
  at_flow_ttl = optional_finding_data d.topology (same.certainty i).shown_by.at_flow_ttl;
  behind = behind_data-same_behind d summary flow x.behind y.behind same.behind i;
  events = option_map (map (event_data d.topology (d.nets flow)))
      (if travels then Some (ended.events i) else None);
  finding = finding_data d.topology (ended.finding i);
  found_ttl = ttl;
  wanted = map (lan_data d.topology) (lans_wanting d flow);
  why = why_data-same_explanation d summary flow x y same i;
}

-- the object of a flow with a finding
wrong_object-same_travel : (travels : Bool) (d : DomainFacts) (summary : List SummaryValue)
    (flow ttl : ℕ) (a b : FinishedTravel) (x y : ExplanationValue) → IsSameFinishedTravel a b
    → IsSameExplanation x y
    → wrong_object travels d summary flow ttl a.travel x
    ≡ wrong_object travels d summary flow ttl b.travel y
wrong_object-same_travel travels d summary flow ttl a b x y ended same =
    ap (λ (w : WrongFlow). line_of (wrong_data flow (flow_at d.topology flow) w))
    (wrong_flow_of-same_travel travels d summary flow ttl a b x y ended same)

-- its lines, in text or in JSON
pub wrong_flow_lines-same_travel : (json travels : Bool) (d : DomainFacts) (summary : List SummaryValue)
    (flow ttl : ℕ) (a b : FinishedTravel) (x y : ExplanationValue) → IsSameFinishedTravel a b
    → IsSameExplanation x y
    → wrong_lines_or_object json travels d summary flow ttl a.travel x
    ≡ wrong_lines_or_object json travels d summary flow ttl b.travel y
wrong_flow_lines-same_travel true travels d summary flow ttl a b x y ended same =
    wrong_object-same_travel travels d summary flow ttl a b x y ended same
wrong_flow_lines-same_travel false travels d summary flow ttl a b x y ended same =
    wrong_lines-same_travel travels d summary flow a b x y ended same
