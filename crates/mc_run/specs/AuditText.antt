-- The lines of a flow in the text of `audit` (docs/FORMATS.md, the section "The program"): that it is right
-- and which LANs want it, or what is found of it, the explanation of that, and with the option travel the
-- events.
use Rattle.std.specs.Prelude.{ℕ, Bool, true, false, List, [], ◌++◌, Option, Some, None, codes, decimal}
use Rattle.mc_tables.specs.Summary.{SummaryValue}
use Rattle.mc_topology.specs.declared.flow.Flow.{Flow}
use Rattle.mc_topology.specs.Topology.{TopologyValue, flow_at}
use Rattle.mc_forward.specs.ListedTables.{DomainFacts}
use Rattle.mc_check.specs.declared.verdict.Verdict.TheVariants.{Yes}
use Rattle.mc_replay.specs.TravelText.{finding_text}
use Rattle.mc_replay.specs.declared.finding.Finding.{Finding}
use Rattle.mc_replay.specs.declared.travel.Travel.{Travel}
use Rattle.mc_lines.specs.ExplanationText.{causes_text, deeper_causes_text, search_text}
use Rattle.mc_lines.specs.BehindText.{leaks_behind_text}
use Rattle.mc_explain.specs.ExplanationValues.{ExplanationValue}
use Rattle.mc_shown.specs.WantedText.{also_missed_text, wanted_text}
use Rattle.mc_explain.specs.declared.causes.behind.Behind.{Behind}
use Rattle.mc_search.specs.declared.searching.LanSearch.{LanSearch}
use Rattle.mc_explain.specs.declared.causes.Cause.{Cause}
use Rattle.mc_explain.specs.declared.causes.explanation.ShownBy.{ShownBy}
use Rattle.mc_commands.specs.ReplayRun.{event_lines}
use Rattle.mc_commands.specs.VerdictText.{flow_line, flow_words}

-- ---- a flow that is right

-- the first line of a right flow, with the number of copies; where a router is excluded it says that no fault
-- is known
abbrev pub right_line : (whole : Bool) → TopologyValue → Flow → (copies : ℕ) → List ℕ
right_line true topology flow copies = flow_line topology flow (Yes copies)
right_line false topology flow copies =
    flow_words flow ++ (codes " no fault known copies " ++ (decimal copies ++ codes "\n"))

-- the lines of the right flow with this number: the first one, and that of the LANs that want it
abbrev pub right_lines : (whole : Bool) → TopologyValue → (flow copies : ℕ) → (wanted : List ℕ) → List ℕ
right_lines whole topology flow copies wanted =
    right_line whole topology (flow_at topology flow) copies ++ wanted_text topology wanted

-- ---- a flow with a finding

-- whether the flow is known to be wrong, in a word
abbrev pub known_word : (known : Bool) → List ℕ
known_word true = codes "wrong"
known_word false = codes "unknown"

-- the first line of a flow with a finding
abbrev pub found_flow_line : TopologyValue → Flow → (known : Bool) → Finding → List ℕ
found_flow_line topology flow known finding = flow_words flow
    ++ (codes " " ++ (known_word known ++ (codes ": " ++ (finding_text topology finding ++ codes "\n"))))

-- the line that gives the TTL from which on packets show the finding, after this indent; nothing where none
-- is given
abbrev pub shown_from_text : (indent : List ℕ) → Option ℕ → List ℕ
shown_from_text indent None = []
shown_from_text indent (Some ttl) =
    indent ++ (codes "shown by packets sent with ttl " ++ (decimal ttl ++ codes " or more\n"))

-- the line that gives what is found of a packet with the flow's own TTL; nothing where none is given
abbrev pub at_flow_ttl_text : TopologyValue → (ttl : ℕ) → Option Finding → List ℕ
at_flow_ttl_text topology ttl None = []
at_flow_ttl_text topology ttl (Some finding) = codes "  with this flow's ttl "
    ++ (decimal ttl ++ (codes ": " ++ (finding_text topology finding ++ codes "\n")))

-- these two lines, of a flow with this TTL
abbrev pub shown_by_text : TopologyValue → (ttl : ℕ) → ShownBy → List ℕ
shown_by_text topology ttl shown_by =
    shown_from_text (codes "  ") shown_by.from ++ at_flow_ttl_text topology ttl shown_by.at_flow_ttl

-- the lines of the search, if there was one
abbrev pub searched_lines : DomainFacts → List SummaryValue → (flow : ℕ) → Option LanSearch → List ℕ
searched_lines domain summary flow None = []
searched_lines domain summary flow (Some found) = search_text domain summary flow found

-- the lines of a second copy behind a stray, if there is one: its finding, and after four spaces its causes
-- and the line `shown by`
abbrev pub second_behind_text : DomainFacts → List SummaryValue → (flow : ℕ) → List Cause → Option ℕ
    → Option Finding → List ℕ
second_behind_text domain summary flow causes shown_from None = []
second_behind_text domain summary flow causes shown_from (Some finding) =
    codes "  behind it: " ++ (finding_text domain.topology finding ++ (codes "\n"
    ++ (deeper_causes_text domain summary flow causes ++ shown_from_text (codes "    ") shown_from)))

-- the lines of what is behind a stray, if the finding is one
abbrev pub behind_text : DomainFacts → List SummaryValue → (flow : ℕ) → Option Behind → List ℕ
behind_text domain summary flow None = []
behind_text domain summary flow (Some behind) =
    second_behind_text domain summary flow behind.causes.items behind.shown_from behind.finding
    ++ leaks_behind_text domain behind.strays.items behind.open_routers.items behind.missed.items

-- the lines that explain a finding, but those of which packets show it
abbrev pub explanation_lines : DomainFacts → List SummaryValue → (flow : ℕ) → ExplanationValue → List ℕ
explanation_lines domain summary flow explanation =
    causes_text domain summary flow explanation.printed
    ++ (searched_lines domain summary flow explanation.search
    ++ (also_missed_text domain.topology explanation.also
    ++ behind_text domain summary flow explanation.behind))

-- the lines of a travel's events, if travels are to be printed
abbrev pub events_if_shown : (travels : Bool) → TopologyValue → Travel → List ℕ
events_if_shown true topology travel = event_lines topology travel.events.items
events_if_shown false topology travel = []

-- the lines of a flow with a finding: the finding, which packets show it, the explanation, and with the
-- option travel the events
abbrev pub wrong_lines : (travels : Bool) → DomainFacts → List SummaryValue → (flow : ℕ) → Travel
    → ExplanationValue → List ℕ
wrong_lines travels domain summary flow travel explanation =
    found_flow_line domain.topology (flow_at domain.topology flow) explanation.certainty.known
    travel.finding
    ++ (shown_by_text domain.topology (flow_at domain.topology flow).ttl explanation.certainty.shown_by
    ++ (explanation_lines domain summary flow explanation
    ++ events_if_shown travels domain.topology travel))
