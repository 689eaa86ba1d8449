-- Why a flow isn't right, in JSON (docs/FORMATS.md, the member `why`): the causes, and the search for a LAN
-- that was missed.
use Rattle.std.specs.Prelude.{ℕ, List, [], ◌++◌, Option, Some, None}
use Rattle.mc_tables.specs.Summary.{SummaryValue}
use Rattle.mc_forward.specs.ListedTables.{DomainFacts, facts}
use Rattle.mc_explain.specs.declared.causes.Cause.{Cause}
use Rattle.mc_search.specs.declared.searching.LanSearch.{LanSearch}
use Rattle.serde_json.specs.Data.{Data}
use Rattle.mc_lines.specs.CauseLines.{causes_items}
use Rattle.mc_lines.specs.ExplanationText.{context_of}
use Rattle.mc_lines.specs.SearchLines.{reach_items, search_items}
use Rattle.mc_lines.specs.declared.context.LineContext.{LineContext}
use Rattle.mc_json_wrong.specs.LineData.{line_values}

-- the values of the causes, for the flow with this number, by the summaries of the routers' caches
abbrev pub causes_data : DomainFacts → List SummaryValue → (flow : ℕ) → List Cause → List Data
causes_data domain summary flow causes = causes_items line_values (context_of domain summary flow) causes

-- the values of a search: how far the packet came, and the lines
abbrev pub search_data : DomainFacts → List SummaryValue → (flow : ℕ) → LanSearch → List Data
search_data domain summary flow found =
    reach_items line_values (context_of domain summary flow) found.reach.sent_on.items
    found.reach.took_none.items
    ++ search_items line_values (context_of domain summary flow) found.lines.items

-- the values of the search, if there was one
abbrev pub search_data_if_any : DomainFacts → List SummaryValue → (flow : ℕ) → Option LanSearch
    → List Data
search_data_if_any domain summary flow None = []
search_data_if_any domain summary flow (Some found) = search_data domain summary flow found

-- the values of the causes, and then those of the search
abbrev pub why_data : DomainFacts → List SummaryValue → (flow : ℕ) → List Cause
    → Option LanSearch → List Data
why_data domain summary flow causes search =
    causes_data domain summary flow causes ++ search_data_if_any domain summary flow search

-- the values of the causes and of the search, in the context in which the code writes lines
abbrev pub why_data_in : LineContext → List Cause → Option LanSearch → List Data
why_data_in context causes search =
    why_data (facts context.view.now.domain) context.summary.now context.view.now.flow causes search
