-- The text of an explanation (docs/FORMATS.md, "The explanation of a finding"): the lines of causes, and of
-- the search for a missed LAN.
use Rattle.std.specs.Prelude.{ℕ, ◌-◌, ◌==◌, List, [], ◌++◌, length, if◌then◌else◌, codes, decimal, flat_map}
use Rattle.std.specs.Prelude.{take}
use Rattle.mc_tables.specs.Summary.{SummaryValue}
use Rattle.mc_forward.specs.ListedTables.{DomainFacts}
use Rattle.mc_explain.specs.declared.causes.Cause.{Cause}
use Rattle.mc_search.specs.declared.searching.LanSearch.{LanSearch}
use Rattle.mc_search.specs.declared.shown_line.ShownLine.{ShownLine}
use Rattle.mc_shown.specs.Indented.{AreIndented}
use Rattle.mc_search.specs.ShownLines.{shown_lines}
use Rattle.mc_lines.specs.CauseLines.{causes_items}
use Rattle.mc_lines.specs.Filled.{deeper_line_text, line_text}
use Rattle.mc_lines.specs.FlowContext.{FlowContext}
use Rattle.mc_lines.specs.SearchLines.{reach_items, shown_items}

-- the context of the flow with this number
abbrev pub context_of : DomainFacts → List SummaryValue → (flow : ℕ) → FlowContext
context_of domain summary flow = record { domain = domain; summary = summary; flow = flow }

-- ---- causes

-- the text of the causes of a flow's fault, each line after two spaces
abbrev pub causes_text : DomainFacts → List SummaryValue → (flow : ℕ) → List Cause → List ℕ
causes_text domain summary flow causes = causes_items line_text (context_of domain summary flow) causes

-- the text of the causes, each line after four spaces: they explain a line that is itself indented
abbrev pub deeper_causes_text : DomainFacts → List SummaryValue → (flow : ℕ) → List Cause → List ℕ
deeper_causes_text domain summary flow causes =
    causes_items deeper_line_text (context_of domain summary flow) causes

-- ---- a search

-- the line that counts the further lines of a search; nothing if there are none
abbrev pub more_lines_text : ℕ → List ℕ
more_lines_text more =
    if more == 0 then [] else codes "  and " ++ (decimal more ++ codes " more lines\n")

-- the first 40 shown lines of a search, and how many more there are
abbrev pub first_lines_text : FlowContext → List ShownLine → List ℕ
first_lines_text context lines =
    flat_map (shown_items line_text context) (take 40 lines) ++ more_lines_text (length lines - 40)

-- the text of a search: how far the packet came, and the lines
abbrev pub search_text : DomainFacts → List SummaryValue → (flow : ℕ) → LanSearch → List ℕ
search_text domain summary flow found =
    reach_items line_text (context_of domain summary flow) found.reach.sent_on.items
    found.reach.took_none.items
    ++ first_lines_text (context_of domain summary flow) (shown_lines found.lines.items)

-- In this domain the text of each search is a sequence of lines that begin with two spaces.
abbrev pub IsEachSearchIndented : DomainFacts → Type 0
IsEachSearchIndented domain =
    (summary : List SummaryValue) (flow : ℕ) (found : LanSearch)
    → AreIndented (search_text domain summary flow found)
