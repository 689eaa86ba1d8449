-- The lines of an audit after those of the flows (docs/FORMATS.md, the section "The program"): as text or in
-- JSON the unlisted sources and groups of the caches, what hosts ask for and no flow answers, the excluded
-- routers, the numbers of flows, and the verdict.
use Rattle.std.specs.Prelude.{ℕ, ◌==◌, ◌+◌, ◌&&◌, not, Bool, List, [], ◌++◌, codes, decimal, length}
use Rattle.std.specs.Prelude.{if◌then◌else◌, true, false}
use Rattle.mc_tables.specs.Summary.{SummaryValue}
use Rattle.mc_topology.specs.Topology.{TopologyValue}
use Rattle.mc_shown.specs.ExcludedText.{excluded_text, excluded_lines}
use Rattle.mc_shown.specs.UnlistedText.{unlisted_text}
use Rattle.mc_json.specs.EndData.{summary_data, unlisted_lines, verdict_data, without_line}
use Rattle.mc_json.specs.RowData.{line_of}
use Rattle.mc_input.specs.AskedOfFiles.{UnansweredWantsValue}
use Rattle.mc_run.specs.AuditAsked.{asked_lines}
use Rattle.mc_commands.specs.VerdictText.{last_line}
use Rattle.mc_cli.specs.declared.audit_options.AuditOptions.{AuditOptions}
use Rattle.mc_run.specs.FlowCounts.{FlowAnswer, count, is_right, is_unknown, is_unwanted, is_wrong}

-- ---- one line

-- the line `summary` as far as the numbers of flows go
abbrev pub summary_of_flows : (flows right wrong unknown unwanted : ℕ) → List ℕ
summary_of_flows flows right wrong unknown unwanted =
    codes "summary flows " ++ (decimal flows
    ++ (codes " right " ++ (decimal right
    ++ (codes " wrong " ++ (decimal wrong
    ++ (codes " unknown " ++ (decimal unknown
    ++ (codes " unwanted " ++ decimal unwanted))))))))

-- the line `summary`
abbrev pub summary_line : (flows right wrong unknown unwanted asked : ℕ) → List ℕ
summary_line flows right wrong unknown unwanted asked =
    summary_of_flows flows right wrong unknown unwanted
    ++ (codes " asked " ++ (decimal asked ++ codes "\n"))

-- the line that says why a yes isn't enough, if it isn't: how many there are of what these words name
abbrev pub strict_line : (fails : Bool) → (count : ℕ) → (words : List ℕ) → List ℕ
strict_line fails count words =
    if fails && not (count == 0)
    then codes "  strict: " ++ (decimal count ++ (words ++ codes ", status 1\n"))
    else []

-- the lines that say why a yes isn't enough with the option strict: flows that no LAN wants, and wants that
-- no flow answers. `all` is true where the verdict is yes.
abbrev pub strict_lines : (strict all : Bool) → (unwanted asked : ℕ) → List ℕ
strict_lines strict all unwanted asked =
    strict_line (strict && all) unwanted (codes " flows that nobody wants")
    ++ strict_line (strict && all) asked (codes " wants that no flow answers")

-- ---- all lines

-- the lines after the flows as text: `flows` is how many flows there are, `whole` is true where no router is
-- excluded, and `all` where the verdict is yes
abbrev pub end_text : AuditOptions → TopologyValue → List SummaryValue → UnansweredWantsValue
    → (excluded : List Bool) → (whole all : Bool) → (flows right wrong unknown unwanted : ℕ) → List ℕ
end_text options topology summary asked excluded whole all flows right wrong unknown unwanted =
    unlisted_text options.unlisted topology summary
    ++ (asked_lines false topology (not whole) asked
    ++ (excluded_lines topology excluded
    ++ (summary_line flows right wrong unknown unwanted asked.count
    ++ (excluded_text topology excluded ++ strict_lines options.strict all unwanted asked.count))))

-- the lines after the flows in JSON
abbrev pub end_objects : AuditOptions → TopologyValue → List SummaryValue → UnansweredWantsValue
    → (excluded : List Bool) → (whole : Bool) → (right wrong unknown unwanted : ℕ) → List ℕ
end_objects options topology summary asked excluded whole right wrong unknown unwanted =
    unlisted_lines options.unlisted topology summary
    ++ (asked_lines true topology (not whole) asked
    ++ (without_line topology excluded
    ++ line_of (summary_data asked.count right unknown unwanted wrong)))

-- the lines after the flows, as text or in JSON
abbrev pub end_text_or_objects : AuditOptions → TopologyValue → List SummaryValue → UnansweredWantsValue
    → (excluded : List Bool) → (whole all : Bool) → (flows right wrong unknown unwanted : ℕ) → List ℕ
end_text_or_objects options topology summary asked excluded whole all flows right wrong unknown unwanted =
    if options.json then end_objects options topology summary asked excluded whole right wrong unknown
    unwanted
    else end_text options topology summary asked excluded whole all flows right wrong unknown unwanted

-- the lines after the flows, by what is printed of each flow
abbrev pub end_lines : AuditOptions → TopologyValue → List SummaryValue → UnansweredWantsValue
    → (excluded : List Bool) → (whole all : Bool) → List FlowAnswer → List ℕ
end_lines options topology summary asked excluded whole all answers =
    end_text_or_objects options topology summary asked excluded whole all (length answers)
    (count is_right answers) (count is_wrong answers) (count is_unknown answers) (count is_unwanted answers)

-- the last line of an audit, with the verdict
abbrev pub verdict_line : (json all : Bool) → List ℕ
verdict_line json all = if json then line_of (verdict_data all) else last_line all
