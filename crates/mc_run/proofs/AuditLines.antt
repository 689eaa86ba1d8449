-- The whole text of an audit: no line before the last one says yes.
use Rattle.std.proofs.Common.{ℕ, Bool, List, [], ◌++◌, length}
use Rattle.std.specs.Prelude.{flat_map, take}
use Rattle.mc_topology.specs.Topology.{IsValidTopology}
use Rattle.mc_forward.specs.ListedTables.{DomainFacts, facts}
use Rattle.mc_json.specs.DomainData.{domain_data}
use Rattle.mc_json.specs.RowData.{line_of}
use Rattle.mc_json.proofs.EachLineLemmas.{are_object_lines-domain}
use Rattle.mc_run.specs.FlowCounts.{FlowAnswer, count, is_right, is_unknown, is_unwanted, is_wrong}
use Rattle.mc_run.specs.AuditBegin.{begin_lines, option_words}
use Rattle.mc_run.specs.AuditEnd.{end_lines}
use Rattle.mc_run.specs.AuditedFiles.{AuditedValue, excluded, is_whole}
use Rattle.mc_run.specs.AuditRun.{AreFlowAnswers, is_yes, trees_shown}
use Rattle.mc_cli.specs.declared.audit_options.AuditOptions.{AuditOptions}
use Rattle.mc_commands.proofs.VerdictLines.{AreLinesWithoutYes, no_yes_line-append, no_yes_line-if}
use Rattle.mc_commands.proofs.VerdictLines.{no_yes_line-no_lines}
use Rattle.mc_run.proofs.LinesWithoutYes.{no_yes_line-objects}
use Rattle.mc_run.proofs.FlowLinesWithoutYes.{no_yes_line-all_answers}
use Rattle.mc_run.proofs.EndLinesWithoutYes.{no_yes_line-end_lines}

-- the first line, which is there in JSON alone
no_yes_line-begin_lines : (o : AuditOptions) (d : DomainFacts) (marks : List Bool) (ignored : List (ℕ × ℕ))
    → AreLinesWithoutYes (begin_lines o d marks ignored)
no_yes_line-begin_lines o d marks ignored =
    let words = option_words o d.topology marks ignored in
    no_yes_line-if o.json (line_of (domain_data d words)) []
    (no_yes_line-objects _ (are_object_lines-domain d words))
    no_yes_line-no_lines

-- what is written before the last line
abbrev pub text_before_verdict : AuditedValue → AuditOptions → List FlowAnswer → List ℕ
text_before_verdict v o answers =
    begin_lines o (facts v.domain) (excluded v) v.ignored
    ++ (flat_map (λ a. a.lines) answers
    ++ end_lines o v.domain.topology v.summary v.asked (excluded v) (is_whole v) (is_yes v answers) answers)

-- the lines before the verdict are those before the flows, of the flows, and after them; none of them says
-- yes
pub no_yes_line-text_before_verdict : (v : AuditedValue) (o : AuditOptions) (answers : List FlowAnswer)
    → AreFlowAnswers v o answers → IsValidTopology v.domain.topology
    → AreLinesWithoutYes (text_before_verdict v o answers)
no_yes_line-text_before_verdict v o answers are ok =
    let marks = excluded v in
    no_yes_line-append (begin_lines o (facts v.domain) marks v.ignored) _
    (no_yes_line-begin_lines o (facts v.domain) marks v.ignored)
    (no_yes_line-append (flat_map (λ a. a.lines) answers) _
    (no_yes_line-all_answers v o answers (λ flow a at. (
      trees_shown o (take flow answers),
      flow,
      are.each flow a at,
    ))
    ok)
    (no_yes_line-end_lines o v.domain.topology v.summary v.asked marks (is_whole v) (is_yes v answers)
    (length answers)
    (count is_right answers) (count is_wrong answers) (count is_unknown answers)
    (count is_unwanted answers) ok))
