-- The lines of one flow in an audit, as text or in JSON (docs/FORMATS.md, "The program" and "What
-- `audit --json` writes"). `printed` are the keys of the trees that the lines of earlier flows have printed,
-- and `whole` is true where no router is excluded.
use Rattle.std.specs.Prelude.{ℕ, ◌==◌, ◌&&◌, not, Bool, true, false, List, [], length, Option, Some, None}
use Rattle.std.specs.Prelude.{if◌then◌else◌}
use Rattle.mc_tables.specs.Summary.{SummaryValue}
use Rattle.mc_theory.specs.Nets.{Net}
use Rattle.mc_forward.specs.ListedTables.{DomainFacts}
use Rattle.mc_cert.specs.Certificate.{Tree}
use Rattle.mc_cert.specs.Distinct.{with_tree}
use Rattle.mc_replay.specs.declared.travel.Travel.{Travel}
use Rattle.mc_maker.specs.declared.examination.Examined.{Examined}
use Rattle.mc_maker.specs.declared.examination.Examined.TheVariants.{Certified, Found}
use Rattle.mc_json.specs.TreeKey.{tree_key}
use Rattle.mc_run.specs.AuditObjects.{right_objects, wrong_object}
use Rattle.mc_explain.specs.ExplanationValues.{ExplanationValue}
use Rattle.mc_run.specs.AuditText.{right_lines, wrong_lines}
use Rattle.mc_cli.specs.declared.audit_options.AuditOptions.{AuditOptions}
use Rattle.mc_run.specs.declared.audit.flow_status.FlowStatus.{FlowStatus}

-- ---- a flow that is right

-- whether the lines of a right flow are left out: with the option faults, if some LAN wants it
abbrev pub is_hidden : (faults : Bool) → (wanted : List ℕ) → Bool
is_hidden faults wanted = faults && not (length wanted == 0)

-- the lines of a right flow, unless they are left out
abbrev pub unless_hidden : (faults : Bool) → (wanted : List ℕ) → (lines : List ℕ) → List ℕ
unless_hidden faults wanted lines = if is_hidden faults wanted then [] else lines

-- the lines of a right flow with this tree, as text or in JSON
abbrev pub right_lines_or_object : (json whole : Bool) → DomainFacts → (printed : List Tree)
    → (flow : ℕ) → Tree → (wanted : List ℕ) → List ℕ
right_lines_or_object true whole domain printed flow tree wanted =
    right_objects whole domain printed flow tree wanted
right_lines_or_object false whole domain printed flow tree wanted =
    right_lines whole domain.topology flow (length tree) wanted

-- the lines of a right flow with this tree, as the options ask
abbrev pub right_flow_lines : AuditOptions → (whole : Bool) → DomainFacts → (printed : List Tree)
    → (flow : ℕ) → Tree → (wanted : List ℕ) → List ℕ
right_flow_lines options whole domain printed flow tree wanted =
    unless_hidden options.faults wanted (right_lines_or_object options.json whole domain printed flow tree
    wanted)

-- ---- a flow with a finding

-- the lines of a flow with a finding, as text or in JSON
abbrev pub wrong_lines_or_object : (json travels : Bool) → DomainFacts → List SummaryValue
    → (flow ttl : ℕ) → Travel → ExplanationValue → List ℕ
wrong_lines_or_object true travels domain summary flow ttl travel explanation =
    wrong_object travels domain summary flow ttl travel explanation
wrong_lines_or_object false travels domain summary flow ttl travel explanation =
    wrong_lines travels domain summary flow travel explanation

-- the lines of a flow with a finding, as the options ask
abbrev pub wrong_flow_lines : AuditOptions → DomainFacts → List SummaryValue → (flow ttl : ℕ) → Travel
    → ExplanationValue → List ℕ
wrong_flow_lines options domain summary flow ttl travel explanation =
    wrong_lines_or_object options.json options.travels domain summary flow ttl travel explanation

-- ---- any flow

-- the lines of the flow with this number, by the result of its examination, the explanation of its finding,
-- and the LANs that want it
abbrev pub answer_lines : AuditOptions → (whole : Bool) → DomainFacts → List SummaryValue
    → (printed : List Tree) → (flow : ℕ) → Examined → ExplanationValue → (wanted : List ℕ) → List ℕ
answer_lines options whole domain summary printed flow (Certified entries) explanation wanted =
    right_flow_lines options whole domain printed flow entries.items wanted
answer_lines options whole domain summary printed flow (Found ttl travel) explanation wanted =
    wrong_flow_lines options domain summary flow ttl travel explanation

-- the printed trees and this flow's, each by its key; text prints none, and neither does a flow whose lines
-- are left out
abbrev pub with_shown_tree : (json hidden : Bool) → List Tree → (key : Tree) → List Tree
with_shown_tree true false printed key = with_tree printed key
with_shown_tree _ _ printed key = printed

-- the printed trees after the lines of this flow
abbrev pub shown_trees_with : AuditOptions → Net → List Tree → Examined → (wanted : List ℕ) → List Tree
shown_trees_with options net printed (Certified entries) wanted =
    with_shown_tree options.json (is_hidden options.faults wanted) printed (tree_key net entries.items)
shown_trees_with options net printed (Found ttl travel) wanted = printed

-- ---- what is known of a flow

-- whether the flow is right (`true`) or not (`false`), if that is known. A flow without a finding is known to
-- be right if no router is excluded.
abbrev pub known_right : (whole : Bool) → Examined → (known : Bool) → Option Bool
known_right whole (Certified entries) known = if whole then Some true else None
known_right whole (Found ttl travel) known = if known then Some false else None

-- the status of a flow without a finding
abbrev pub status_of_right : (whole : Bool) → (wanted : List ℕ) → FlowStatus
status_of_right whole wanted = record {
  right = if whole then Some true else None;
  unwanted = length wanted == 0;
}

-- the status of a flow with a finding
abbrev pub status_of_wrong : (known : Bool) → FlowStatus
status_of_wrong known = record { right = if known then Some false else None; unwanted = false }

-- the status of a flow
abbrev pub status_of : (whole : Bool) → Examined → (known : Bool) → (wanted : List ℕ) → FlowStatus
status_of whole (Certified entries) known wanted = status_of_right whole wanted
status_of whole (Found ttl travel) known wanted = status_of_wrong known
