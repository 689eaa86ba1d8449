-- The text of `check` (docs/FORMATS.md, the section "The program"): a line for each flow, and the verdict on
-- all flows.
use Rattle.std.specs.Prelude.{◌≡◌, ℕ, Bool, true, false, List, [], ◌∷◌, ◌++◌, codes, length, decimal}
use Rattle.std.specs.Prelude.{slice_get, Some}
use Rattle.std.specs.List.{list_all}
use Rattle.mc_text.specs.Addr.{dotted}
use Rattle.mc_topology.specs.declared.flow.Flow.{Flow}
use Rattle.mc_topology.specs.Topology.{TopologyValue}
use Rattle.mc_theory.specs.Nets.{Net}
use Rattle.mc_theory.specs.Certificates.{Entry, IsAccepted}
use Rattle.mc_theory.specs.Reasons.{first_reason}
use Rattle.mc_forward.specs.Domains.{DomainValue, net_of}
use Rattle.mc_cert.specs.Certificate.{Tree}
use Rattle.mc_check.specs.Reasons.{reason_value}
use Rattle.mc_check.specs.ReasonText.{verdict_text}
use Rattle.mc_check.specs.Verdicts.{is_yes}
use Rattle.mc_check.specs.declared.verdict.Verdict.{Verdict}
use Rattle.mc_check.specs.declared.verdict.Verdict.TheVariants.{Yes, No}

-- ---- the verdicts

-- The verdict is yes with the number of entries if the list is accepted, and otherwise no with the first
-- reason.
abbrev pub IsVerdict : (lans : ℕ) → Net → List Entry → Verdict → Type 0
IsVerdict lans net entries (Yes copies) = IsAccepted net entries × (copies ≡ length entries)
IsVerdict lans net entries (No reason) = first_reason net lans entries ≡ Some (reason_value reason)

-- There is such a verdict for each flow of the domain's topology, in order.
pub record AreVerdicts (domain : DomainValue) (lists : List Tree) (verdicts : List Verdict) : Type 0 where
  pub count : length verdicts ≡ length domain.topology.flows
  pub each : (flow : ℕ) (entries : List Entry) (verdict : Verdict) → slice_get lists flow ≡ Some entries
      → slice_get verdicts flow ≡ Some verdict
      → IsVerdict (length domain.topology.lans) (net_of domain flow) entries verdict

-- ---- the text

-- the words at the start of a flow's line: its source, its group and its TTL
abbrev pub flow_words : Flow → List ℕ
flow_words flow =
    codes "flow "
    ++ (dotted flow.source ++ (codes " " ++ (dotted flow.group ++ (codes " ttl " ++ decimal flow.ttl))))

-- the line of a flow and its verdict
abbrev pub flow_line : TopologyValue → Flow → Verdict → List ℕ
flow_line topology flow verdict = flow_words flow
    ++ (codes " " ++ (verdict_text topology verdict ++ codes "\n"))

-- the lines of these flows and their verdicts, in order
abbrev pub flow_lines : TopologyValue → List Flow → List Verdict → List ℕ
flow_lines topology (flow ∷ flows) (verdict ∷ verdicts) =
    flow_line topology flow verdict ++ flow_lines topology flows verdicts
flow_lines topology _ _ = []

-- whether every verdict is yes
abbrev pub are_yes : List Verdict → Bool
are_yes verdicts = list_all is_yes verdicts

-- the last line
abbrev pub last_line : Bool → List ℕ
last_line true = codes "verdict yes\n"
last_line false = codes "verdict no\n"

-- the whole text
abbrev pub check_text : TopologyValue → List Verdict → List ℕ
check_text topology verdicts = flow_lines topology topology.flows verdicts ++ last_line (are_yes verdicts)
