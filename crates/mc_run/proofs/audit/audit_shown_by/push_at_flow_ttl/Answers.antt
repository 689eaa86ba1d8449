use Rattle.std.proofs.Common.{ℕ, List, ◌++◌, Some, ap, ap₂, sym, ◌∙◌}
use Rattle.std.specs.String.{string_bytes}
use Rattle.mc_topology.specs.Topology.{TopologyValue}
use Rattle.mc_replay.specs.declared.finding.Finding.{Finding}
use Rattle.mc_run.specs.AuditText.{at_flow_ttl_text}
use Rattle.mc_run.proofs.audit.audit_shown_by.push_at_flow_ttl.Goals as goal

-- The line is that of the finding that is given, with the names of this topology.
pub returns-in_ok-writeln : goal.returns-in_ok-writeln
returns-in_ok-writeln c =
    let ttl = c.args.ttl in
    c.in_ok-writeln.ensures.bytes
    ∙ ap (λ (line : List ℕ). string_bytes c.args.text.now ++ line)
    (ap₂ (λ (t : TopologyValue) (x : Finding). at_flow_ttl_text t ttl (Some x))
    c.shown-finding.ensures.topology
    c.shown-finding.ensures.finding ∙ ap (at_flow_ttl_text c.args.topology.now ttl) (sym c.in-Some.is))
