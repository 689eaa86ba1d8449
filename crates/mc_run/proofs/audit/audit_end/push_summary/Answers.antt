use Rattle.std.proofs.Common.{List, ℕ, ◌++◌, ap, append_assoc, ◌∙◌}
use Rattle.std.specs.Prelude.{codes, decimal}
use Rattle.std.specs.String.{string_bytes}
use Rattle.mc_run.specs.AuditEnd.{summary_of_flows}
use Rattle.mc_run.proofs.audit.audit_end.push_summary.Goals as goal

-- The line is written in two parts, which are one text.
pub returns : goal.returns
returns c =
    let counts = c.args.flow_counts in
    let flows = summary_of_flows c.args.flows counts.right counts.wrong counts.unknown counts.unwanted in
    let asked = codes " asked " ++ (decimal c.args.asked ++ codes "\n") in
    c.in_ok-writeln.ensures.bytes
    ∙ ap (λ (text : List ℕ). text ++ asked) c.in_ok-write.ensures.bytes
    ∙ append_assoc (string_bytes c.args.text.now) flows asked
