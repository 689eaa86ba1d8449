use Rattle.std.proofs.Common.{Bool, ap, sym}
use Rattle.mc_run.specs.AuditAsked.{line_written}
use Rattle.mc_run.proofs.AuditAskedLemmas.{appended-same}
use Rattle.mc_run.proofs.audit.audit_asked.push_line.Goals as goal

-- With JSON the line is the object, as in the definition,
pub returns-then-json : goal.returns-then-json
returns-then-json c =
    appended-same c.push_asked_line.result _ _ _ _
    (ap (λ (json : Bool). line_written json c.args.topology.now c.args.line.now) (sym c.if-json.true))
    c.push_asked_line.ensures

-- and else it is the text.
pub returns-else-json : goal.returns-else-json
returns-else-json c =
    appended-same c.push_asked.result _ _ _ _
    (ap (λ (json : Bool). line_written json c.args.topology.now c.args.line.now) (sym c.if-json.false))
    c.push_asked.ensures
