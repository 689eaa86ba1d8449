use Rattle.std.proofs.Common.{◌≡◌, Bool, ◌++◌, ap, sym, ◌∙◌}
use Rattle.std.specs.Prelude.{◌&&◌, codes}
use Rattle.mc_run.specs.AuditEnd.{strict_line}
use Rattle.mc_run.proofs.AuditAskedLemmas.{appended-same, appended-two}
use Rattle.mc_run.proofs.audit.audit_end.push_strict.Goals as goal
use Rattle.mc_run.proofs.audit.audit_end.push_strict.Goals.{then-strict, else-strict}

-- The two lines are appended, and `strict && all`, which the code computes by cases, is the conjunction of
-- the definition.
pub returns : goal.returns
returns c =
    let fails : c.if-strict.fails ≡ (c.args.strict && c.args.all) = elim c.if-strict.branch as
    (λ _. c.if-strict.fails ≡ (c.args.strict && c.args.all)) [
      | then-strict w ↦ w.fails-is ∙ sym (ap (λ (b : Bool). b && c.args.all) w.if-strict.true)
      | else-strict w ↦ w.fails-is ∙ w.if-strict.false
          ∙ sym (ap (λ (b : Bool). b && c.args.all) w.if-strict.false)
    ] in
    appended-same c.push_strict_line-2.result _ _ _ _
    (λ i. strict_line (fails i) (c.from.ensures i) (codes " flows that nobody wants")
    ++ strict_line (fails i) c.args.asked (codes " wants that no flow answers"))
    (appended-two c.push_strict_line-2.result _ _ _ _ _ c.in_ok-push_strict_line.ensures
    c.push_strict_line-2.ensures)
