use Rattle.std.proofs.Common.{◌≡◌, ℕ, ap, sym, ◌∙◌}
use Rattle.std.specs.Prelude.{◌==◌}
use Rattle.std.proofs.lemmas.List.{length-map}
use Rattle.mc_run.specs.AuditPieces.{audited_value}
use Rattle.mc_run.specs.AuditedFiles.{is_whole}
use Rattle.mc_run.proofs.FlowPushedLemmas.{wrong_flow_lines-same_causes}
use Rattle.mc_run.proofs.ExplanationLemmas.{wrong_flow_lines-same_parts}
use Rattle.mc_run.proofs.audit.audit_wrong.push_wrong.Goals as goal

-- The explanation that is written has the parts of the reasons: the other missed LANs are those of this
-- travel, and the domain is whole where the list of excluded names is empty.
pub returns-clause-added : goal.returns-clause-added
returns-clause-added c =
    let v = audited_value c.args.audited.now in
    let whole : c.is_empty-whole.result ≡ is_whole v = c.is_empty-whole.ensures
    ∙ ap (λ (k : ℕ). k == 0) (sym (length-map c.args.audited.now.without.now (λ name. name.now))) in
    let r = c.args.reasons.now in
    wrong_flow_lines-same_causes v c.args.audited.now.options c.args.flow c.args.ttl c.args.ended.now
    c.deref.result.now r.causes.items r.search r.behind r.shown_by _ _ c.deref.ensures.value
    (wrong_flow_lines-same_parts v c.args.audited.now.options c.args.flow c.args.ttl c.args.ended.now
    c.deref.result.now
    r.search r.behind r.shown_by c.deref-2.result.now c.is_empty-whole.result
    c.is_known_wrong-known.result _ _
    (c.deref-2.ensures.value ∙ c.in_ok-also.ensures) whole c.is_known_wrong-known.ensures
    c.in_ok-push_explained.ensures.added)
