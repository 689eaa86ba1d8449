use Rattle.std.proofs.Common.{ℕ, List, ◌++◌, ◌∷◌, [], true, false, ap, append-nil, sym, take, ◌∙◌}
use Rattle.mc_shown.specs.AskedText.{listed_sources}
use Rattle.mc_forward.specs.ListedTables.{flow_pairs}
use Rattle.mc_run.proofs.AuditAskedLemmas.{listed_sources-more}
use Rattle.mc_run.proofs.audit.audit_asked.listed_sources.Goals as goal
use Rattle.mc_run.proofs.audit.audit_asked.listed_sources.Goals.{then-eq+in_ok-push, else-eq}

-- The flow at this place adds its source exactly if its group is the one that is asked for; the sources of
-- one flow more are these and that one.
pub loop-number-preserved : goal.loop-number-preserved
loop-number-preserved c =
    let flows = c.args.topology.now.flows in
    let flow = c.flow-flow.result.now in
    let n = c.loop-number.number in
    elim c.if-eq.branch [
      | then-eq+in_ok-push w ↦ rw w.sources-is (w.in_ok-push.ensures.items
          ∙ ap (λ (xs : List ℕ). xs ++ flow.source ∷ []) c.loop-number.invariant
          ∙ sym (listed_sources-more flows n flow c.args.group true c.flow-flow.ensures.flow
          (sym c.eq.ensures ∙ w.if-eq.true)))
      | else-eq w ↦ rw w.sources-is (c.loop-number.invariant
          ∙ sym (append-nil (listed_sources (flow_pairs (take n flows)) c.args.group))
          ∙ sym (listed_sources-more flows n flow c.args.group false c.flow-flow.ensures.flow
          (sym c.eq.ensures ∙ w.if-eq.false)))
    ]
