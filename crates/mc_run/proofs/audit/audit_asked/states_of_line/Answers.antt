use Rattle.std.proofs.Common.{ℕ, List, ◌++◌, ◌∷◌, [], ap₂, sym, ◌∙◌}
use Rattle.std.specs.Prelude.{slice_get}
use Rattle.mc_asked.specs.declared.forwarding.RouterState.{RouterState}
use Rattle.mc_theory.specs.Lists.{below}
use Rattle.mc_forward.proofs.BelowLemmas.{map_below-more}
use Rattle.mc_run.specs.AuditAsked.{state_at}
use Rattle.mc_run.proofs.audit.audit_asked.states_of_line.Goals as goal

-- No router is below 0, and the list is empty.
pub loop-router-init : goal.loop-router-init
unfolding below
loop-router-init c = c.new-own.ensures.items

-- The state of the next router is appended to those of the routers below it.
pub loop-router-preserved : goal.loop-router-preserved
loop-router-preserved c =
    let state = λ (r : ℕ). state_at c.args.number (slice_get c.args.states.now r) in
    c.in_ok-push.ensures.items
    ∙ ap₂ (λ (own : List RouterState) (s : RouterState). own ++ s ∷ []) c.loop-router.invariant
    c.state_at.ensures
    ∙ sym (map_below-more state c.loop-router.router)
