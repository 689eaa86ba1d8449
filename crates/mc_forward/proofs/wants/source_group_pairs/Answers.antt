use Rattle.std.proofs.Common.{ℕ, List, [], ◌∷◌, ◌++◌, map, take, ap, sym, ◌∙◌}
use Rattle.mc_topology.specs.declared.flow.Flow.{Flow}
use Rattle.mc_forward.proofs.BelowLemmas.{map-push}
use Rattle.mc_forward.proofs.IndexLemmas.{take-one_more}
use Rattle.mc_forward.proofs.wants.source_group_pairs.Goals as goal

-- The pair of the next flow follows those of the flows before it.
pub loop-flow-preserved : goal.loop-flow-preserved
loop-flow-preserved c =
    let flows = c.args.topology.now.flows in
    let flow = c.flow-flow.result.now in
    let pair : Flow → ℕ × ℕ = λ f. (f.source, f.group) in
    c.in_ok-push.ensures.items
    ∙ ap (λ (ps : List (ℕ × ℕ)). ps ++ (flow.source, flow.group) ∷ []) c.loop-flow.invariant
    ∙ sym (map-push pair (take c.loop-flow.flow flows) flow)
    ∙ ap (map pair) (sym (take-one_more flows c.loop-flow.flow flow c.flow-flow.ensures.flow))
