use Rattle.std.proofs.Common.{ℕ, map, refl}
use Rattle.std.proofs.lemmas.Result.{IfOk-weaker}
use Rattle.mc_asked.proofs.IndexLemmas.{is_index_of_groups}
use Rattle.mc_asked.proofs.answers.index_of_flow_groups.Goals as goal

-- The index has the second part of each flow and nothing else, and that part is the flow's group.
pub returns : goal.returns
returns c = IfOk-weaker c.index_of_groups.result _ _ (λ index same.
    is_index_of_groups c.args.flows.now index (map (λ (flow : ℕ × ℕ). flow.1) c.args.flows.now) refl same)
    c.index_of_groups.ensures
