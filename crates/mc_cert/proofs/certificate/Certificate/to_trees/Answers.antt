use Rattle.std.proofs.Common.{◌∷◌, [], ◌++◌, ◌∙◌, ap₂, sym}
use Rattle.std.proofs.lemmas.List.{take_more}
use Rattle.std.proofs.lemmas.Option.{get_or_from_slice_get, slice_get_within}
use Rattle.mc_cert.proofs.certificate.Certificate.to_trees.Goals as goal

-- The tree that is pushed is a copy of the next flow's.
pub loop-flow-preserved : goal.loop-flow-preserved
loop-flow-preserved c =
    let flows = c.args.self.now in
    let flow = c.loop-flow.flow in
    let es = c.writable_tree.result.now in
    c.in_ok-push.ensures.pushed
    ∙ ap₂ (λ ts t. ts ++ t ∷ []) c.loop-flow.invariant
    (c.in_ok-tree.ensures.items ∙ sym (get_or_from_slice_get flows flow es es c.writable_tree.ensures.tree))
    ∙ sym (take_more flows flow es (slice_get_within flows flow es c.writable_tree.ensures.tree))
