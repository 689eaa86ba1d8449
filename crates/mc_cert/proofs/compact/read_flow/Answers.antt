use Rattle.mc_cert.proofs.PieceLemmas.{flow_text-pieces}
use Rattle.mc_cert.proofs.compact.read_flow.Goals as goal

-- The seven pieces that were read are those of the flow's text, in its order.
pub returns : goal.returns
returns c =
    flow_text-pieces c.args.flow.now c.in_ok-tree_no.tree_no _ _ _ _ _ _ _ _
    c.in_ok-rest.ensures c.in_ok-rest-2.ensures c.in_ok-rest-3.ensures c.in_ok-rest-4.ensures
    c.in_ok-rest-5.ensures c.in_ok-tree_no.ensures.text c.in_ok-rest-6.ensures
