use Rattle.std.proofs.Common.{◌≡◌, Some, arith}
use Rattle.mc_cert.proofs.FieldLemmas.{DenotesNumber-from_found}
use Rattle.mc_cert.proofs.tokens.shared_flow.SharedFlowFields.tree_of.Goals as goal

-- The group and the source that were read are the flow's, and the number is there.
pub returns : goal.returns
returns c =
    let f = c.flow-flow.result.now in
    let fields = c.args.self in
    let is_group : fields.group ≡ Some f.group = grind arith in
    let is_source : fields.source ≡ Some f.source = grind arith in
    DenotesNumber-from_found c.args.topology.now c.args.number f fields.group fields.source fields.tree
    c.flow-flow.ensures.flow is_group is_source
