use Rattle.std.proofs.Common.{◌≡◌, Some, arith}
use Rattle.mc_cert.proofs.FieldLemmas.{DenotesFlow-from_found}
use Rattle.mc_cert.proofs.tokens.flow.FlowFields.entries_of_flow.Goals as goal

-- The group and the source that were read are the flow's, and the entries are there.
pub returns : goal.returns
returns c =
    let f = c.flow-flow.result.now in
    let fields = c.args.self in
    let is_group : fields.group ≡ Some f.group = grind arith in
    let is_source : fields.source ≡ Some f.source = grind arith in
    DenotesFlow-from_found (λ es. es.items) c.args.topology.now c.args.number f fields.group fields.source
    fields.reached c.flow-flow.ensures.flow is_group is_source
