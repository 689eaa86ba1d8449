use Rattle.std.proofs.Common.{◌≡◌, false, ap, ◌∙◌}
use Rattle.std.specs.Map.{values_of}
use Rattle.mc_topology.specs.Flows.{has_flow}
use Rattle.mc_topology.proofs.FlowKeys.{values_of-insert_new_flow, keys_of-insert_new_flow}
use Rattle.mc_topology.proofs.flows.Flows.push.Goals as goal

-- No flow has the new one's key, so that the map puts it behind the others.
pub returns-clause-added : goal.returns-clause-added
returns-clause-added c =
    let new : has_flow c.args.flow.source c.args.flow.group (values_of c.self.inside.flows.entries)
    ≡ false = rw c.self.view_is c.requires.absent in
    let pushed = values_of-insert_new_flow c.self.inside.flows c.args.flow c.self.invariant new in
    rw (← c.self.view_is) (ap values_of c.in_ok-insert.ensures.entries ∙ pushed)

-- The new flow is kept under its own source and group, as the others are.
pub invariant_of-self-2 : goal.invariant_of-self-2
invariant_of-self-2 c =
    let new : has_flow c.args.flow.source c.args.flow.group (values_of c.self.inside.flows.entries)
    ≡ false = rw c.self.view_is c.requires.absent in
    rw c.in_ok-insert.ensures.entries
    (keys_of-insert_new_flow c.self.inside.flows c.args.flow c.self.invariant new)
