use Rattle.std.proofs.Common.{◌∙◌}
use Rattle.mc_topology.proofs.FlowKeys.{is_some-lookup_flow}
use Rattle.mc_topology.proofs.flows.Flows.has.Goals as goal

-- Each flow is kept under its own source and group, so that the map has the key exactly if some flow
-- has it.
pub returns : goal.returns
returns c =
    let any = is_some-lookup_flow c.self.inside.flows.entries c.args.source c.args.group c.self.invariant in
    rw (← c.self.view_is) (c.contains_key.ensures ∙ any)
