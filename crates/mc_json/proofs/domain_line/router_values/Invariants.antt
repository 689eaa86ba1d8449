use Rattle.std.proofs.Common.{◌≡◌, map}
use Rattle.serde_json.specs.View.{view as data_of}
use Rattle.mc_theory.specs.Lists.{below}
use Rattle.mc_json.specs.DomainData.{router_with_order}
use Rattle.mc_json.proofs.domain_line.router_values.Given as goal

-- the routers so far
abbrev pub invariant-loop-number : goal.invariant-loop-number
invariant-loop-number l = map data_of l.values.items ≡ map (router_with_order l.topology) (below l.number)
