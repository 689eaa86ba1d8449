-- What the facts of a line about a flow are read from (Lines).
use Rattle.std.specs.Prelude.{ℕ, List}
use Rattle.mc_tables.specs.Summary.{SummaryValue}
use Rattle.mc_theory.specs.Nets.{Row}
use Rattle.mc_topology.specs.declared.flow.Flow.{Flow}
use Rattle.mc_topology.specs.Topology.{flow_at}
use Rattle.mc_forward.specs.ListedTables.{DomainFacts, facts}
use Rattle.mc_lines.specs.declared.context.LineContext.{LineContext}

-- A domain, the summary of each router's cache, and the number of a flow, which counts from 0.
pub record FlowContext : Type 0 where
  pub domain : DomainFacts
  pub summary : List SummaryValue
  pub flow : ℕ

-- the context, as the code keeps it
abbrev pub flow_context : LineContext → FlowContext
flow_context context = record {
  domain = facts context.view.now.domain;
  summary = context.summary.now;
  flow = context.view.now.flow;
}

-- the flow, as the topology lists it
abbrev pub flow_of : FlowContext → Flow
flow_of context = flow_at context.domain.topology context.flow

-- a router's row for the flow
abbrev pub row_for_flow : FlowContext → (router : ℕ) → Row
row_for_flow context router = (context.domain.nets context.flow).row router
