use Rattle.std.proofs.Common.{◌≡◌, Err, sym, ap}
use Rattle.std.proofs.lemmas.Result.{err_from_is_err_and}
use Rattle.toml.specs.View.{table_view}
use Rattle.mc_topology.specs.declared.fault.TopologyFault.{TopologyFault}
use Rattle.mc_topology.specs.Answer.{out_of_memory}
use Rattle.mc_topology.proofs.Validity.{IsValidTopology-from_topology_in}
use Rattle.mc_topology.proofs.ReadLemmas.{topology_in-Ok, topology_in-Err}
use Rattle.mc_topology.proofs.read.topology_with.Goals as goal

-- Version, LANs and routers were read before, so that the first fault of the table is the one of the
-- sections after them.
pub returns-in_err-interfaces : goal.returns-in_err-interfaces
returns-in_err-interfaces c = record {
  outcome = (
      let p = err_from_is_err_and c.from_residual.result c.from_residual.ensures.1 in
      let fault = c.in_err-interfaces.field-0.0 in
      rw (p.1, p.2) (λ other.
      let at_found =
      c.in_err-interfaces.ensures.outcome
      (λ e. let same : fault
      ≡ out_of_memory = cc in other (ap (λ (f : TopologyFault). Err f) same)) in
      sym
      (topology_in-Err (table_view c.args.table.now) c.args.lans c.args.routers fault c.requires.version
      c.requires.lans c.requires.routers (sym at_found))));
}

-- The parts are those that the definition reads, and what it reads is valid.
pub new-requires : goal.new-requires
new-requires c = record {
  valid = (
      let ms = table_view c.args.table.now in
      IsValidTopology-from_topology_in ms _
      (topology_in-Ok ms c.args.lans c.args.routers c.in_ok-interfaces.interfaces
      c.in_ok-interfaces.sources c.in_ok-interfaces.flows c.requires.version c.requires.lans
      c.requires.routers (sym (c.in_ok-interfaces.ensures.outcome (λ e. absurd cc)))));
}

-- Each part is what the definition reads of its section, and they are put together as it does.
pub returns : goal.returns
returns c = record {
  outcome = (
      λ other. rw c.new.ensures.value
      (sym
      (topology_in-Ok (table_view c.args.table.now) c.args.lans c.args.routers
      c.in_ok-interfaces.interfaces
      c.in_ok-interfaces.sources c.in_ok-interfaces.flows c.requires.version c.requires.lans
      c.requires.routers (sym (c.in_ok-interfaces.ensures.outcome (λ e. absurd cc))))));
}
