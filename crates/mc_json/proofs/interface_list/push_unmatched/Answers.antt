use Rattle.std.proofs.Common.{map, ap, sym, ◌∙◌, slice_get}
use Rattle.serde_json.specs.View.{view as data_of}
use Rattle.mc_topology.specs.Topology.{TopologyValue}
use Rattle.mc_forward.specs.ListedTables.{facts}
use Rattle.mc_json.specs.DomainData.{unmatched_data}
use Rattle.mc_json.proofs.LoopStepLemmas.{flat_map-take_more}
use Rattle.mc_json.proofs.interface_list.push_unmatched.Goals as goal

-- The interface at this place is the topology's, and it is added exactly if its router has no vif of its
-- device.
pub loop-number-preserved : goal.loop-number-preserved
loop-number-preserved c =
    let d = c.args.domain.now in
    let n = c.loop-number.number in
    let found = ap (λ (t : TopologyValue). slice_get t.interfaces n)
    (sym c.topology-topology.ensures.topology) ∙ c.interface.ensures.interface in
    flat_map-take_more (unmatched_data (facts d)) d.topology.interfaces c.interface.result
    (map data_of c.args.values.now.items) (map data_of c.loop-number.values.items)
    (map data_of c.push_interface.new.values.items) n found c.loop-number.invariant
    c.in_ok-push_interface.ensures
