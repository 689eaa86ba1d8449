use Rattle.std.proofs.Common.{ℕ, List, map, sym, append-nil}
use Rattle.serde_json.specs.Data.{Data}
use Rattle.serde_json.specs.View.{view as data_of}
use Rattle.mc_theory.specs.Lists.{below}
use Rattle.mc_forward.specs.Domains.{vif_of}
use Rattle.mc_forward.specs.ListedTables.{facts}
use Rattle.mc_json.specs.DomainData.{vif_data}
use Rattle.mc_json.proofs.LoopStepLemmas.{flat_map-below_more}
use Rattle.mc_json.proofs.interface_list.push_vifs.Goals as goal

-- No vif is below 0, and nothing was added.
pub loop-vif-init : goal.loop-vif-init
unfolding below
loop-vif-init c = sym (append-nil (map data_of c.args.values.now.items))

-- The next vif is added to those below it, if the router's table has a line for it.
pub loop-vif-preserved : goal.loop-vif-preserved
loop-vif-preserved c =
    let d = c.args.domain.now in
    let row : ℕ → List Data =
    λ vif. vif_data (facts d) c.args.router vif (vif_of d.vifs c.args.router vif) in
    flat_map-below_more row (map data_of c.args.values.now.items) (map data_of c.loop-vif.values.items)
    (map data_of c.push_vif.new.values.items) c.loop-vif.vif c.loop-vif.invariant
    c.in_ok-push_vif.ensures.added
