use Rattle.std.proofs.Common.{map, sym, append-nil}
use Rattle.serde_json.specs.View.{view as data_of}
use Rattle.mc_theory.specs.Lists.{below}
use Rattle.mc_forward.specs.ListedTables.{facts}
use Rattle.mc_json.specs.DomainData.{vifs_data}
use Rattle.mc_json.proofs.LoopStepLemmas.{flat_map-below_more}
use Rattle.mc_json.proofs.interface_list.push_all_vifs.Goals as goal

-- No router is below 0, and nothing was added.
pub loop-number-init : goal.loop-number-init
unfolding below
loop-number-init c = sym (append-nil (map data_of c.args.values.now.items))

-- The vifs of the next router are added to those of the routers below it.
pub loop-number-preserved : goal.loop-number-preserved
loop-number-preserved c =
    flat_map-below_more (vifs_data (facts c.args.domain.now)) (map data_of c.args.values.now.items)
    (map data_of c.loop-number.values.items) (map data_of c.push_vifs.new.values.items)
    c.loop-number.number c.loop-number.invariant c.in_ok-push_vifs.ensures.added
