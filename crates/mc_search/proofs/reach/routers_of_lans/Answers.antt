-- Each LAN adds those of its routers that no LAN before it has.
use Rattle.std.proofs.Common.{◌==◌, ◌≤◌, ◌∙◌, ℕ, Bool, List, ap, arith, drop, false, length, subst, sym, take}
use Rattle.std.specs.List.{list_any}
use Rattle.std.specs.Prelude.{slice_index_or}
use Rattle.std.proofs.lemmas.List.{length-replicate, take_at}
use Rattle.mc_topology.specs.Topology.{TopologyValue}
use Rattle.mc_search.specs.BucketsAndMarks.{AreMarksOfListed}
use Rattle.mc_search.specs.LanProbe.{search_in}
use Rattle.mc_search.proofs.FilterLemmas.{slice_index_or-replicate_false}
use Rattle.mc_search.proofs.ReachLemmas.{routers_of_lans-all_below, routers_of_lans-more}
use Rattle.mc_search.proofs.reach.routers_of_lans.Goals as goal

-- At first no router is listed, and none is marked.
pub loop-lan-init : goal.loop-lan-init
loop-lan-init c =
    let none = c.in_ok-listed.ensures in
    let routers = c.args.lan_probe.now.view.now.domain.topology.routers in
    record {
      count = ap length none ∙ length-replicate c.routers.result false ∙ c.routers.ensures.count
          ∙ ap (λ (t : TopologyValue). length t.routers) c.topology.ensures.topology;
      routers = c.new-routers.ensures.items;
      listed = λ n lt. ap (λ (ms : List Bool). slice_index_or ms n false) none
          ∙ slice_index_or-replicate_false c.routers.result n
          ∙ sym (ap (λ (rs : List ℕ). list_any (λ m. m == n) rs) c.new-routers.ensures.items);
    }

-- The LAN's routers are added, and marked with them.
pub loop-lan-preserved : goal.loop-lan-preserved
loop-lan-preserved c =
    let listed = c.add_routers.new.listed in
    let before = c.loop-lan.listed in
    let whole = take_at listed (drop (length listed) before.items) before.len
    (omega (arith, c.in_ok-add_routers.ensures.count, c.deref_mut.ensures.len)) in
    record {
      count = ap length whole ∙ c.in_ok-add_routers.ensures.count ∙ ap length c.deref_mut.ensures.value
          ∙ c.loop-lan.invariant.count;
      routers = routers_of_lans-more (search_in c.args.lan_probe.now) c.args.lans.now c.loop-lan.lan-index
          c.lan-item.result c.loop-lan.routers.items c.add_routers.new.routers.items
          c.loop-lan-test.true c.lan-item.is c.loop-lan.invariant.routers
          c.in_ok-add_routers.ensures.routers;
      listed = subst (AreMarksOfListed c.add_routers.new.routers.items) (sym whole)
          c.in_ok-add_routers.ensures.listed;
    }

-- Each router on a LAN is one of the topology's.
pub returns-clause-within : goal.returns-clause-within
returns-clause-within c =
    let routers = c.args.lan_probe.now.view.now.domain.topology.routers in
    let all : length routers ≤ length routers = omega arith in
    routers_of_lans-all_below (search_in c.args.lan_probe.now) (take c.loop-lan.lan-index c.args.lans.now)
    c.loop-lan.routers.items (length routers) c.loop-lan.invariant.routers all
