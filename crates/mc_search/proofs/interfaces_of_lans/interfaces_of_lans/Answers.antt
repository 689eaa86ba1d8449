-- The interfaces are added router by router, so each LAN's list has them by router, and each router's in
-- the topology's order.
use Rattle.std.proofs.Common.{◌≡◌, ℕ, ◌<◌, ◌++◌, List, [], length, filter, ◌==◌, map, flat_map}
use Rattle.std.proofs.Common.{get_or, sym, ap, subst, ◌∙◌, arith}
use Rattle.std.proofs.lemmas.List.{length-map}
use Rattle.mc_topology.specs.Topology.{TopologyValue}
use Rattle.mc_theory.specs.Lists.{below}
use Rattle.mc_forward.specs.ListedTables.{facts}
use Rattle.mc_forward.proofs.BelowLemmas.{length-below}
use Rattle.mc_forward.proofs.IndexLemmas.{map_below-from_items}
use Rattle.mc_search.specs.declared.listed_interface.ListedInterface.{ListedInterface}
use Rattle.mc_search.specs.BucketsAndMarks.{AreBuckets}
use Rattle.mc_search.specs.TopologyLans.{interface_at, listed_interface_at, interfaces_of_router}
use Rattle.mc_search.specs.TopologyLans.{interfaces_on_lan}
use Rattle.mc_search.proofs.BucketLemmas.{are_buckets-none, flat_map-below_push, get_or-map_below}
use Rattle.mc_search.proofs.BucketLemmas.{get_or-filter_below_is_less}
use Rattle.mc_search.proofs.interfaces_of_lans.interfaces_of_lans.Goals as goal

-- the numbers of each router's interfaces, as they were found by a topology that is the domain's
lists-by_routers : (t u : TopologyValue) (xs ys : List (List ℕ)) → t ≡ u → ys ≡ xs
    → xs ≡ map (interfaces_of_router t (below (length t.interfaces))) (below (length t.routers))
    → ys ≡ map (interfaces_of_router u (below (length u.interfaces))) (below (length u.routers))
lists-by_routers t u xs ys same copied found =
    copied ∙ found ∙ ap (λ (v : TopologyValue). map (interfaces_of_router v (below (length v.interfaces)))
    (below (length v.routers))) same

-- At first there is an empty list for each LAN.
pub loop-router-init : goal.loop-router-init
unfolding below
loop-router-init c =
    let d = facts c.args.domain.now in
    record {
      count = ap length c.in_ok-lists.ensures
          ∙ length-map {B = List ListedInterface} (below c.lans.result) (λ _. [])
          ∙ length-below c.lans.result ∙ c.lans.ensures.count
          ∙ ap (λ (t : TopologyValue). length t.lans) c.topology-topology.ensures.topology;
      holds = are_buckets-none (listed_interface_at d) (λ k. (interface_at d.topology k).lan)
          c.in_ok-lists.lists.items c.lans.result c.in_ok-lists.ensures;
    }

-- The numbers of a router's interfaces are some of all, which are below their count.
pub add_interfaces-requires-clause-numbers : goal.add_interfaces-requires-clause-numbers
add_interfaces-requires-clause-numbers c = λ k default lt.
    let t = c.args.domain.now.topology in
    let i = c.loop-router.router-index in
    let count = length t.interfaces in
    let all = lists-by_routers c.topology-topology.result.now t c.in_ok-routers.routers.items
    c.deref-router-items.result.now c.topology-topology.ensures.topology
    c.deref-router-items.ensures.value c.in_ok-routers.ensures in
    let own : c.deref.result.now ≡ interfaces_of_router t (below count) i =
    c.deref.ensures.value ∙ c.router.view_is
    ∙ get_or-map_below (interfaces_of_router t (below count)) (length t.routers) i
    c.deref-router-items.result.now
    c.router-item.result all c.loop-router-test.true c.router-item.is in
    subst (λ (ks : List ℕ). get_or ks k default < count) (sym own)
    (get_or-filter_below_is_less (λ j. (interface_at t j).router == i) count k default
    (subst (λ (ks : List ℕ). k < length ks) own lt))

-- This router's interfaces come after those of the routers before it.
pub loop-router-preserved : goal.loop-router-preserved
loop-router-preserved c =
    let d = facts c.args.domain.now in
    let t = d.topology in
    let i = c.loop-router.router-index in
    let count = length t.interfaces in
    let all = lists-by_routers c.topology-topology.result.now t c.in_ok-routers.routers.items
    c.deref-router-items.result.now c.topology-topology.ensures.topology
    c.deref-router-items.ensures.value c.in_ok-routers.ensures in
    let own : c.deref.result.now ≡ interfaces_of_router t (below count) i =
    c.deref.ensures.value ∙ c.router.view_is
    ∙ get_or-map_below (interfaces_of_router t (below count)) (length t.routers) i
    c.deref-router-items.result.now
    c.router-item.result all c.loop-router-test.true c.router-item.is in
    record {
      count = c.in_ok-add_interfaces.ensures.count;
      holds = subst (AreBuckets (listed_interface_at d) (λ k. (interface_at t k).lan)
          c.add_interfaces.new.lists.items)
          (ap (λ (ks : List ℕ). flat_map (interfaces_of_router t (below count)) (below i) ++ ks) own
          ∙ sym (flat_map-below_push (interfaces_of_router t (below count)) i))
          (c.in_ok-add_interfaces.ensures.each (flat_map (interfaces_of_router t (below count)) (below i))
          c.loop-router.invariant.holds);
    }

-- All routers are done, so each LAN's list has all interfaces on it.
pub returns : goal.returns
returns c =
    let d = facts c.args.domain.now in
    let t = d.topology in
    let count = length t.interfaces in
    let lists = c.loop-router.lists.items in
    let all = lists-by_routers c.topology-topology.result.now t c.in_ok-routers.routers.items
    c.deref-router-items.result.now c.topology-topology.ensures.topology
    c.deref-router-items.ensures.value c.in_ok-routers.ensures in
    let size : length c.deref-router-items.result.now ≡ length t.routers = ap length all
    ∙ length-map {B = List ℕ} (below (length t.routers)) (interfaces_of_router t (below count))
    ∙ length-below (length t.routers) in
    let end : c.loop-router.router-index ≡ length t.routers =
    omega (arith, size, c.loop-router-test.false, c.loop-router.auto.router-index-end) in
    map_below-from_items lists (interfaces_on_lan d) (length t.lans) [] c.loop-router.invariant.count
    (λ b lt. c.loop-router.invariant.holds b
    (subst (λ (n : ℕ). b < n) (sym c.loop-router.invariant.count) lt)
    ∙ ap (λ (n : ℕ). map (listed_interface_at d) (filter (λ k. (interface_at t k).lan == b)
    (flat_map (interfaces_of_router t (below count)) (below n)))) end)
