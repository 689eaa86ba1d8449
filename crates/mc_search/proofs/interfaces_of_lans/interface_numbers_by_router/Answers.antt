-- An interface goes to the end of its own router's list alone, so that each list has the router's
-- interfaces in the topology's order.
use Rattle.std.proofs.Common.{◌≡◌, ℕ, ◌<◌, ◌++◌, List, [], ◌∷◌, Option, length, filter, ◌==◌, sym, ap}
use Rattle.std.proofs.Common.{subst, ◌∙◌, arith}
use Rattle.std.specs.Prelude.{unwrap_or}
use Rattle.std.proofs.lemmas.List.{length-map, length-set}
use Rattle.mc_topology.specs.SectionRows.{InterfaceRow}
use Rattle.mc_theory.specs.Lists.{below}
use Rattle.mc_forward.proofs.BelowLemmas.{below-more, length-below}
use Rattle.mc_forward.proofs.IndexLemmas.{map_below-from_items}
use Rattle.mc_search.specs.BucketsAndMarks.{AreBuckets}
use Rattle.mc_search.specs.TopologyLans.{interface_at, interfaces_of_router}
use Rattle.mc_search.proofs.BucketLemmas.{are_buckets-none, are_buckets-more, map-identity}
use Rattle.mc_search.proofs.interfaces_of_lans.interface_numbers_by_router.Goals as goal

-- At first there is an empty list for each router.
pub loop-number-init : goal.loop-number-init
unfolding below
loop-number-init c =
    let t = c.args.topology.now in
    record {
      count = ap length c.in_ok-lists.ensures
          ∙ length-map {B = List ℕ} (below c.routers.result) (λ _. [])
          ∙ length-below c.routers.result ∙ c.routers.ensures.count;
      holds = are_buckets-none (λ k. k) (λ k. (interface_at t k).router) c.in_ok-lists.lists.items
          c.routers.result c.in_ok-lists.ensures;
    }

-- The list of the interface's router gets its number, and the other lists stay.
pub loop-number-preserved : goal.loop-number-preserved
loop-number-preserved c =
    let t = c.args.topology.now in
    let k = c.loop-number.number in
    let q = c.router-in-loop-number.inside.0 in
    let lists = c.loop-number.lists.items in
    let number : ℕ → ℕ = λ i. (interface_at t i).router in
    let own : q ≡ c.interface.result.router =
    c.router-in-loop-number.view_is ∙ ap (λ (i : InterfaceRow). i.router) c.router.view_is in
    let at : q ≡ number k = own ∙ sym (ap (λ (o : Option InterfaceRow).
    (unwrap_or o (record { router = 0; device = []; lan = 0 })).router) c.interface.ensures.interface)
    in
    let within : q < length lists =
    omega (arith, own, c.interface.ensures.valid.router, c.loop-number.invariant.count) in
    record {
      count = length-set lists q c.push.new.self.items ∙ c.loop-number.invariant.count;
      holds = subst (AreBuckets (λ (i : ℕ). i) number _) (sym (below-more k))
          (are_buckets-more (λ (i : ℕ). i) number lists (below k) k q c.index_mut-list.result.now
          c.push.new.self.items at within c.index_mut-list.ensures.value
          (c.in_ok-push.ensures.items ∙ ap (λ (xs : List ℕ). xs ++ k ∷ []) c.list.view_is)
          c.loop-number.invariant.holds);
    }

-- All interfaces are done, so each list has those of its router.
pub returns : goal.returns
returns c =
    let t = c.args.topology.now in
    let lists = c.loop-number.lists.items in
    let end : c.loop-number.number ≡ length t.interfaces =
    omega (
      arith,
      c.loop-number-test.false,
      c.loop-number.auto.number-end,
      c.interfaces-number-end.ensures.count,
    ) in
    map_below-from_items lists (interfaces_of_router t (below (length t.interfaces))) (length t.routers) []
    c.loop-number.invariant.count
    (λ b lt. c.loop-number.invariant.holds b (subst (λ (n : ℕ). b < n)
    (sym c.loop-number.invariant.count) lt)
    ∙ map-identity (filter (λ k. (interface_at t k).router == b) (below c.loop-number.number))
    ∙ ap (λ (n : ℕ). filter (λ k. (interface_at t k).router == b) (below n)) end)
