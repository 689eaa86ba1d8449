-- The marks say which routers are listed, so that a router is added exactly where it isn't.
use Rattle.std.proofs.Common.{◌≡◌, ℕ, List, ◌∷◌, inl, inr, map, refl, sym, ap, subst, ◌∙◌, arith}
use Rattle.mc_theory.specs.Lists.{In}
use Rattle.mc_forward.specs.ListedTables.{facts}
use Rattle.mc_search.specs.declared.listed_interface.ListedInterface.{ListedInterface}
use Rattle.mc_search.specs.SearchLine.{append_new, router_of_group}
use Rattle.mc_search.proofs.ReachLemmas.{group_router-of_topology}
use Rattle.mc_search.proofs.reach.add_routers.Goals as goal

-- The routers that are left are at first all on the LAN; each is one of the topology's, for which there are
-- marks.
pub loop-router_on_lan-init : goal.loop-router_on_lan-init
loop-router_on_lan-init c =
    let d = facts c.args.lan_probe.now.view.now.domain in
    let old = c.args.routers.now.items in
    let same = c.into_iter-router_on_lan-iterator.ensures.into_iter_gives
    ∙ c.routers_on-router_on_lan-items.ensures.value in
    record {
      count = refl;
      rest = ap (λ (gs : List (ℕ × List ListedInterface)). append_new old (map router_of_group gs)) same;
      listed = c.requires.listed;
      inside = λ g h.
          let lt = group_router-of_topology d c.args.lan g (subst (In g) same h) in
          omega (arith, lt, c.requires.room);
    }

-- The next router is one of those that are left, so it has a mark.
pub add_router-requires-clause-router : goal.add_router-requires-clause-router
add_router-requires-clause-router c =
    let lt = c.loop-router_on_lan.invariant.inside c.in-Some.router_on_lan
    (subst (In c.in-Some.router_on_lan) (sym c.in-Some.ensures.steps) (inl refl)) in
    let own : c.router_on_lan.inside.router ≡ c.in-Some.router_on_lan.0 =
    ap router_of_group c.router_on_lan.view_is in
    omega (arith, lt, own, c.loop-router_on_lan.invariant.count)

-- Adding the next router and then the others comes to adding all that were left.
pub loop-router_on_lan-preserved : goal.loop-router_on_lan-preserved
loop-router_on_lan-preserved c =
    let old = c.loop-router_on_lan.routers.items in
    let rest = map router_of_group c.next.new.self in
    let own : c.router_on_lan.inside.router ≡ c.in-Some.router_on_lan.0 =
    ap router_of_group c.router_on_lan.view_is in
    record {
      count = c.in_ok-add_router.ensures.count ∙ c.loop-router_on_lan.invariant.count;
      rest = ap (λ (ms : List ℕ). append_new ms rest) c.in_ok-add_router.ensures.routers
          ∙ ap (λ (r : ℕ). append_new old (r ∷ rest)) own
          ∙ ap (λ (gs : List (ℕ × List ListedInterface)). append_new old (map router_of_group gs))
          (sym c.in-Some.ensures.steps)
          ∙ c.loop-router_on_lan.invariant.rest;
      listed = c.in_ok-add_router.ensures.listed;
      inside = λ g h. c.loop-router_on_lan.invariant.inside g
          (subst (In g) (sym c.in-Some.ensures.steps) (inr h));
    }
