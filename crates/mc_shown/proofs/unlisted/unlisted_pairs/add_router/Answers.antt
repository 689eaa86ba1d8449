-- The pairs ascend strictly, so a search by halving finds a pair at its only place, or shows that it isn't
-- among them.
use Rattle.std.proofs.Common.{◌≡◌, ℕ, ◌+◌, ◌++◌, ◌∷◌, [], List, Vec, Global, get_or, map, set, take, refl}
use Rattle.std.proofs.Common.{sym, ap}
use Rattle.std.proofs.Common.{◌∙◌}
use Rattle.std.proofs.lemmas.List.{take_more, take_all}
use Rattle.mc_tables.proofs.CacheMapLemmas.{key_cmp-antisymmetric}
use Rattle.mc_asked.proofs.SharedPairLemmas.{get_or-map}
use Rattle.mc_shown.specs.declared.unlisted.unlisted_pairs.UnlistedPair.{UnlistedPair}
use Rattle.mc_shown.proofs.UnlistedPairLemmas.{with_routers_so_far-absent, with_routers_so_far-all}
use Rattle.mc_shown.proofs.UnlistedPairLemmas.{with_routers_so_far-more, with_routers_so_far-none}
use Rattle.mc_shown.proofs.UnlistedPairLemmas.{with_routers_so_far}
use Rattle.mc_shown.proofs.unlisted.unlisted_pairs.add_router.Goals as goal
use Rattle.mc_shown.proofs.unlisted.unlisted_pairs.add_router.Goals.{in-Ok+in_ok-add, in_default}

-- Before the first of the router's own pairs, each pair has the routers with lower numbers.
pub loop-pair-init : goal.loop-pair-init
loop-pair-init c =
    c.requires.shown ∙ with_routers_so_far-none c.args.summary.now c.args.router c.args.pairs.now

-- Where the router's pair is among the shown ones, the router is added at that place; where it isn't, no
-- list changes.
pub loop-pair-preserved : goal.loop-pair-preserved
loop-pair-preserved c =
    let summary = c.args.summary.now in
    let router = c.args.router in
    let pairs = c.args.pairs.now in
    let own = c.pairs_in-own.result.now in
    let k = c.loop-pair.pair-index in
    let q = c.pair-item.result in
    let more : take k own ++ q ∷ [] ≡ take (k + 1) own =
    ap (λ (x : ℕ × ℕ). take k own ++ x ∷ []) c.pair-item.is
    ∙ sym (take_more own k q c.loop-pair-test.true) in
    let next : map (with_routers_so_far summary router (take k own ++ q ∷ [])) pairs
    ≡ map (with_routers_so_far summary router (take (k + 1) own)) pairs =
    ap (λ (l : List (ℕ × ℕ)). map (with_routers_so_far summary router l) pairs) more in
    elim c.match-binary_search.branch [
      | in-Ok+in_ok-add w ↦ (
          let i = w.in-Ok.place in
          let old = w.index_mut.result.now in
          let at : get_or pairs i q ≡ q = key_cmp-antisymmetric (get_or pairs i q) q (w.in-Ok.ensures.ok q) in
          let read = w.index_mut.ensures.value
          ∙ ap (λ (l : List ((ℕ × ℕ) × List ℕ)). get_or l i old) c.loop-pair.invariant in
          ap (λ (v : Vec UnlistedPair Global). v.items) w.shown-is
          ∙ ap (λ (l : List ((ℕ × ℕ) × List ℕ)). set l i w.add.new.self) c.loop-pair.invariant
          ∙ with_routers_so_far-more summary router (take k own) pairs i q old w.add.new.self
          c.requires.sorted
          w.in-Ok.ensures.bound at
          (get_or-map (with_routers_so_far summary router (take k own)) pairs i q old w.in-Ok.ensures.bound
          at read)
          w.in_ok-add.ensures
          ∙ next)
      | in_default w ↦ (
          ap (λ (v : Vec UnlistedPair Global). v.items) w.shown-is ∙ c.loop-pair.invariant
          ∙ with_routers_so_far-absent summary router (take k own) pairs pairs w.in_default.field-0 q refl
          c.requires.sorted w.in_default.ensures.bound
          w.in_default.ensures.position
          ∙ next)
    ]

-- All of the router's pairs are done, so each pair has the routers up to this one.
pub returns : goal.returns
returns c = record {
  ok = (
      let summary = c.args.summary.now in
      let router = c.args.router in
      let pairs = c.args.pairs.now in
      let own = c.pairs_in-own.result.now in
      c.loop-pair.invariant
      ∙ ap (λ (l : List (ℕ × ℕ)). map (with_routers_so_far summary router l) pairs)
      (take_all c.loop-pair.pair-index own c.loop-pair-test.false ∙ c.pairs_in-own.ensures)
      ∙ with_routers_so_far-all summary router pairs);
}
