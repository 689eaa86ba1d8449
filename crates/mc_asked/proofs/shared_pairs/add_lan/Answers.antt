use Rattle.std.proofs.Common.{◌≡◌, ℕ, ◌+◌, ◌++◌, ◌∷◌, [], List, Vec, Global, get_or, map, set, take, refl}
use Rattle.std.proofs.Common.{sym, ap, ◌∙◌, length}
use Rattle.std.proofs.lemmas.List.{take_more, take_all, length-set}
use Rattle.mc_tables.proofs.CacheMapLemmas.{key_cmp-antisymmetric}
use Rattle.mc_asked.specs.PairParts.{push_unless_last}
use Rattle.mc_asked.specs.declared.shared_pairs.SharedPair.{SharedPair}
use Rattle.mc_asked.proofs.SharedPairLemmas.{get_or-map, with_part_so_far, with_part_so_far-absent}
use Rattle.mc_asked.proofs.SharedPairLemmas.{with_part_so_far-all, with_part_so_far-more}
use Rattle.mc_asked.proofs.SharedPairLemmas.{with_part_so_far-none}
use Rattle.mc_asked.proofs.shared_pairs.add_lan.Goals as goal
use Rattle.mc_asked.proofs.shared_pairs.add_lan.Goals.{in-Ok+in_ok-add, in_default}

-- Before the LAN's first pair, no pair has gained the LAN.
pub loop-pair-init : goal.loop-pair-init
loop-pair-init c = record {
  count = c.requires.count;
  added = λ parts number before. before ∙ with_part_so_far-none parts c.args.pairs.now;
}

-- A pair that is found gains the LAN at its place, the only place where it is. One that isn't found is none
-- of the ascending pairs, and changes nothing.
pub loop-pair-preserved : goal.loop-pair-preserved
loop-pair-preserved c =
    let pairs = c.args.pairs.now in
    let own = c.args.own.now in
    let k = c.loop-pair.pair-index in
    let q = c.pair-item.result in
    let more : take k own ++ q ∷ [] ≡ take (k + 1) own =
    ap (λ (x : ℕ × ℕ). take k own ++ x ∷ []) c.pair-item.is
    ∙ sym (take_more own k q c.loop-pair-test.true) in
    let next : (parts : List (List (ℕ × ℕ)))
    → map (with_part_so_far parts (take k own ++ q ∷ [])) pairs
    ≡ map (with_part_so_far parts (take (k + 1) own)) pairs =
    λ parts. ap (λ (l : List (ℕ × ℕ)). map (with_part_so_far parts l) pairs) more in
    elim c.match-binary_search.branch [
      | in-Ok+in_ok-add w ↦ (
          let i = w.in-Ok.place in
          let old = w.index_mut.result.now in
          let at : get_or pairs i q ≡ q = key_cmp-antisymmetric (get_or pairs i q) q (w.in-Ok.ensures.ok q) in
          let is = ap (λ (v : Vec SharedPair Global). v.items) w.shared-is in
          record {
            count = ap (λ (l : List ((ℕ × ℕ) × List ℕ)). length l) is
                ∙ length-set c.loop-pair.shared.items i w.add.new.self ∙ c.loop-pair.invariant.count;
            added = λ parts number before.
                let so_far = c.loop-pair.invariant.added parts number before in
                let read = w.index_mut.ensures.value
                ∙ ap (λ (l : List ((ℕ × ℕ) × List ℕ)). get_or l i old) so_far in
                is
                ∙ ap (λ (l : List ((ℕ × ℕ) × List ℕ)). set l i w.add.new.self) so_far
                ∙ with_part_so_far-more parts (take k own) pairs i q old w.add.new.self c.requires.sorted
                w.in-Ok.ensures.bound at
                (get_or-map (with_part_so_far parts (take k own)) pairs i q old w.in-Ok.ensures.bound at read)
                (w.in_ok-add.ensures
                ∙ ap (λ (n : ℕ). (old.0, push_unless_last n old.1)) (sym number))
                ∙ next parts;
          })
      | in_default w ↦ (
          let is = ap (λ (v : Vec SharedPair Global). v.items) w.shared-is in
          record {
            count = ap (λ (l : List ((ℕ × ℕ) × List ℕ)). length l) is ∙ c.loop-pair.invariant.count;
            added = λ parts number before.
                is ∙ c.loop-pair.invariant.added parts number before
                ∙ with_part_so_far-absent parts (take k own) pairs pairs w.in_default.field-0 q refl
                c.requires.sorted w.in_default.ensures.bound w.in_default.ensures.position
                ∙ next parts;
          })
    ]

-- At the end the LAN's pairs so far are all of them, which is the part that was to be added.
pub returns-clause-added : goal.returns-clause-added
returns-clause-added c = λ parts number before.
    let pairs = c.args.pairs.now in
    c.loop-pair.invariant.added parts number before
    ∙ ap (λ (l : List (ℕ × ℕ)). map (with_part_so_far parts l) pairs)
    (take_all c.loop-pair.pair-index c.args.own.now c.loop-pair-test.false)
    ∙ with_part_so_far-all parts c.args.own.now pairs
