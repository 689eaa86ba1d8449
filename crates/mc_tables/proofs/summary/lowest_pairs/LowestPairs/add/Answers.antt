use Rattle.std.proofs.Common.{ℕ, ◌≡◌, ◌<◌, ◌≤◌, take, length, get_or, List, sym, ap, subst, ◌∙◌, arith}
use Rattle.std.proofs.Common.{length-take}
use Rattle.std.specs.Prelude.{◌≢◌}
use Rattle.std.specs.List.Sorted.{IsStrictlySortedBy}
use Rattle.std.specs.declared.cmp.Ordering.TheVariants.{Less, Equal}
use Rattle.std.proofs.lemmas.List.{take_all}
use Rattle.mc_tables.specs.CacheTable.{key_cmp}
use Rattle.mc_tables.specs.SummarySoFar.{put_pair}
use Rattle.mc_tables.proofs.LowestLemmas.{take_put_pair-ascends, put_pair-at_search_place, put_pair-member}
use Rattle.mc_tables.proofs.LowestLemmas.{take_put_pair-above, key_cmp-not_less}
use Rattle.mc_tables.proofs.summary.lowest_pairs.LowestPairs.add.Goals as goal

-- The list is full, and the pair isn't below its last: put in its place, it would be cut off.
pub returns-then-le : goal.returns-then-le
returns-then-le c =
    let ps : List (ℕ × ℕ) = c.self.inside.pairs.items in
    let pair : ℕ × ℕ = c.args.pair in
    let size : length ps ≡ 20 = omega arith in
    let last : ℕ × ℕ = c.index.result.now in
    let above : key_cmp pair (get_or ps 19 last) ≢ Less =
    subst (λ (x : ℕ × ℕ). key_cmp pair x ≢ Less) c.index.ensures
    (key_cmp-not_less last pair c.if-le.ensures) in
    subst (λ (l : List (ℕ × ℕ)). l ≡ take 20 (put_pair pair l)) c.self.view_is
    (sym (take_all 20 ps (omega arith))
    ∙ sym (take_put_pair-above pair last ps 19 c.self.invariant.0 (omega arith) above))

-- The search gives the place at which the list with the pair ascends, and it is cut to 20 again.
pub invariant_of-self-in-Err : goal.invariant_of-self-in-Err
invariant_of-self-in-Err c =
    let ps : List (ℕ × ℕ) = c.self.inside.pairs.items in
    let pair : ℕ × ℕ = c.args.pair in
    let put = put_pair-at_search_place pair ps c.deref.result.now c.in-Err.place c.deref.ensures.value
    c.self.invariant.0 c.in-Err.ensures.bound c.in-Err.ensures.position in
    let is : c.truncate.new.self.items ≡ take 20 (put_pair pair ps) =
    c.truncate.ensures.items ∙ ap (take 20) (c.in_ok-insert.ensures.items ∙ sym put) in
    subst (λ (l : List (ℕ × ℕ)). IsStrictlySortedBy key_cmp l × (length l ≤ 20)) (sym is) (
      take_put_pair-ascends pair ps c.self.invariant.0,
      omega (arith, length-take 20 (put_pair pair ps)),
    )

-- The pair is inserted where the search says, which is where `put_pair` puts it.
pub returns-in_ok-insert : goal.returns-in_ok-insert
returns-in_ok-insert c =
    let ps : List (ℕ × ℕ) = c.self.inside.pairs.items in
    let pair : ℕ × ℕ = c.args.pair in
    let put = put_pair-at_search_place pair ps c.deref.result.now c.in-Err.place c.deref.ensures.value
    c.self.invariant.0 c.in-Err.ensures.bound c.in-Err.ensures.position in
    c.truncate.ensures.items ∙ ap (take 20) (c.in_ok-insert.ensures.items ∙ sym put)
    ∙ ap (λ (l : List (ℕ × ℕ)). take 20 (put_pair pair l)) c.self.view_is

-- The pair is there already, so that putting it in changes nothing.
pub returns-in_default : goal.returns-in_default
returns-in_default c =
    let ps : List (ℕ × ℕ) = c.self.inside.pairs.items in
    let pair : ℕ × ℕ = c.args.pair in
    let i = c.in_default.field-0 in
    let at : c.deref.result.now ≡ ps = c.deref.ensures.value in
    let here = subst (λ (l : List (ℕ × ℕ)). key_cmp (get_or l i pair) pair ≡ Equal) at
    (c.in_default.ensures.position pair) in
    let within : i < length ps =
    subst (λ (l : List (ℕ × ℕ)). i < length l) at c.in_default.ensures.bound in
    subst (λ (l : List (ℕ × ℕ)). l ≡ take 20 (put_pair pair l)) c.self.view_is
    (sym (take_all 20 ps c.self.invariant.1)
    ∙ ap (take 20) (sym (put_pair-member pair pair ps i c.self.invariant.0 within here)))
