use Rattle.std.proofs.Common.{◌≡◌, ℕ, ◌∙◌, ◌++◌, [], ◌∷◌, List, ap, append-nil, arith, length, map}
use Rattle.std.proofs.Common.{refl, subst, sym}
use Rattle.std.specs.List.Sorted.{IsStrictlySortedBy}
use Rattle.std.specs.Vec.Iter.{into_iter_items}
use Rattle.std.proofs.lemmas.Simd.{map-map}
use Rattle.mc_tables.specs.CacheTable.{key_cmp}
use Rattle.mc_asked.specs.ListWants.{Want}
use Rattle.mc_asked.specs.WantSources.{WantSourcesValue, as_asked}
use Rattle.mc_asked.proofs.LanByLanLemmas.{asked-after_last}
use Rattle.mc_asked.proofs.unadmitted_sources.UnadmittedSources.into_wants.Goals as goal
use Rattle.mc_asked.proofs.unadmitted_sources.UnadmittedSources.into_wants.Goals.{After-drop-self-inside-2}

-- A list of no length is empty.
nothing_left : {X : Type 0} (l : List X) → length l ≡ 0 → l ≡ []
nothing_left [] h = refl
nothing_left (x ∷ xs) h = absurd (omega (arith, h))

-- The loop ends when the iterator has nothing left, so that each entry has become a want with its sources.
wants : (c : After-drop-self-inside-2) → c.loop-own.wants.items ≡ map as_asked c.args.self
wants c =
    let at = c.loop-own in
    let empty : into_iter_items at.own-iterator ≡ [] =
    nothing_left (into_iter_items at.own-iterator) (sym at.invariant.count ∙ c.in-None.ensures.steps.0) in
    let all : at.yielded ≡ c.self.inside.sources.items =
    sym (append-nil at.yielded) ∙ ap (λ l. at.yielded ++ l) (sym empty) ∙ at.invariant.yielded
    ∙ c.into_iter-own-iterator.ensures.into_iter_gives.0 in
    at.invariant.wants ∙ ap (map as_asked) (all ∙ c.self.view_is)

-- With the lists of all LANs taken, an entry has the sources that no LAN's filter admits.
pub returns-clause-asked : goal.returns-clause-asked
returns-clause-asked c = λ all a lists lines are so_far.
    wants c ∙ asked-after_last all a lists lines c.args.self are so_far

-- The wants are the keys, which ascend by the invariant.
pub returns-clause-sorted : goal.returns-clause-sorted
returns-clause-sorted c =
    let keys = ap (map (λ (w : Want × List ℕ). w.0)) (wants c)
    ∙ map-map (λ (w : Want × List ℕ). w.0) as_asked c.args.self
    ∙ sym (ap (map (λ (s : WantSourcesValue). s.want)) c.self.view_is) ∙ sym c.self.invariant.0 in
    subst (IsStrictlySortedBy key_cmp) (sym keys) c.self.invariant.1
