use Rattle.std.proofs.Common.{◌≡◌, ℕ, ◌-◌, ◌<◌, ◌==◌, ◌∷◌, [], ◌++◌, drop, length, map, take, arith, ap}
use Rattle.std.proofs.Common.{sym, ◌∙◌}
use Rattle.std.proofs.lemmas.List.{map-append}
use Rattle.mc_asked.proofs.GroupRunLemmas.{filter-run, take_run-more}
use Rattle.mc_asked.proofs.group_run.seconds_of.Goals as goal

-- Before the first place of the run there is nothing.
pub loop-place-init : goal.loop-place-init
loop-place-init c =
    let a = c.run_of_group-start.result.0 in
    let none : 0 ≡ a - a = omega arith in
    c.new-seconds.ensures.items ∙ ap (λ n. map (λ (p : ℕ × ℕ). p.1) (take n (drop a c.args.pairs.now))) none

-- The pair at this place is the next of the run.
pub loop-place-preserved : goal.loop-place-preserved
loop-place-preserved c =
    let pairs = c.args.pairs.now in
    let a = c.run_of_group-start.result.0 in
    let k = c.loop-place.place in
    let x = c.index-pairs-place.result in
    let within : k < length pairs =
    omega (arith, c.loop-place-test.true, c.run_of_group-start.ensures.within) in
    let pushed : c.push.new.self.items ≡ c.loop-place.seconds.items ++ x.1 ∷ [] =
    c.in_ok-push.ensures.items
    ∙ ap (λ (p : ℕ × ℕ). c.loop-place.seconds.items ++ p.1 ∷ []) (sym c.index-pairs-place.is) in
    pushed
    ∙ ap (λ l. l ++ x.1 ∷ []) c.loop-place.invariant
    ∙ sym (map-append (λ (p : ℕ × ℕ). p.1) (take (k - a) (drop a pairs)) (x ∷ []))
    ∙ ap (map (λ (p : ℕ × ℕ). p.1)) (take_run-more pairs a k x c.loop-place.auto.place within
    c.index-pairs-place.is)

-- At the end the run is whole, and no pair outside it has the group.
pub returns : goal.returns
returns c =
    let pairs = c.args.pairs.now in
    let group = c.args.group in
    let run = c.run_of_group-start.result in
    let is = c.run_of_group-start.ensures in
    let end : c.loop-place.place ≡ run.1 =
    omega (arith, c.loop-place-test.false, c.loop-place.auto.place-end is.ordered) in
    c.loop-place.invariant
    ∙ ap (λ n. map (λ (p : ℕ × ℕ). p.1) (take (n - run.0) (drop run.0 pairs))) end
    ∙ ap (map (λ (p : ℕ × ℕ). p.1)) (sym
    (filter-run (λ (p : ℕ × ℕ). p.0 == group) pairs run.0 run.1 is.ordered
    is.within is.before is.inside is.behind))
