use Rattle.std.proofs.Common.{ℕ, Bool, cond, [], ◌∷◌, not, refl, subst}
use Rattle.mc_asked.specs.Answers.{is_answered}
use Rattle.mc_asked.specs.TakenPairs.{TakesPairs}
use Rattle.mc_asked.proofs.TakenPairLemmas.{takes_pairs-known_if, takes_pairs-pushed}
use Rattle.mc_asked.proofs.unanswered.push_unless_answered.Goals as goal
use Rattle.mc_asked.proofs.unanswered.push_unless_answered.Goals.{else-not-is_recent-via-then-not-is_recent+else-is_unanswered}
use Rattle.mc_asked.proofs.unanswered.push_unless_answered.Goals.{else-not-is_recent-via-else-not-is_recent}

-- The number of a want that no flow answers brings that want.
pub returns-in_ok-push : goal.returns-in_ok-push
returns-in_ok-push c = λ records index.
    let old = c.args.unanswered.now in
    let new = c.push.new.self in
    subst (λ (taken : Bool). TakesPairs old new (cond taken (c.args.want.now ∷ []) []))
    (c.if-is_unanswered.ensures records index)
    (subst (λ (want : ℕ × ℕ). TakesPairs old new (want ∷ [])) c.pair_number-number.ensures.pair
    (takes_pairs-pushed old new c.pair_number-number.result c.in_ok-push.ensures))

-- A want that a flow answers isn't taken, and one whose number is remembered is among them already.
pub returns-else-not-is_recent : goal.returns-else-not-is_recent
returns-else-not-is_recent c =
    let old = c.args.unanswered.now in
    elim c.else-not-is_recent.branch [
      | else-not-is_recent-via-then-not-is_recent+else-is_unanswered w ↦ λ records index.
          subst (λ (taken : Bool). TakesPairs old old (cond taken (c.args.want.now ∷ []) []))
          (w.if-is_unanswered.ensures records index) (λ others. refl)
      | else-not-is_recent-via-else-not-is_recent w ↦ λ records index.
          let taken = not (is_answered c.args.answers.now records c.args.want.now) in
          subst (λ (want : ℕ × ℕ). TakesPairs old old (cond taken (want ∷ []) []))
          c.pair_number-number.ensures.pair
          (takes_pairs-known_if old c.pair_number-number.result taken
          (c.is_recent.ensures w.if-not-is_recent.false))
    ]
