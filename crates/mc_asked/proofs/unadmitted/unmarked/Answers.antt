use Rattle.std.proofs.Common.{◌≡◌, ℕ, Bool, true, false, Vec, Global, get_or, not, sym, ap, ◌∙◌}
use Rattle.std.proofs.Common.{append-nil}
use Rattle.std.proofs.lemmas.List.{get_or_default}
use Rattle.mc_asked.proofs.UnadmittedLemmas.{mark-at}
use Rattle.mc_asked.proofs.WantLemmas.{filter-take_more}
use Rattle.mc_asked.proofs.unadmitted.unmarked.Goals as goal
use Rattle.mc_asked.proofs.unadmitted.unmarked.Goals.{then-not-marks-place+in_ok-push, else-not-marks-place}

-- A pair's mark is the answer of the test, so that a pair without a mark is kept by the filter and a marked
-- one isn't.
pub loop-place-preserved : goal.loop-place-preserved
loop-place-preserved c = λ test are.
    let pairs = c.args.pairs.now in
    let marks = c.args.marks.now in
    let place = c.loop-place.place in
    let kept = c.loop-place.kept.items in
    let keeps : ℕ × ℕ → Bool = λ p. not (test p) in
    let so_far = c.loop-place.invariant test are in
    let within = c.loop-place-test.true in
    elim c.if-not-marks-place.branch [
      | then-not-marks-place+in_ok-push w ↦
          let x = w.index-pairs-place.result in
          let mark = mark-at test pairs marks place x c.requires.count are within w.index-pairs-place.is in
          ap (λ (v : Vec (ℕ × ℕ) Global). v.items) w.kept-is ∙ w.in_ok-push.ensures.items
          ∙ filter-take_more keeps pairs place x kept true within w.index-pairs-place.is
          (ap not (sym w.if-not-marks-place.true ∙ mark)) so_far
      | else-not-marks-place w ↦
          let x = get_or pairs place (0, 0) in
          let own : x ≡ get_or pairs place x = get_or_default pairs place (0, 0) x within in
          let mark = mark-at test pairs marks place x c.requires.count are within own in
          ap (λ (v : Vec (ℕ × ℕ) Global). v.items) w.kept-is
          ∙ sym (append-nil kept)
          ∙ filter-take_more keeps pairs place x kept false within own
          (ap not (sym w.if-not-marks-place.false ∙ mark)) so_far
    ]
