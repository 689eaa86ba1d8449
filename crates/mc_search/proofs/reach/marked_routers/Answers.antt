-- A router is taken exactly if it has a mark.
use Rattle.std.proofs.Common.{◌≡◌, ℕ, ◌<◌, ◌++◌, ◌∷◌, [], Vec, Global, length, get_or, true, false}
use Rattle.std.proofs.Common.{sym, ap, subst, ◌∙◌}
use Rattle.mc_topology.specs.declared.number.RouterNo.{RouterNo}
use Rattle.mc_search.proofs.ReachLemmas.{filter-take_more}
use Rattle.mc_search.proofs.reach.marked_routers.Goals as goal
use Rattle.mc_search.proofs.reach.marked_routers.Goals.{then-marks-router+in_ok-push}
use Rattle.mc_search.proofs.reach.marked_routers.Goals.{else-marks-router}

pub loop-router-preserved : goal.loop-router-preserved
loop-router-preserved c = λ p marked_routers.
    let routers = c.args.routers.now in
    let marks = c.args.marks.now in
    let i = c.loop-router.router-index in
    let r = c.router-item.result in
    let lt : r < length marks =
    subst (λ (x : ℕ). x < length marks) (sym c.router-item.is) (c.requires.within i r c.loop-router-test.true)
    in
    let test : get_or marks c.router.inside.0 false ≡ p r =
    ap (λ (n : ℕ). get_or marks n false) c.router.view_is ∙ marked_routers r lt in
    elim c.if-marks-router.branch [
      | then-marks-router+in_ok-push w ↦ filter-take_more p routers i r c.loop-router.found.items
          c.if-marks-router.found.items true c.loop-router-test.true c.router-item.is
          (sym test ∙ w.if-marks-router.true) (c.loop-router.invariant p marked_routers)
          (ap (λ (v : Vec RouterNo Global). v.items) w.found-is ∙ w.in_ok-push.ensures.items
          ∙ ap (λ (x : ℕ). c.loop-router.found.items ++ x ∷ []) c.router.view_is)
      | else-marks-router w ↦ filter-take_more p routers i r c.loop-router.found.items
          c.if-marks-router.found.items false c.loop-router-test.true c.router-item.is
          (sym test ∙ w.if-marks-router.false) (c.loop-router.invariant p marked_routers)
          (ap (λ (v : Vec RouterNo Global). v.items) w.found-is)
    ]
