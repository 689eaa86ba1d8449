use Rattle.std.proofs.Common.{ℕ, ◌∷◌, ◌++◌, ap, map, sym, ◌∙◌, []}
use Rattle.std.proofs.lemmas.List.{map-append}
use Rattle.mc_topology.specs.Topology.{router_name}
use Rattle.mc_theory.specs.Lists.{below}
use Rattle.mc_forward.proofs.BelowLemmas.{below-more}
use Rattle.mc_run.specs.AuditBegin.{is_among}
use Rattle.mc_run.proofs.excluded.excluded_marks.Goals as goal

-- No router is below 0, and no mark was made.
pub loop-number-init : goal.loop-number-init
unfolding below
loop-number-init c = c.new-marks.ensures.items

-- The mark of the next router is appended to those below it.
pub loop-number-preserved : goal.loop-number-preserved
loop-number-preserved c =
    let n = c.loop-number.number in
    let names = map (λ name. name.now) c.args.without.now in
    let marked = λ (r : ℕ). is_among names (router_name c.args.topology.now r) in
    c.in_ok-push.ensures.items ∙ ap (λ xs. xs ++ c.has_excluded_name.result ∷ []) c.loop-number.invariant
    ∙ ap (λ b. map marked (below n) ++ b ∷ []) c.has_excluded_name.ensures.value
    ∙ sym (map-append marked (below n) (n ∷ [])) ∙ ap (map marked) (sym (below-more n))
