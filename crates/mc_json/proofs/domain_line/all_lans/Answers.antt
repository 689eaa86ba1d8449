use Rattle.std.proofs.Common.{◌∷◌, ◌++◌, ap, sym, ◌∙◌, []}
use Rattle.mc_theory.specs.Lists.{below}
use Rattle.mc_forward.proofs.BelowLemmas.{below-more}
use Rattle.mc_json.proofs.domain_line.all_lans.Goals as goal

-- No LAN is below 0, and the list is empty.
pub loop-number-init : goal.loop-number-init
unfolding below
loop-number-init c = c.new-lans.ensures.items

-- The next number is appended to those below it.
pub loop-number-preserved : goal.loop-number-preserved
loop-number-preserved c =
    let n = c.loop-number.number in
    c.in_ok-push.ensures.items ∙ ap (λ xs. xs ++ n ∷ []) c.loop-number.invariant
    ∙ sym (below-more n)
