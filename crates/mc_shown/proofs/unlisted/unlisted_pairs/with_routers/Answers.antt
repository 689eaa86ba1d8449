-- Before the first router no pair has one.
use Rattle.mc_theory.specs.Lists.{below}
use Rattle.mc_shown.proofs.unlisted.unlisted_pairs.with_routers.Goals as goal

pub loop-number-init : goal.loop-number-init
unfolding below
loop-number-init c = c.in_ok-shown.ensures
