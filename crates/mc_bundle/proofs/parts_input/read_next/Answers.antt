-- First the first line or the rest of a part is taken, then the next line: the bounds of both add up.
use Rattle.std.proofs.Common.{◌+◌}
use Rattle.mc_bundle.proofs.PartsLimitLemmas.{consumes_within-after_consumes_up_to}
use Rattle.mc_bundle.proofs.parts_input.read_next.Goals.{then-start+in_ok-read_magic}
use Rattle.mc_bundle.proofs.parts_input.read_next.Goals.{else-start+in_ok-skip_rest}
use Rattle.mc_bundle.proofs.parts_input.read_next.Goals as goal

pub returns-clause-consumed : goal.returns-clause-consumed
returns-clause-consumed g c = elim c.if-start.branch [
  | then-start+in_ok-read_magic w ↦ rw w.if-start.true (consumes_within-after_consumes_up_to _ _ _ 17 _ _
      w.in_ok-read_magic.ensures.consumed
      (rw w.input-is at c.open_next.ensures.consumed))
  | else-start+in_ok-skip_rest w ↦ rw w.if-start.false
      (consumes_within-after_consumes_up_to _ _ _ (c.args.left + 1) _ _
      w.in_ok-skip_rest.ensures.consumed (rw w.input-is at c.open_next.ensures.consumed))
]
