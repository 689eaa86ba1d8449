use Rattle.std.proofs.Common.{◌∙◌, arith}
use Rattle.mc_check.proofs.FedLemmas.{feeds_from-member}
use Rattle.mc_check.proofs.routers.pairs_reason.Goals as goal

-- A live oif of the row feeds by its vif.
pub pair_reason-requires-clause-feeds : goal.pair_reason-requires-clause-feeds
pair_reason-requires-clause-feeds c = λ live.
    c.requires.row _ ∙ feeds_from-member c.args.base.now c.args.oifs.now c.loop-oif.oif-index _
    (omega (arith, c.loop-oif-test.true)) live
