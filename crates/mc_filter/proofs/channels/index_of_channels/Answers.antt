use Rattle.std.proofs.lemmas.Result.{IfOk-weaker}
use Rattle.mc_text.specs.Pair.{pair_number}
use Rattle.mc_filter.proofs.ChannelLemmas.{contains-map, numbers-of_made}
use Rattle.mc_filter.proofs.channels.index_of_channels.Goals as goal

-- The index was made of one number for each channel, so that it has the number of each.
pub returns-clause-each : goal.returns-clause-each
returns-clause-each c = IfOk-weaker c.of.result _ _ (λ channels same.
    contains-map pair_number c.args.asked.now c.in_ok-numbers.numbers.items channels
    c.in_ok-numbers.ensures.numbers same) c.of.ensures

-- The index was made of these numbers alone, and a number stands for one pair, which is a channel.
pub returns-clause-only : goal.returns-clause-only
returns-clause-only c = IfOk-weaker c.of.result _ _ (λ channels same.
    numbers-of_made c.args.asked.now c.in_ok-numbers.numbers.items channels c.in_ok-numbers.ensures.pairs
    same) c.of.ensures
