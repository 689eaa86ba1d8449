use Rattle.std.proofs.Common.{Bool, List, subst, sym}
use Rattle.mc_forward.specs.Assembling.{AreChannelsWanted}
use Rattle.mc_forward.proofs.WantsLemmas.{are_wanted-from_channels}
use Rattle.mc_input.proofs.walk.take_reports.Goals as goal

-- The channels are the topology's flows, so that the answers for the channels are answers for the
-- flows.
pub returns-clause-wanted : goal.returns-clause-wanted
returns-clause-wanted g c =
    let list = c.args.reports.now in
    let answers = subst (λ (answers : List Bool). AreChannelsWanted c.args.channels.now list answers)
    (sym c.of.ensures) c.in_ok-wants.ensures.wanted in
    are_wanted-from_channels c.args.topology.now.flows list c.args.channels.now c.of.result
    c.requires.channels answers
