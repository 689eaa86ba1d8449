use Rattle.mc_run.proofs.FlowPushedLemmas.{is_first_pick_travel-of_examined}
use Rattle.mc_commands.proofs.MadeSoFarLemmas.{is_examined-of_examination}
use Rattle.mc_run.proofs.audit.audit_flow.push_flow.Goals as goal

-- The examination promises each fact of its result apart. Together they are `IsExamined`, where the travel is
-- the one whose flights were kept.
pub push_examined-requires-clause-examined : goal.push_examined-requires-clause-examined
push_examined-requires-clause-examined c =
    let examined = c.in_ok-flights.ensures in
    is_examined-of_examination examined.accepted examined.ascending examined.listed
    examined.writable examined.made
    (is_first_pick_travel-of_examined c.args.audited.now.domain.now c.args.flow
    c.in_ok-flights.flights examined.flights)
    examined.fault examined.ttl examined.right
