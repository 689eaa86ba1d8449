use Rattle.mc_forward.specs.Domains.{net_of}
use Rattle.mc_run.proofs.FlowPushedLemmas.{headline_holds-verdict_yes, verdict_yes-accepted_list}
use Rattle.mc_run.proofs.audit.audit_right.push_checked.Goals as goal

-- The checker says yes to a list that is accepted, with one copy for each entry.
pub push_with_verdict-requires-clause-accepted : goal.push_with_verdict-requires-clause-accepted
push_with_verdict-requires-clause-accepted c =
    verdict_yes-accepted_list (net_of c.args.audited.now.domain.now c.args.flow) c.args.entries.now
    c.check_flow-answer.result c.check_flow-answer.ensures.accepted c.check_flow-answer.ensures.copies
    c.requires.accepted

-- An answer comes only after the checker's yes, and each yes of the checker carries the headline.
pub returns-clause-headline : goal.returns-clause-headline
returns-clause-headline c =
    headline_holds-verdict_yes (net_of c.args.audited.now.domain.now c.args.flow) c.args.entries.now
    c.check_flow-answer.result c.push_with_verdict.result c.check_flow-answer.ensures.headline
    c.push_with_verdict.ensures.answered
