use Rattle.std.proofs.Common.{OnOk, subst, sym}
use Rattle.mc_igmp.specs.declared.record.Kind.{Kind}
use Rattle.mc_asked.specs.ListWants.{asked_by_kind}
use Rattle.mc_asked.specs.TakenPairs.{TakesUnanswered}
use Rattle.mc_asked.proofs.unanswered.push_unanswered.Goals as goal

-- An INCLUDE record asks for its sources.
pub returns-in-Include : goal.returns-in-Include
returns-in-Include c =
    subst (λ (kind : Kind). OnOk c.push_included.result (TakesUnanswered c.args.answers.now
    c.args.wanted_groups.now c.args.unanswered.now c.push_included.new.unanswered
    (asked_by_kind kind c.args.group_record.now.group c.args.group_record.now.sources)))
    (sym c.in-Include.is) c.push_included.ensures
