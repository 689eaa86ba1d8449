use Rattle.std.proofs.lemmas.List.{length-map}
use Rattle.mc_run.specs.AuditPieces.{audited_value}
use Rattle.mc_run.proofs.AuditTextLemmas.{is_audited-all_pushed}
use Rattle.mc_run.proofs.audit.audit_all.Goals as goal

-- The text begins with the lines before the flows, each flow's lines were appended with its count, and the
-- verdict is yes exactly if no name is excluded and no flow was counted as wrong.
pub returns-clause-text : goal.returns-clause-text
returns-clause-text c =
    is_audited-all_pushed (audited_value c.args.audited.now) c.args.audited.now.options
    c.in_ok-flow_counts.flow_counts
    c.in_ok-flow_counts.ensures.appended.0 c.args.audited.now.excluded.now _ _ _ _ _ c.requires.valid.excluded
    (length-map c.args.audited.now.without.now (λ name. name.now)) c.in_ok-text.ensures
    c.in_ok-flow_counts.ensures.appended.1 c.is_yes-yes.ensures c.in_ok-push_end.ensures

-- The answers are those whose lines were appended; the number of unwanted ones was counted with them.
pub returns-clause-counts : goal.returns-clause-counts
returns-clause-counts c =
    let pushed = c.in_ok-flow_counts.ensures.appended.1 in
    record {
      answers = pushed.answers;
      are_answers = record { count = pushed.count_is; each = pushed.each };
      unwanted = pushed.unwanted;
      asked = c.in_ok-asked.ensures;
    }
