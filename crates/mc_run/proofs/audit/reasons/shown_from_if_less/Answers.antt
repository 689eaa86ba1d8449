use Rattle.mc_run.specs.AuditPieces.{audited_value}
use Rattle.mc_run.proofs.ExplanationLemmas.{is_shown_from-greatest, is_shown_from-less}
use Rattle.mc_run.proofs.audit.reasons.shown_from_if_less.Goals as goal

-- The flow's own TTL is 255, where none is given.
pub returns-then-ttl : goal.returns-then-ttl
returns-then-ttl c = record {
  shown = is_shown_from-greatest (audited_value c.args.audited.now).domain c.args.flow c.ttl-ttl.result
      c.new-view.result c.args.ended.now c.new-view.ensures.flow c.ttl-ttl.ensures c.if-ttl.true;
}

-- It is less than 255, and the TTL that was found is the one from which on packets show the finding.
pub returns : goal.returns
returns c = record {
  shown = is_shown_from-less (audited_value c.args.audited.now).domain c.args.flow c.ttl-ttl.result
      c.new-view.result c.args.ended.now c.shown_from.result c.new-view.ensures.flow c.ttl-ttl.ensures
      c.if-ttl.false c.shown_from.ensures.shown;
}
