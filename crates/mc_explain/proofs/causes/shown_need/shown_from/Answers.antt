-- The theory shows of the need that is worked out for each finding that it is the TTL from which on packets
-- show the finding.
use Rattle.mc_explain.proofs.ShownNeedLemmas.{is_need_up_to-view, is_shown_from-view}
use Rattle.mc_explain.proofs.causes.shown_need.shown_from.Goals as goal

-- The packet that shows the finding was sent with TTL 255, so no more is needed.
pub need_of_finding-requires-clause-bounded : goal.need_of_finding-requires-clause-bounded
need_of_finding-requires-clause-bounded c =
    (is_need_up_to-view c.args.domain.now c.args.flow c.new-view.result c.args.ended.now
    c.new-view.ensures.flow c.new-view.ensures.rules c.requires.ended).bounded

pub returns : goal.returns
returns c = record {
  shown = is_shown_from-view c.args.domain.now c.args.flow c.new-view.result c.args.ended.now
      c.need_of_finding.result c.new-view.ensures.flow c.new-view.ensures.rules c.requires.ended
      c.need_of_finding.ensures;
}
