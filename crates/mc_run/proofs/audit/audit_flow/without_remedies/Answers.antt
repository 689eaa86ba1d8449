use Rattle.std.proofs.Common.{rules}
use Rattle.std.proofs.lemmas.Fn.{filter_same}
use Rattle.mc_run.proofs.ExplanationLemmas.{without_remedies-filtered}
use Rattle.mc_run.proofs.audit.audit_flow.without_remedies.Goals as goal

-- `retain` keeps exactly the causes that are no remedies, in order, which is what the definition leaves where
-- a router is excluded.
pub returns-then-not-whole : goal.returns-then-not-whole
returns-then-not-whole c =
    without_remedies-filtered c.args.whole c.args.causes.items c.retain.new.self.items c.if-not-whole.true
    (filter_same _ _ _ (λ x b f' k. search rules) _ _ c.retain.ensures.filtered)
