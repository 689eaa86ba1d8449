use Rattle.std.proofs.Common.{map, sym, ◌∙◌}
use Rattle.std.proofs.lemmas.List.{at_drop_all}
use Rattle.mc_cli.specs.AuditWords.{are_distinct_router_names}
use Rattle.mc_cli.proofs.AuditLemmas.{are_distinct_router_names-not_a_name}
use Rattle.mc_cli.proofs.AuditLemmas.{are_distinct_router_names-repeated, are_distinct_router_names-more}
use Rattle.mc_cli.proofs.audit_words.broken_rule.Goals as goal

-- A word that is no name breaks the rule of names.
pub returns-then-not-is_name : goal.returns-then-not-is_name
returns-then-not-is_name c =
    sym (are_distinct_router_names-not_a_name
    (λ word. word.now) c.args.words.now c.loop-at.at _ c.loop-at-test.true
    (sym c.is_name.ensures ∙ c.if-not-is_name.true))
    ∙ c.loop-at.invariant

-- A word that is repeated behind it breaks the rule that each is there once.
pub returns-then-is_among : goal.returns-then-is_among
returns-then-is_among c =
    sym (are_distinct_router_names-repeated
    (λ word. word.now) c.args.words.now c.split_at.result.1.now c.loop-at.at _
    c.loop-at-test.true (sym c.is_name.ensures ∙ c.if-not-is_name.false) c.split_at.ensures.back
    (sym c.is_among.ensures ∙ c.if-is_among.true))
    ∙ c.loop-at.invariant

-- A name that isn't repeated behind it leaves the answer to the words behind.
pub loop-at-preserved : goal.loop-at-preserved
loop-at-preserved c =
    sym (are_distinct_router_names-more
    (λ word. word.now) c.args.words.now c.split_at.result.1.now c.loop-at.at _
    c.loop-at-test.true (sym c.is_name.ensures ∙ c.if-not-is_name.false) c.split_at.ensures.back
    (sym c.is_among.ensures ∙ c.if-is_among.false))
    ∙ c.loop-at.invariant

-- Behind the last word no rule is broken.
pub returns : goal.returns
unfolding are_distinct_router_names
returns c =
    sym (at_drop_all (λ rest. are_distinct_router_names (map (λ word. word.now) rest)) c.args.words.now
    c.loop-at.at c.loop-at-test.false)
    ∙ c.loop-at.invariant
