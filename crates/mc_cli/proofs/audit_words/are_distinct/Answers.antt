use Rattle.std.proofs.Common.{map, sym, ◌∙◌}
use Rattle.std.proofs.lemmas.List.{at_drop_all}
use Rattle.mc_cli.specs.AuditWords.{are_distinct}
use Rattle.mc_cli.proofs.AuditLemmas.{are_distinct-repeated, are_distinct-more}
use Rattle.mc_cli.proofs.audit_words.are_distinct.Goals as goal

-- A word that is repeated behind it is there twice.
pub returns-then-is_among : goal.returns-then-is_among
returns-then-is_among c =
    sym (are_distinct-repeated (λ word. word.now) c.args.words.now c.split_at.result.1.now c.loop-at.at _
    c.loop-at-test.true c.split_at.ensures.back (sym c.is_among.ensures ∙ c.if-is_among.true))
    ∙ c.loop-at.invariant

-- A word that isn't repeated behind it leaves the answer to the words behind.
pub loop-at-preserved : goal.loop-at-preserved
loop-at-preserved c =
    sym (are_distinct-more (λ word. word.now) c.args.words.now c.split_at.result.1.now c.loop-at.at _
    c.loop-at-test.true c.split_at.ensures.back (sym c.is_among.ensures ∙ c.if-is_among.false))
    ∙ c.loop-at.invariant

-- Behind the last word nothing is repeated.
pub returns : goal.returns
returns c =
    sym (at_drop_all (λ rest. are_distinct (map (λ word. word.now) rest)) c.args.words.now c.loop-at.at
    c.loop-at-test.false)
    ∙ c.loop-at.invariant
