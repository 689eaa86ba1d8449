use Rattle.std.proofs.Common.{ℕ, List, sym, subst, ◌∙◌}
use Rattle.std.specs.List.{All}
use Rattle.std.proofs.lemmas.List.Elements.{All-push}
use Rattle.mc_text.specs.GroupRange.{IsGroupRange}
use Rattle.mc_cli.proofs.AuditLemmas.{range-within, text-of_range, texts-one_more}
use Rattle.mc_cli.proofs.audit_words.ranges_of.Goals as goal

-- A word that writes a valid range is parsed as it, so that this word writes none.
pub returns-in_default-clause-only : goal.returns-in_default-clause-only
returns-in_default-clause-only c = λ given written valid.
    let words = c.args.words.now in
    let at = c.loop-word.word-index in
    let text = text-of_range (λ word. word.now) words given at _ written c.loop-word-test.true in
    let within = range-within (λ word. word.now) words given at written c.loop-word-test.true in
    let found = c.parse.ensures.only _ (valid at (0, 0) within) (c.as_bytes.ensures.value ∙ text) in
    absurd (c.in_default.not-Some _ found)

-- The range that was pushed is valid, and the next word is its text.
pub loop-word-preserved : goal.loop-word-preserved
loop-word-preserved c =
    let ranges = c.loop-word.ranges.items in (
      texts-one_more (λ word. word.now) c.args.words.now ranges c.push.new.self.items c.in-Some.range
          c.loop-word.word-index _ c.loop-word.invariant.0 c.loop-word-test.true
          (sym c.as_bytes.ensures.value ∙ c.in-Some.ensures.found) c.in_ok-push.ensures.items,
      subst (λ (l : List (ℕ × ℕ)). All IsGroupRange l) (sym c.in_ok-push.ensures.items)
          (All-push IsGroupRange ranges c.in-Some.range c.loop-word.invariant.1 c.in-Some.ensures.valid),
    )
