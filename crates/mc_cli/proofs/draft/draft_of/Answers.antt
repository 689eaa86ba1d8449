use Rattle.std.proofs.Common.{None, Some, sym, ◌∙◌}
use Rattle.mc_cli.specs.AuditDraft.{given_of}
use Rattle.mc_cli.proofs.DraftLemmas.{Some-from_IsNextGiven, None-from_IsNextGiven, with_words-all}
use Rattle.mc_cli.proofs.DraftLemmas.{with_words-more, with_words-None}
use Rattle.mc_cli.proofs.draft.draft_of.Goals as goal

-- A word that isn't valid where it comes makes the whole invalid.
pub returns-then-not-branch : goal.returns-then-not-branch
returns-then-not-branch c =
    sym (with_words-None _)
    ∙ sym (with_words-more (λ word. word.now) c.args.words.now c.loop-word.word-index _
    (given_of c.loop-word.draft)
    None c.loop-word-test.true
    (None-from_IsNextGiven c.in_ok-add_word.field-0 _ (given_of c.add_word.new.self) c.if-not-branch.true
    c.in_ok-add_word.ensures))
    ∙ c.loop-word.invariant

-- What the next word adds to the draft is what it gives by the definition.
pub loop-word-preserved : goal.loop-word-preserved
loop-word-preserved c =
    sym (with_words-more (λ word. word.now) c.args.words.now c.loop-word.word-index _
    (given_of c.loop-word.draft)
    (Some (given_of c.add_word.new.self)) c.loop-word-test.true
    (Some-from_IsNextGiven c.in_ok-add_word.field-0 _ (given_of c.add_word.new.self) c.if-not-branch.false
    c.in_ok-add_word.ensures))
    ∙ c.loop-word.invariant

-- Behind the last word the draft has what all words give.
pub returns : goal.returns
returns c =
    sym (with_words-all (λ word. word.now) c.args.words.now c.loop-word.word-index
    (given_of c.loop-word.draft)
    c.loop-word-test.false)
    ∙ c.loop-word.invariant
