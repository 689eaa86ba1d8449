use Rattle.std.proofs.Common.{◌≡◌, map, drop, Some}
use Rattle.mc_cli.specs.AuditDraft.{given_of}
use Rattle.mc_cli.specs.GivenWords.{nothing_given, with_words}
use Rattle.mc_cli.proofs.draft.draft_of.Given as goal

-- What the draft has, with the words to come, is what all words give.
abbrev pub invariant-loop-word : goal.invariant-loop-word
invariant-loop-word l =
    with_words (Some (given_of l.draft)) (map (λ word. word.now) (drop l.word-index l.words))
    ≡ with_words (Some nothing_given) (map (λ word. word.now) l.words)
