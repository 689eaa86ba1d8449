use Rattle.std.proofs.Common.{◌≡◌, map, take}
use Rattle.std.specs.List.{All}
use Rattle.mc_text.specs.GroupRange.{IsGroupRange, range_text}
use Rattle.mc_cli.proofs.audit_words.ranges_of.Given as goal

-- The words so far are the texts of the ranges, which are valid.
abbrev pub invariant-loop-word : goal.invariant-loop-word
invariant-loop-word l =
    (map (λ word. word.now) (take l.word-index l.words) ≡ map range_text l.ranges.items)
    × All IsGroupRange l.ranges.items
