use Rattle.std.proofs.Common.{◌≡◌, map, drop}
use Rattle.mc_cli.specs.AuditWords.{are_distinct_router_names}
use Rattle.mc_cli.proofs.audit_words.broken_rule.Given as goal

-- No word so far breaks a rule, so that the answer is that of the words to come.
abbrev pub invariant-loop-at : goal.invariant-loop-at
invariant-loop-at l =
    are_distinct_router_names (map (λ word. word.now) (drop l.at l.words))
    ≡ are_distinct_router_names (map (λ word. word.now) l.words)
