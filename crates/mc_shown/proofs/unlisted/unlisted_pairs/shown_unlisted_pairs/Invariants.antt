use Rattle.std.proofs.Common.{◌≡◌, flat_map, take}
use Rattle.mc_tables.specs.Summary.{SummaryValue}
use Rattle.mc_shown.proofs.unlisted.unlisted_pairs.shown_unlisted_pairs.Given as goal

-- the list has the pairs of the summaries so far
abbrev pub invariant-loop-own : goal.invariant-loop-own
invariant-loop-own l =
    l.pairs.items ≡ flat_map (λ (own : SummaryValue). own.lowest) (take l.own-index l.fn.summary)
