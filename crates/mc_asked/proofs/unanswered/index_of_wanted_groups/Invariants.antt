use Rattle.std.proofs.Common.{◌≡◌, ◌++◌, drop}
use Rattle.mc_asked.proofs.IndexLemmas.{groups_of_wanted}
use Rattle.mc_asked.proofs.unanswered.index_of_wanted_groups.Given as goal

-- The numbers so far, and the groups of the wanted flows to come, are the groups of all wanted flows.
abbrev pub invariant-loop-flow : goal.invariant-loop-flow
invariant-loop-flow l =
    l.numbers.items ++ groups_of_wanted (drop l.flow l.fn.flows) (drop l.flow l.fn.wanted)
    ≡ groups_of_wanted l.fn.flows l.fn.wanted
