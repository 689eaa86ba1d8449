use Rattle.std.proofs.Common.{◌≡◌, [], map}
use Rattle.mc_theory.specs.Lists.{below}
use Rattle.mc_search.proofs.interfaces_of_lans.empty_lists.Given as goal

-- there are as many empty lists as steps so far
abbrev pub invariant-loop : goal.invariant-loop
invariant-loop g l = l.lists.items ≡ map (λ _. []) (below l.counter)
