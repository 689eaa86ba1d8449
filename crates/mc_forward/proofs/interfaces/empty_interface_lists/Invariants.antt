use Rattle.std.proofs.Common.{◌≡◌, List, [], map}
use Rattle.mc_theory.specs.Lists.{below}
use Rattle.mc_theory.specs.Nets.{Interface}
use Rattle.mc_forward.proofs.interfaces.empty_interface_lists.Given as goal

-- There are as many lists as turns, all of them empty.
abbrev pub invariant-loop : goal.invariant-loop
invariant-loop l = l.lists.items ≡ map {B = List Interface} (λ lan. []) (below l.counter)
