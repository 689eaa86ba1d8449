use Rattle.std.proofs.Common.{◌≡◌, map, take}
use Rattle.mc_asked.specs.WantStates.{StatedWantValue}
use Rattle.mc_asked.proofs.want_states.WantStates.states.Given as goal

-- The states are those of the wants so far.
abbrev pub invariant-loop-want : goal.invariant-loop-want
invariant-loop-want l =
    l.states.items ≡ map (λ (w : StatedWantValue). w.state) (take l.want-index l.want-items)
