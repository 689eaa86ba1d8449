use Rattle.std.proofs.Common.{◌≡◌, ℕ, List, map, take}
use Rattle.mc_asked.specs.ListWants.{Want}
use Rattle.mc_asked.proofs.want_states.keys_of.Given as goal

-- The keys are the wants so far.
abbrev pub invariant-loop-want : goal.invariant-loop-want
invariant-loop-want l = l.keys.items ≡ map (λ (w : Want × List ℕ). w.0) (take l.want-index l.fn.wants)
