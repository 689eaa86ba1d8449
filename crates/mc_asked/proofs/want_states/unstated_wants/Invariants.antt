use Rattle.std.proofs.Common.{◌≡◌, map, take}
use Rattle.mc_asked.specs.WantStates.{unstated}
use Rattle.mc_asked.proofs.want_states.unstated_wants.Given as goal

-- The wants so far are there, each without a row.
abbrev pub invariant-loop-want : goal.invariant-loop-want
invariant-loop-want l = l.stated.items ≡ map unstated (take l.want-index l.fn.wants)
