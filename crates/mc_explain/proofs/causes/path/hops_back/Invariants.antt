use Rattle.std.proofs.Common.{◌≡◌, ◌++◌, length, drop}
use Rattle.mc_theory.specs.Hops.{hops_back}
use Rattle.mc_forward.specs.FlightsInDomain.{net_in}
use Rattle.mc_explain.proofs.causes.path.hops_back.Given as goal

-- the hops so far, and then those that are followed back from here, are all
abbrev pub invariant-loop-step : goal.invariant-loop-step
invariant-loop-step l = l.hops.items
    ++ hops_back (net_in l.fn.view) l.fn.copies (length (drop l._step-index l.fn.copies)) l.onto
    l.sender
    ≡ hops_back (net_in l.fn.view) l.fn.copies (length l.fn.copies) l.fn.copy.lan l.fn.copy.sender
