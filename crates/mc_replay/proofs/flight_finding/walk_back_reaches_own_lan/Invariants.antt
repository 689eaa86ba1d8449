use Rattle.std.proofs.Common.{◌≡◌, length, drop}
use Rattle.mc_theory.specs.Findings.{walk_visits}
use Rattle.mc_forward.specs.FlightsInDomain.{net_in}
use Rattle.mc_replay.proofs.flight_finding.walk_back_reaches_own_lan.Given as goal

-- the LANs so far aren't the copy's own, so the walk visits that one if what is left of it does
abbrev pub invariant-loop-step : goal.invariant-loop-step
invariant-loop-step l = walk_visits (net_in l.fn.view) l.fn.copies l.fn.copy.lan
    (length (drop l._step-index l.fn.copies)) l.sender
    ≡ walk_visits (net_in l.fn.view) l.fn.copies l.fn.copy.lan (length l.fn.copies) l.fn.copy.sender
