use Rattle.std.proofs.Common.{◌≡◌, drop}
use Rattle.mc_theory.specs.Certificates.{Entry}
use Rattle.mc_theory.specs.Reasons.{first_of, is_fed, unless}
use Rattle.mc_theory.specs.Reasons.Reason.{Unfed}
use Rattle.mc_forward.specs.FlightsInDomain.{net_in}
use Rattle.mc_check.proofs.fed.unfed_reason.Given as goal

-- the entries so far are fed, so the first reason is that of the entries that are left
abbrev pub invariant-loop-entry : goal.invariant-loop-entry
invariant-loop-entry l =
    first_of (λ (e : Entry). unless (is_fed (net_in l.fn.view) l.fn.by_lan e.lan e.forwarder)
    (Unfed e.lan)) (drop l.entry-index l.entry-items)
    ≡ first_of (λ (e : Entry). unless (is_fed (net_in l.fn.view) l.fn.by_lan e.lan e.forwarder)
    (Unfed e.lan)) l.fn.by_lan
