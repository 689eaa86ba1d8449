use Rattle.std.proofs.Common.{◌≡◌, ℕ, ◌<◌, true, get_or}
use Rattle.mc_theory.specs.Certificates.{Entry}
use Rattle.mc_maker.specs.EntriesByLan.{serves}
use Rattle.mc_forward.specs.FlightsInDomain.{net_in}
use Rattle.mc_maker.proofs.served.serves_all.Given as goal

-- each entry so far serves its LAN
abbrev pub invariant-loop-entry : goal.invariant-loop-entry
invariant-loop-entry l = (k : ℕ) (d : Entry) → k < l.entry-index
    → serves (net_in l.fn.view) (get_or l.fn.entries k d) ≡ true
