use Rattle.std.proofs.Common.{ℕ, ◌<◌, get_or}
use Rattle.mc_theory.specs.Certificates.{Entry}
use Rattle.mc_check.specs.FedLans.{NeedsNoFeedOrIsMarked}
use Rattle.mc_check.proofs.fed.are_all_marked.Given as goal

-- each entry so far has no forwarder, or its LAN is marked
abbrev pub invariant-loop-entry : goal.invariant-loop-entry
invariant-loop-entry l = (k : ℕ) (d : Entry) → k < l.entry-index
    → NeedsNoFeedOrIsMarked l.fn.fed (get_or l.fn.entries k d)
