use Rattle.std.proofs.Common.{◌≡◌, drop}
use Rattle.mc_theory.specs.CertificateOfCopies.{threshold_of}
use Rattle.mc_forward.specs.Domains.{oif_pairs}
use Rattle.mc_forward.proofs.outgoing.threshold_of.Given as goal

-- The threshold is that of the pairs that are left: the vif was not among the earlier ones.
abbrev pub invariant-loop-oif : goal.invariant-loop-oif
invariant-loop-oif l = threshold_of l.fn.vif (oif_pairs (drop l.oif-index l.oif-items))
    ≡ threshold_of l.fn.vif (oif_pairs l.fn.entry.oifs)
