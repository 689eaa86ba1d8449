use Rattle.std.proofs.Common.{◌≡◌, take}
use Rattle.mc_cert.proofs.certificate.Certificate.to_trees.Given as goal

-- The trees are those of the flows so far.
abbrev pub invariant-loop-flow : goal.invariant-loop-flow
invariant-loop-flow l = l.trees ≡ take l.flow l.self
