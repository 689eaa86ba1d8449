use Rattle.std.proofs.Common.{◌≡◌}
use Rattle.mc_theory.specs.Lists.{below}
use Rattle.mc_json.proofs.domain_line.all_lans.Given as goal

-- those so far
abbrev pub invariant-loop-number : goal.invariant-loop-number
invariant-loop-number l = l.lans.items ≡ below l.number
