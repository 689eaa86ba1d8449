use Rattle.std.proofs.Common.{◌≡◌, ◌++◌}
use Rattle.mc_filter.proofs.addresses.append_sources.Given as goal

-- What was appended so far and what the iterator still has are together what the call is to leave.
abbrev pub invariant-loop-source : goal.invariant-loop-source
invariant-loop-source l =
    l.addresses.items ++ l.source-iterator ≡ l.fn.addresses.items ++ l.fn.sources
