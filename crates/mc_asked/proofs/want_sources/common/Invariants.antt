use Rattle.std.proofs.Common.{◌≡◌, filter, take}
use Rattle.mc_filter.specs.SourceFilter.{has}
use Rattle.mc_asked.proofs.want_sources.common.Given as goal

-- Those of the addresses so far that are among the ascending ones have been kept.
abbrev pub invariant-loop-address : goal.invariant-loop-address
invariant-loop-address l = l.kept.items ≡ filter (has l.fn.ascending) (take l.address-index l.fn.addresses)
