use Rattle.std.proofs.Common.{subst, sym}
use Rattle.std.specs.List.Sorted.{IsStrictlyIncreasing}
use Rattle.mc_asked.proofs.NoFilterLemmas.{seconds_of-ascend}
use Rattle.mc_asked.proofs.unadmitted_sources.UnadmittedSources.add_group.Goals as goal

-- The pairs ascend, so that the sources of one group do.
pub add_lan-requires : goal.add_lan-requires
add_lan-requires c = record {
  ascending = subst IsStrictlyIncreasing (sym c.in_ok-own.ensures)
      (seconds_of-ascend c.args.group c.args.unadmitted.now c.requires.sorted);
}
