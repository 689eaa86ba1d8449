use Rattle.std.proofs.Common.{◌≡◌, false, length}
use Rattle.mc_filter.specs.Tallies.{ListsAsChannels}
use Rattle.mc_filter.proofs.ListedSourcesLemmas.{AreListedUpTo}
use Rattle.mc_filter.proofs.tally.Tally.list_sources.Given as goal

-- Updating by the sources that the iterator still has leaves what updating by all of them would have
-- left.
abbrev pub invariant-loop-source : goal.invariant-loop-source
invariant-loop-source l = record {
  excludes : l.self.excludes.items ≡ l.fn.self.excludes.items;
  count : length l.self.states.items ≡ length l.fn.self.states.items;
  each : AreListedUpTo l.fn.channels l.fn.group_record l.fn.before l.source-iterator l.self.states.items
      l.fn.self.states.items;
  more : l.self.asks_more ≡ false → (l.fn.self.asks_more ≡ false)
      × (ListsAsChannels l.fn.channels l.fn.group_record l.source-iterator
      → ListsAsChannels l.fn.channels l.fn.group_record l.fn.group_record.sources);
}
