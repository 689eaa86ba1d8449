use Rattle.std.proofs.Common.{◌≡◌, ℕ, List, [], length}
use Rattle.std.specs.List.{All}
use Rattle.mc_igmp.specs.declared.record.Record.{Record}
use Rattle.mc_filter.specs.ChannelPlaces.{AreAnswersAtPlaces, IsChannelPlace}
use Rattle.mc_filter.specs.Tallies.{IsTallyOf}
use Rattle.mc_filter.proofs.channels.wanted_answers.Given as goal

-- There is an answer for each place up to this turn, and each is right for its place, whatever records
-- the tally counts.
abbrev pub invariant-loop-place : goal.invariant-loop-place
invariant-loop-place l = record {
  count : length l.answers.items ≡ l.place-index;
  each : (groups channels : List ℕ) (records : List Record)
      → length l.fn.tally.excludes.items ≡ length groups
      → All (IsChannelPlace groups channels) l.fn.places
      → IsTallyOf groups channels records l.fn.tally []
      → AreAnswersAtPlaces channels records l.fn.places l.answers.items;
}
