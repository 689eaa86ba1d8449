use Rattle.std.proofs.Common.{◌≡◌, map, take}
use Rattle.std.specs.List.{All}
use Rattle.mc_filter.specs.ChannelPlaces.{IsChannelPlace, channel_at}
use Rattle.mc_filter.proofs.channels.places_of.Given as goal

-- The places so far are places, and stand for the channels up to this turn.
abbrev pub invariant-loop-channel : goal.invariant-loop-channel
invariant-loop-channel l = record {
  places : All (IsChannelPlace l.fn.groups l.fn.channels) l.places.items;
  asked : map (channel_at l.fn.channels) l.places.items
      ≡ take l.channel-index l.fn.asked;
}
