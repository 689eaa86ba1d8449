use Rattle.std.proofs.Common.{ℕ, subst, sym}
use Rattle.std.specs.List.{Contains}
use Rattle.std.proofs.lemmas.List.Elements.{All-push}
use Rattle.mc_text.specs.Pair.{pair_number}
use Rattle.mc_filter.specs.ChannelPlaces.{IsChannelPlace, channel_at}
use Rattle.mc_filter.proofs.ChannelLemmas.{map-channels_more}
use Rattle.mc_filter.proofs.channels.places_of.Goals as goal

-- The group of each channel is in its index, and so is that of the one at this turn.
pub place_of-requires-clause-group : goal.place_of-requires-clause-group
place_of-requires-clause-group c =
    subst (λ (channel : ℕ × ℕ). Contains c.args.groups.now channel.1) (sym c.channel-item.is)
    (c.requires.groups c.loop-channel.channel-index c.channel-item.result c.loop-channel-test.true)

-- The number of each channel is in its index, and so is that of the one at this turn.
pub place_of-requires-clause-channel : goal.place_of-requires-clause-channel
place_of-requires-clause-channel c =
    subst (λ (channel : ℕ × ℕ). Contains c.args.channels.now (pair_number channel))
    (sym c.channel-item.is)
    (c.requires.channels c.loop-channel.channel-index c.channel-item.result c.loop-channel-test.true)

-- The new place is one, and stands for the channel that follows those whose places were pushed before.
pub loop-channel-preserved : goal.loop-channel-preserved
loop-channel-preserved c = rw c.in_ok-push.ensures.items (record {
  places = All-push (IsChannelPlace c.args.groups.now c.args.channels.now) _ _
      c.loop-channel.invariant.places c.place_of.ensures.place;
  asked = map-channels_more (channel_at c.args.channels.now) _ _ c.args.asked.now
      c.loop-channel.channel-index c.channel-item.result c.loop-channel-test.true
      c.channel-item.is c.loop-channel.invariant.asked c.place_of.ensures.channel;
})
