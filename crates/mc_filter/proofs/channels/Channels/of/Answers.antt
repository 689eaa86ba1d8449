use Rattle.std.proofs.Common.{refl, subst, sym}
use Rattle.mc_filter.specs.ChannelPlaces.{AreGroupsOf, AreNumbersOf}
use Rattle.mc_filter.proofs.ChannelLemmas.{contains-map, groups-of_made}
use Rattle.mc_filter.proofs.channels.Channels.of.Goals as goal

-- The groups' index was made of the channels, so that it has the group of each.
pub places_of-requires-clause-groups : goal.places_of-requires-clause-groups
places_of-requires-clause-groups c =
    contains-map (λ channel. channel.1) c.args.asked.now _ c.in_ok-groups.groups refl c.in_ok-groups.ensures

-- The places stand for the asked channels in their order, so that what is known of the indexes of
-- those channels is known of the channels at the places.
pub invariant_of-result : goal.invariant_of-result
invariant_of-result c = (
  c.in_ok-places.ensures.places,
  subst (AreGroupsOf c.in_ok-groups.groups) (sym c.in_ok-places.ensures.asked)
      (groups-of_made c.args.asked.now _ c.in_ok-groups.groups refl c.in_ok-groups.ensures),
  subst (AreNumbersOf c.in_ok-channels.channels) (sym c.in_ok-places.ensures.asked)
      c.in_ok-channels.ensures.only,
)
