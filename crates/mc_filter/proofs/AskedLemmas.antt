-- Records that ask for nothing but channels.
use Rattle.std.proofs.Common.{◌≡◌, ℕ, ◌<◌, Bool, true, false, ◌&&◌, ◌==◌, List, ◌∷◌, length, get_or, map}
use Rattle.std.proofs.Common.{Option, Some, None, refl, sym, ap, subst, ◌∙◌, arith}
use Rattle.std.specs.Prelude.{IfNone, IfSome, IsTrue, MatchBool, is_some}
use Rattle.std.specs.List.{All, Contains}
use Rattle.std.proofs.lemmas.Bool.{true≢false, false≢true}
use Rattle.std.proofs.lemmas.Bool.Decides.{nat_tests}
use Rattle.std.proofs.lemmas.List.{get_or-map, get_or_default, length-map}
use Rattle.std.proofs.lemmas.List.Elements.{All-cons}
use Rattle.std.proofs.lemmas.List.Folds.{list_any_at}
use Rattle.mc_text.specs.Pair.{pair_of}
use Rattle.mc_text.proofs.PairLemmas.{pair_of-injective}
use Rattle.mc_igmp.specs.declared.record.Record.{Record}
use Rattle.mc_igmp.specs.declared.record.Kind.{Kind}
use Rattle.mc_igmp.specs.declared.record.Kind.TheVariants as kind
use Rattle.mc_filter.specs.declared.channels.ChannelPlace.{ChannelPlace}
use Rattle.mc_filter.specs.SourceFilter.{has}
use Rattle.mc_filter.specs.FilterBuilding.{wanted, wanted_by}
use Rattle.mc_filter.specs.ChannelPlaces.{AreGroupsOf, AreNumbersOf, IsChannelPlace, channel_at}
use Rattle.mc_filter.specs.ChannelWants.{AreAllAskedFor, AreAllOfKind, is_wanted_group}
use Rattle.mc_filter.specs.Tallies.{HasChannel, KeepsToChannels, ListsAsChannels, is_include}
use Rattle.mc_filter.proofs.AscendingLemmas.{Decides-has}

-- a channel is found exactly if the index has it
found-as_listed : (channels : List ℕ) (n : ℕ) (channel : ℕ × ℕ) (place : Option ℕ) (b : Bool)
    → pair_of n ≡ channel → IfSome place (λ p. (p < length channels) × (get_or channels p 0 ≡ n))
    → IfNone place (¬ Contains channels n) → is_some place ≡ b
    → MatchBool b (HasChannel channels channel) (¬ HasChannel channels channel)
found-as_listed channels n channel (Some p) true pair found none is =
    (p, found.0, ap pair_of found.1 ∙ pair)
found-as_listed channels n channel (Some p) false pair found none is = absurd (true≢false is)
found-as_listed channels n channel None true pair found none is = absurd (false≢true is)
found-as_listed channels n channel None false pair found none is = λ h.
    none (
      h.0,
      h.1,
      get_or_default channels h.0 n 0 h.1
          ∙ pair_of-injective (get_or channels h.0 0) n (h.2 ∙ sym pair),
    )

-- one more source that makes a channel as it should
pub ListsAsChannels-more : (channels : List ℕ) (r : Record) (source n : ℕ) (left : List ℕ) (place : Option ℕ)
    → pair_of n ≡ (source, r.group)
    → IfSome place (λ p. (p < length channels) × (get_or channels p 0 ≡ n))
    → IfNone place (¬ Contains channels n) → is_some place ≡ is_include r.kind
    → ListsAsChannels channels r left → ListsAsChannels channels r (source ∷ left)
ListsAsChannels-more channels r source n left place pair found none is others =
    All-cons (λ s. MatchBool (is_include r.kind) (HasChannel channels (s, r.group))
    (¬ HasChannel channels (s, r.group))) source left
    (found-as_listed channels n (source, r.group) place (is_include r.kind) pair found none is) others

-- what an index of channels has is a channel
channel-of_number : (numbers : List ℕ) (channels : List (ℕ × ℕ)) (channel : ℕ × ℕ)
    → AreNumbersOf numbers channels → HasChannel numbers channel → Contains channels channel
channel-of_number numbers channels channel each has_it =
    subst (Contains channels) has_it.2 (each has_it.0 0 has_it.1)

-- and the index has each channel
number-of_channel : (groups numbers : List ℕ) (places : List ChannelPlace) (k : ℕ) (d : ℕ × ℕ)
    → All (IsChannelPlace groups numbers) places → k < length places
    → HasChannel numbers (get_or (map (channel_at numbers) places) k d)
number-of_channel groups numbers places k d each below =
    let e : ChannelPlace = record { group = 0; channel = 0 } in
    let place = get_or places k e in (
      place.channel,
      (each k e below).channel,
      sym (get_or-map (channel_at numbers) places k e d below),
    )

-- a source that isn't listed
not_listed : (sources : List ℕ) (source : ℕ) → ¬ (Contains sources source) → has sources source ≡ false
not_listed sources source none = grind (arith, Decides-has sources source, none)

-- an EXCLUDE record for the group admits a source that it doesn't list
wanted_by-exclude : (group source : ℕ) (r : Record) → r.kind ≡ kind.Exclude → r.group ≡ group
    → has r.sources source ≡ false → wanted_by group source r ≡ true
wanted_by-exclude group source r is same none = rw (is, none) (grind (arith, nat_tests, same))

-- an EXCLUDE record that keeps to the channels lists the source of none, and its group has one, so that a
-- channel of the group is wanted
is_wanted_group-of_exclude : (groups numbers : List ℕ) (places : List ChannelPlace) (records : List Record)
    (j : ℕ) (r : Record) → All (IsChannelPlace groups numbers) places
    → AreGroupsOf groups (map (channel_at numbers) places)
    → j < length records → get_or records j r ≡ r → r.kind ≡ kind.Exclude → KeepsToChannels groups numbers r
    → IsTrue (is_wanted_group (map (channel_at numbers) places) records r.group)
is_wanted_group-of_exclude groups numbers places records j r each all below at is keeps =
    let channels = map (channel_at numbers) places in
    let second = λ (channel : ℕ × ℕ). channel.1 in
    let d : ℕ × ℕ = (0, 0) in
    let own : Contains (map second channels) r.group =
    subst (Contains (map second channels)) keeps.group.2 (all keeps.group.0 r.group keeps.group.1) in
    let k : ℕ = own.0 in
    let within : k < length channels = omega (arith, own.1, length-map channels second) in
    let found : k < length places = omega (arith, within, length-map places (channel_at numbers)) in
    let channel : ℕ × ℕ = get_or channels k d in
    let of_group : channel.1 ≡ r.group = sym (get_or-map second channels k d r.group within) ∙ own.2 in
    let has_it : HasChannel numbers (channel.0, r.group) =
    subst (HasChannel numbers) (ap (λ (n : ℕ). let p : ℕ × ℕ = (channel.0, n) in p) of_group)
    (number-of_channel groups numbers places k d each found) in
    let none : has r.sources channel.0 ≡ false =
    not_listed r.sources channel.0 (λ listed. (rw is at (keeps.sources listed.0 channel.0 listed.1))
    (subst (λ (s : ℕ). HasChannel numbers (s, r.group)) (sym listed.2) has_it)) in
    let is_wanted : wanted records r.group channel.0 ≡ true =
    list_any_at (wanted_by r.group channel.0) records j r below
    (ap (wanted_by r.group channel.0) at ∙ wanted_by-exclude r.group channel.0 r is refl none) in
    list_any_at (λ c. (c.1 == r.group) && wanted records r.group c.0) channels k d within
    (grind (arith, nat_tests, of_group, is_wanted))

-- a record that keeps to the channels asks for no more, whatever its kind
are_all_of_kind : (groups numbers : List ℕ) (places : List ChannelPlace) (records : List Record)
    (j : ℕ) (r : Record) (of_kind : Kind) → All (IsChannelPlace groups numbers) places
    → AreGroupsOf groups (map (channel_at numbers) places)
    → AreNumbersOf numbers (map (channel_at numbers) places)
    → j < length records → get_or records j r ≡ r → r.kind ≡ of_kind → KeepsToChannels groups numbers r
    → AreAllOfKind of_kind (map (channel_at numbers) places) records r.group r.sources
are_all_of_kind groups numbers places records j r kind.Include each groups_of numbers_of below at is keeps =
    λ k d within.
    channel-of_number numbers (map (channel_at numbers) places) (get_or r.sources k d, r.group) numbers_of
    (rw is at (keeps.sources k d within))
are_all_of_kind groups numbers places records j r kind.Exclude each groups_of numbers_of below at is keeps =
    is_wanted_group-of_exclude groups numbers places records j r each groups_of below at is keeps
are_all_of_kind groups numbers places records j r (kind.Change t) each groups_of numbers_of below at is keeps =
    tt
are_all_of_kind groups numbers places records j r (kind.Unknown t) each groups_of numbers_of below at is keeps =
    tt

-- records that keep to the channels ask for nothing else
pub are_all_asked_for : (groups numbers : List ℕ) (places : List ChannelPlace) (records : List Record)
    → All (IsChannelPlace groups numbers) places → AreGroupsOf groups (map (channel_at numbers) places)
    → AreNumbersOf numbers (map (channel_at numbers) places) → All (KeepsToChannels groups numbers) records
    → AreAllAskedFor (map (channel_at numbers) places) records
are_all_asked_for groups numbers places records each groups_of numbers_of keep = λ j d below.
    let r = get_or records j d in
    are_all_of_kind groups numbers places records j r r.kind each groups_of numbers_of below
    (get_or_default records j r d below) refl (keep j d below)
