-- Whether the hosts of a LAN want a channel, which is a source and a group (RFC 4607, section 1);
-- and where channels are in their index, which only contracts of private functions use.
use Rattle.std.specs.Prelude.{◌≡◌, ◌↔◌, ℕ, ◌<◌, Bool, IsTrue, false, List, [], length, get_or, map}
use Rattle.std.specs.Prelude.{Contains}
use Rattle.std.specs.List.{All}
use Rattle.mc_text.specs.Pair.{pair_of}
use Rattle.mc_igmp.specs.declared.record.Record.{Record}
use Rattle.mc_filter.specs.declared.channels.ChannelPlace.{ChannelPlace}
use Rattle.mc_filter.specs.declared.tally.Tally.{Tally}
use Rattle.mc_igmp.specs.Wants.{Wants}
use Rattle.mc_filter.specs.Tallies.{IsTallyOf, channel_numbered}

-- the answer is yes exactly if the hosts that report these records want the channel, a source and a
-- group
abbrev pub IsWantedAnswer : List Record → ℕ × ℕ → Bool → Type 0
IsWantedAnswer records channel answer = IsTrue answer ↔ Wants records channel.1 channel.0

-- the source and the group of the channel at a place
abbrev pub channel_at : (channels : List ℕ) → ChannelPlace → ℕ × ℕ
channel_at channels place = channel_numbered channels place.channel

-- the place is that of a group among the groups, and of a channel of that group among the channels
pub record IsChannelPlace (groups channels : List ℕ) (place : ChannelPlace) : Type 0 where
  pub group : place.group < length groups
  pub channel : place.channel < length channels
  pub is : get_or groups place.group 0 ≡ (channel_at channels place).1

-- each group of an index is that of a channel
abbrev pub AreGroupsOf : (groups : List ℕ) → (channels : List (ℕ × ℕ)) → Type 0
AreGroupsOf groups channels = All (λ group. Contains (map (λ channel. channel.1) channels) group) groups

-- each number of an index is that of a channel
abbrev pub AreNumbersOf : (numbers : List ℕ) → (channels : List (ℕ × ℕ)) → Type 0
AreNumbersOf numbers channels = All (λ number. Contains channels (pair_of number)) numbers

-- the answer is yes exactly if the channel at the place is wanted
abbrev pub IsAnswerAtPlace : (channels : List ℕ) → List Record → ChannelPlace → Bool → Type 0
IsAnswerAtPlace channels records place answer = IsWantedAnswer records (channel_at channels place) answer

-- each answer is right for the channel at its place
abbrev pub AreAnswersAtPlaces : (channels : List ℕ) → List Record → List ChannelPlace
    → (answers : List Bool) → Type 0
AreAnswersAtPlaces channels records places answers =
    (index : ℕ) (default : ChannelPlace) → index < length answers
    → IsAnswerAtPlace channels records (get_or places index default) (get_or answers index false)

-- Each answer is right for the channel at its place, whatever groups, channels and records the
-- tally counts.
abbrev pub AreAnswersOfTally : Tally → List ChannelPlace → List Bool → Type 0
AreAnswersOfTally tally places answers = (groups channels : List ℕ) (records : List Record) →
    length tally.excludes.items ≡ length groups → All (IsChannelPlace groups channels) places →
    IsTallyOf groups channels records tally [] → AreAnswersAtPlaces channels records places answers
