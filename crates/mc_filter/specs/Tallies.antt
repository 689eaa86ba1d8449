-- The tally of channels over records: how many EXCLUDE records each group has, and of each channel
-- how it is wanted so far. Only contracts of private functions use these definitions.
use Rattle.std.specs.Prelude.{◌≡◌, ℕ, ◌+◌, ◌<◌, ◌≤◌, ◌==◌, ◌&&◌, ◌||◌, Bool, true, false, not}
use Rattle.std.specs.Prelude.{cond, Contains, MatchBool, List, ◌∷◌, length, get_or}
use Rattle.std.specs.List.{All}
use Rattle.std.specs.List.Sorted.{IsStrictlyIncreasing}
use Rattle.mc_text.specs.Pair.{pair_of}
use Rattle.mc_igmp.specs.declared.record.Record.{Record}
use Rattle.mc_igmp.specs.declared.record.Kind.{Kind}
use Rattle.mc_igmp.specs.declared.record.Kind.TheVariants as kind
use Rattle.mc_filter.specs.declared.tally.ChannelState.{ChannelState}
use Rattle.mc_filter.specs.declared.tally.ChannelState.TheVariants.{Included, Listed}
use Rattle.mc_filter.specs.declared.tally.Tally.{Tally}
use Rattle.mc_filter.specs.SourceFilter.{has}
use Rattle.mc_filter.specs.FilterBuilding.{is_exclude, wanted}

-- the source and the group of the channel at a place of the index, which holds them as one number
abbrev pub channel_numbered : (channels : List ℕ) → (place : ℕ) → ℕ × ℕ
channel_numbered channels place = pair_of (get_or channels place 0)

-- whether no record wants a channel of this state, where its group has `excludes` EXCLUDE records
-- so far: each of them lists its source, and no INCLUDE record does
abbrev pub is_unwanted : ChannelState → (excludes : ℕ) → Bool
is_unwanted Included excludes = false
is_unwanted (Listed count) excludes = count == excludes

-- the state of a channel after a record of this kind for its group, which lists its source
abbrev pub state_after_listing : Kind → (excludes : ℕ) → ChannelState → ChannelState
state_after_listing kind.Include excludes state = Included
state_after_listing kind.Exclude excludes state =
    cond (is_unwanted state excludes) (Listed (excludes + 1)) state
state_after_listing (kind.Change type) excludes state = state
state_after_listing (kind.Unknown type) excludes state = state

-- the state of a channel after a record of this kind, by whether the record is for its group and
-- lists its source
abbrev pub state_after_record : (listed : Bool) → Kind → (excludes : ℕ) → ChannelState → ChannelState
state_after_record listed of_kind excludes state =
    cond listed (state_after_listing of_kind excludes state) state

-- each channel's new state is its old one after the record, before which `excludes` EXCLUDE records
-- were for its group
abbrev pub AreStatesAfterRecord : (channels : List ℕ) → Record → (excludes : ℕ)
    → (old new : List ChannelState) → Type 0
AreStatesAfterRecord channels group_record excludes old new =
    (place group source : ℕ) (default : ChannelState) → place < length channels →
    channel_numbered channels place ≡ (source, group) →
    get_or new place default
    ≡ state_after_record (group_record.group == group && has group_record.sources source)
    group_record.kind excludes (get_or old place default)

-- how many EXCLUDE records there are after one more record, of this kind
abbrev pub excludes_after : Kind → (excludes : ℕ) → ℕ
excludes_after of_kind excludes = cond (is_exclude of_kind) (excludes + 1) excludes

-- the state counts no more EXCLUDE records than there are
abbrev pub IsCountWithin : ChannelState → (excludes : ℕ) → Type 0
IsCountWithin Included excludes = Unit {0}
IsCountWithin (Listed count) excludes = count ≤ excludes

-- a channel of this state, whose group has `excludes` EXCLUDE records so far, is wanted by its state or
-- by the records that are `left` exactly if it is wanted by all records
pub record IsTallied (state : ChannelState) (excludes : ℕ) (left all : Bool) : Type 0 where
  pub within : IsCountWithin state excludes
  pub wants : (not (is_unwanted state excludes) || left) ≡ all

-- the tally counts all records but those that are left: each channel of one of the groups is wanted by
-- its state, or the records that are left want it, exactly if all records want it
abbrev pub IsTallyOf : (groups channels : List ℕ) → List Record → Tally → (left : List Record) → Type 0
IsTallyOf groups channels records tally left =
    (number place source : ℕ) (default : ChannelState) → number < length groups →
    place < length channels → channel_numbered channels place ≡ (source, get_or groups number 0) →
    IsTallied (get_or tally.states.items place default) (get_or tally.excludes.items number 0)
    (wanted left (get_or groups number 0) source) (wanted records (get_or groups number 0) source)

-- the tally, for `groups` groups and `channels` channels, counts no record yet, whichever these are
abbrev pub CountsNoRecord : (groups channels : ℕ) → Tally → Type 0
CountsNoRecord groups channels tally = (all_groups all_channels : List ℕ) (records : List Record) →
    length all_groups ≡ groups → length all_channels ≡ channels →
    IsTallyOf all_groups all_channels records tally records

-- the new tally counts one more record than the old one, whose group is at this place among the groups
abbrev pub AddsRecord : (channels : List ℕ) → (place : ℕ) → Record → (old new : Tally) → Type 0
AddsRecord channels place group_record old new = (groups : List ℕ) (records left : List Record) →
    IsStrictlyIncreasing groups → length groups ≡ length old.excludes.items →
    get_or groups place 0 ≡ group_record.group →
    IsTallyOf groups channels records old (group_record ∷ left) → IsTallyOf groups channels records new left

-- the new tally, of these groups and channels, counts one more record than the old one
abbrev pub CountsRecord : (groups channels : List ℕ) → Record → (old new : Tally) → Type 0
CountsRecord groups channels group_record old new = (records left : List Record) →
    IsTallyOf groups channels records old (group_record ∷ left) → IsTallyOf groups channels records new left

-- whether the kind is that of an INCLUDE record
abbrev pub is_include : Kind → Bool
is_include kind.Include = true
is_include kind.Exclude = false
is_include (kind.Change type) = false
is_include (kind.Unknown type) = false

-- the index has this channel, which is a source and a group
abbrev pub HasChannel : (channels : List ℕ) → ℕ × ℕ → Type 0
HasChannel channels channel =
    (place : ℕ) × (place < length channels) × (channel_numbered channels place ≡ channel)

-- if the record is an INCLUDE record, each of the sources makes a channel of the index with the
-- record's group, and otherwise none does
abbrev pub ListsAsChannels : (channels : List ℕ) → Record → (sources : List ℕ) → Type 0
ListsAsChannels channels group_record sources = All (λ source. MatchBool (is_include group_record.kind)
    (HasChannel channels (source, group_record.group))
    (¬ HasChannel channels (source, group_record.group))) sources

-- the record asks for no more than channels: its group is one of the groups, and its sources make
-- channels as its kind wants it
pub record KeepsToChannels (groups channels : List ℕ) (group_record : Record) : Type 0 where
  pub group : Contains groups group_record.group
  pub sources : ListsAsChannels channels group_record group_record.sources

-- if the tally finds that no more than channels is asked for, all records keep to the channels as
-- soon as those that are left do
abbrev pub KeepToChannelsUnlessMore : (groups channels : List ℕ) → List Record → Tally
    → (left : List Record) → Type 0
KeepToChannelsUnlessMore groups channels records tally left = tally.asks_more ≡ false →
    All (KeepsToChannels groups channels) left → All (KeepsToChannels groups channels) records
