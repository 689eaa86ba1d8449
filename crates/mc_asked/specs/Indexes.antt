-- What indexes hold in which wants are looked up. Only contracts of private functions use these definitions,
-- but for `AreFlowsWanted`, which a public one uses.
use Rattle.std.specs.Prelude.{◌≡◌, ◌↔◌, ℕ, ◌==◌, ◌&&◌, Bool, not, IsTrue, List, Contains, Some}
use Rattle.std.specs.Prelude.{slice_get}
use Rattle.std.specs.List.{list_any}
use Rattle.mc_igmp.specs.declared.record.Record.{Record}
use Rattle.mc_text.specs.Pair.{pair_number, pair_of}
use Rattle.mc_text.specs.Addr.{is_forwarded_group}
use Rattle.mc_filter.specs.SourceFilter.{has}
use Rattle.mc_asked.specs.ListWants.{Want, any_source}
use Rattle.mc_filter.specs.ChannelPlaces.{IsWantedAnswer}
use Rattle.mc_filter.specs.ChannelWants.{is_wanted_group}
use Rattle.mc_filter.specs.FilterBuilding.{has_exclude}

-- The index has exactly the groups for which a record is an EXCLUDE record.
abbrev pub IsIndexOfExcludes : List Record → List ℕ → Type 0
IsIndexOfExcludes records index = (group : ℕ) → Contains index group ↔ IsTrue (has_exclude records group)

-- is_of_merged_filter, with an index in place of the search: where an EXCLUDE record is for the
-- group, the merged filter is EXCLUDE (RFC 3376, section 3.2), so single sources aren't asked for.
abbrev pub is_of_merged_filter_by : (excluded : List ℕ) → Want → Bool
is_of_merged_filter_by excluded want =
    is_forwarded_group want.0 && not (not (want.1 == any_source) && has excluded want.0)

-- The answers say of each flow, a source and a group, whether the records want it.
abbrev pub AreFlowsWanted : (flows : List (ℕ × ℕ)) → List Record → List Bool → Type 0
AreFlowsWanted flows records answers =
    (index : ℕ) (flow : ℕ × ℕ) (is_wanted : Bool) → slice_get flows index ≡ Some flow →
    slice_get answers index ≡ Some is_wanted → IsWantedAnswer records flow is_wanted

-- The index has exactly the groups of the flows, each a source and a group, that the records want.
abbrev pub IsIndexOfWantedGroups : (flows : List (ℕ × ℕ)) → List Record → List ℕ → Type 0
IsIndexOfWantedGroups flows records index =
    (group : ℕ) → Contains index group ↔ IsTrue (is_wanted_group flows records group)

-- The index has the number of each of these pairs of a source and a group, and no other pair's.
-- It is said of pairs that pair_of gives back, as it does those of 32-bit numbers.
abbrev pub IsIndexOfPairs : List (ℕ × ℕ) → List ℕ → Type 0
IsIndexOfPairs pairs index = (pair : ℕ × ℕ) → pair_of (pair_number pair) ≡ pair →
    Contains index (pair_number pair)
    ↔ IsTrue (list_any (λ other. (other.0 == pair.0) && (other.1 == pair.1)) pairs)

-- The index has exactly the groups of these pairs of a source and a group.
abbrev pub IsIndexOfGroups : List (ℕ × ℕ) → List ℕ → Type 0
IsIndexOfGroups pairs index = (group : ℕ) →
    Contains index group ↔ IsTrue (list_any (λ other. other.1 == group) pairs)
