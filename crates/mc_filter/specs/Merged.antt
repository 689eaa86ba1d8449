-- The filter to which the records for a group merge (RFC 3376, section 3.2).
use Rattle.std.specs.Prelude.{◌≡◌, ◌↔◌, ℕ, List, Contains, All, Any}
use Rattle.std.specs.List.Sorted.{IsStrictlyIncreasing}
use Rattle.mc_igmp.specs.declared.record.Record.{Record}
use Rattle.mc_igmp.specs.declared.record.Kind.{Kind}
use Rattle.mc_igmp.specs.declared.record.Kind.TheVariants as kind
use Rattle.mc_filter.specs.declared.filter.Mode.{Mode}
use Rattle.mc_filter.specs.declared.filter.Mode.TheVariants.{Include, Exclude}
use Rattle.mc_filter.specs.SourceFilter.{SourceFilter}

-- the record is for the group, and of this kind
abbrev pub IsRecordFor : (group : ℕ) → Kind → Record → Type 0
IsRecordFor group of_kind group_record =
    (group_record.group ≡ group) × (group_record.kind ≡ of_kind)

-- some record for the group is an EXCLUDE record
abbrev pub HasExclude : List Record → (group : ℕ) → Type 0
HasExclude records group = Any (IsRecordFor group kind.Exclude) records

-- the source is in the union of the INCLUDE lists for the group
abbrev pub InSomeInclude : List Record → (group source : ℕ) → Type 0
InSomeInclude records group source =
    Any (λ group_record. IsRecordFor group kind.Include group_record
    × Contains group_record.sources source) records

-- the source is in the intersection of the EXCLUDE lists for the group
abbrev pub InEachExclude : List Record → (group source : ℕ) → Type 0
InEachExclude records group source =
    All (λ group_record. IsRecordFor group kind.Exclude group_record
    → Contains group_record.sources source) records

-- The records for the group merge to this mode and these sources. If there is an EXCLUDE record:
-- EXCLUDE, of the intersection of the EXCLUDE lists less the sources of all INCLUDE lists.
-- Otherwise: INCLUDE, of the union of the INCLUDE lists.
abbrev pub IsMergedIn : Mode → (sources : List ℕ) → List Record → (group : ℕ) → Type 0
IsMergedIn Exclude sources records group =
    HasExclude records group
    × ((source : ℕ) → Contains sources source ↔
    (InEachExclude records group source × ¬ (InSomeInclude records group source)))
IsMergedIn Include sources records group =
    ¬ (HasExclude records group)
    × ((source : ℕ) → Contains sources source ↔ InSomeInclude records group source)

-- the records for the group merge to this filter, whose sources are in ascending order, each of
-- them once
pub record IsMergedValue (records : List Record) (group : ℕ) (filter : SourceFilter) : Type 0 where
  pub ascending : IsStrictlyIncreasing filter.sources
  pub merged : IsMergedIn filter.mode filter.sources records group
