-- A filter that is built record by record, with tests that compute (RFC 3376, section 3.2). Only
-- contracts of private functions use these definitions.
use Rattle.std.specs.Prelude.{◌≡◌, ℕ, ◌==◌, ◌&&◌, ◌||◌, Bool, true, false, not, List}
use Rattle.std.specs.List.{list_any}
use Rattle.mc_igmp.specs.declared.record.Record.{Record}
use Rattle.mc_igmp.specs.declared.record.Kind.{Kind}
use Rattle.mc_igmp.specs.declared.record.Kind.TheVariants as kind
use Rattle.mc_filter.specs.declared.filter.Mode.{Mode}
use Rattle.mc_filter.specs.declared.filter.Mode.TheVariants.{Include, Exclude}
use Rattle.mc_filter.specs.declared.filter_builder.FilterBuilder.{FilterBuilder}
use Rattle.mc_filter.specs.SourceFilter.{has, admits}

-- whether a record of a kind admits a source, by whether its list has the source
abbrev pub kind_admits : Kind → (listed : Bool) → Bool
kind_admits kind.Include listed = listed
kind_admits kind.Exclude listed = not listed
kind_admits (kind.Change type) listed = false
kind_admits (kind.Unknown type) listed = false

-- whether the kind is that of an EXCLUDE record
abbrev pub is_exclude : Kind → Bool
is_exclude kind.Include = false
is_exclude kind.Exclude = true
is_exclude (kind.Change type) = false
is_exclude (kind.Unknown type) = false

-- whether the mode is EXCLUDE
abbrev pub is_exclude_mode : Mode → Bool
is_exclude_mode Include = false
is_exclude_mode Exclude = true

-- whether the record is for the group and admits the source
abbrev pub wanted_by : (group source : ℕ) → Record → Bool
wanted_by group source group_record =
    group_record.group == group && kind_admits group_record.kind (has group_record.sources source)

-- whether the record is an EXCLUDE record for the group
abbrev pub is_exclude_for : (group : ℕ) → Record → Bool
is_exclude_for group group_record = group_record.group == group && is_exclude group_record.kind

-- whether some record is for the group and admits the source
abbrev pub wanted : List Record → (group source : ℕ) → Bool
wanted records group source = list_any (wanted_by group source) records

-- whether some record is an EXCLUDE record for the group
abbrev pub has_exclude : List Record → (group : ℕ) → Bool
has_exclude records group = list_any (is_exclude_for group) records

-- The filter so far, the sources that were included and the records that are left want together
-- what all records want of the group.
pub record BuildsFilter (records : List Record) (group : ℕ) (filter_builder : FilterBuilder)
    (left : List Record) : Type 0 where
  pub excludes : (is_exclude_mode filter_builder.filter.mode || has_exclude left group)
      ≡ has_exclude records group
  pub wants : (source : ℕ) →
      ((admits filter_builder.filter source || has filter_builder.included.items source)
      || wanted left group source) ≡ wanted records group source
