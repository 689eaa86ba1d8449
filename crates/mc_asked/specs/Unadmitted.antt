-- The sources that the filter of a LAN doesn't admit (RFC 3376, section 3.2), of groups that it wants from
-- any source, and the sources that the filter of none of several LANs admits.
use Rattle.std.specs.Prelude.{◌≡◌, ◌==◌, slice_get, unwrap_or, ℕ, not, Bool, List, [], ◌∷◌, filter, flat_map}
use Rattle.std.specs.Prelude.{map, Some, if◌then◌else◌}
use Rattle.std.specs.List.{list_any}
use Rattle.mc_igmp.specs.declared.record.Record.{Record}
use Rattle.mc_filter.specs.FilterBuilding.{wanted}
use Rattle.mc_filter.specs.SourceFilter.{has}
use Rattle.mc_tables.specs.Summary.{in_order}
use Rattle.mc_asked.specs.GroupRun.{seconds_of}
use Rattle.mc_asked.specs.ListWants.{Want, any_source}

-- the group of a record with each source of its list, if it is one of these groups
abbrev pub listed_by : (groups : List ℕ) → Record → List (ℕ × ℕ)
listed_by groups group_record = if has groups group_record.group
    then map (λ source. (group_record.group, source)) group_record.sources else []

-- Each of these groups with each source that some record lists and no record admits. Where a record for the
-- group is an EXCLUDE record, these are all sources that the merged filter doesn't admit (RFC 3376, section
-- 3.2).
abbrev pub unadmitted_in : List Record → (groups : List ℕ) → List (ℕ × ℕ)
unadmitted_in records groups =
    filter (λ pair. not (wanted records pair.0 pair.1)) (in_order (flat_map (listed_by groups) records))

-- Each pair has a mark, which is set exactly if the pair passes the test.
abbrev pub AreMarksOf : (test : ℕ × ℕ → Bool) → (pairs : List (ℕ × ℕ)) → (marks : List Bool) → Type 0
AreMarksOf test pairs marks = (index : ℕ) (pair : ℕ × ℕ) (mark : Bool) → slice_get pairs index ≡ Some pair →
    slice_get marks index ≡ Some mark → mark ≡ test pair

-- ---- of the LANs of a want

-- the records of a LAN's list
abbrev pub list_of : List (List Record) → (lan : ℕ) → List Record
list_of lists lan = unwrap_or (slice_get lists lan) []

-- whether the filter of at least one of the LANs admits the source
abbrev pub is_admitted : List (List Record) → (lans : List ℕ) → (group : ℕ) → (source : ℕ) → Bool
is_admitted lists lans group source = list_any (λ lan. wanted (list_of lists lan) group source) lans

-- The sources that the filter of none of the LANs admits, where all of these want the group from any source:
-- of the sources that the first LAN doesn't admit, those that no other LAN admits.
abbrev pub unadmitted_by : List (List Record) → (group : ℕ) → (lans : List ℕ) → List ℕ
unadmitted_by lists group [] = []
unadmitted_by lists group (lan ∷ lans) =
    filter (λ source. not (is_admitted lists lans group source))
    (seconds_of group (unadmitted_in (list_of lists lan) (group ∷ [])))

-- a want with the sources that the filter of none of its LANs admits; with no source if the want is of a
-- single one
abbrev pub with_unadmitted : List (List Record) → Want × List ℕ → Want × List ℕ
with_unadmitted lists line =
    (line.0, (if line.0.1 == any_source then unadmitted_by lists line.0.0 line.1 else []))
