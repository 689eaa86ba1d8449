-- What the hosts of a LAN ask for by its list of reports: wants of a group, from one source or from any
-- (docs/FORMATS.md, "What hosts ask for and no flow answers"; RFC 3376, section 3.2).
use Rattle.std.specs.Prelude.{ℕ, ◌==◌, ◌&&◌, not, Bool, List, [], ◌∷◌, filter, flat_map, map}
use Rattle.mc_igmp.specs.declared.record.Record.{Record}
use Rattle.mc_igmp.specs.declared.record.Kind.{Kind}
use Rattle.mc_igmp.specs.declared.record.Kind.TheVariants.{Include, Exclude, Change, Unknown}
use Rattle.mc_text.specs.Addr.{is_forwarded_group, is_source}
use Rattle.mc_filter.specs.FilterBuilding.{has_exclude}
use Rattle.mc_tables.specs.Summary.{in_order}

-- A want is a group and a source. For any source it has the source 0.0.0.0, as a kernel's (*,G) entry has: no
-- host sends from that address.
abbrev pub Want : Type 0
Want = ℕ × ℕ

-- the source of a want of any source
abbrev pub any_source : ℕ
any_source = 0

-- the wants of the group from each of these sources, of those that a host may send from
abbrev pub included_in : (group : ℕ) → (sources : List ℕ) → List Want
included_in group sources = map (λ source. (group, source)) (filter is_source sources)

-- what a record of this kind asks for: an EXCLUDE record for the group from any source, an INCLUDE record for
-- the group from each source of its list
abbrev pub asked_by_kind : Kind → (group : ℕ) → (sources : List ℕ) → List Want
asked_by_kind Exclude group sources = (group, any_source) ∷ []
asked_by_kind Include group sources = included_in group sources
asked_by_kind (Change type) group sources = []
asked_by_kind (Unknown type) group sources = []

-- what a record asks for
abbrev pub asked_by : Record → List Want
asked_by group_record = asked_by_kind group_record.kind group_record.group group_record.sources

-- Whether the filter that a list's records merge to asks for what one of its records does: if it is for a
-- group that routers forward, and not for a single source of a group that an EXCLUDE record is for, since the
-- merged filter is EXCLUDE there (RFC 3376, section 3.2).
abbrev pub is_of_merged_filter : List Record → Want → Bool
is_of_merged_filter records want =
    is_forwarded_group want.0 && not (not (want.1 == any_source) && has_exclude records want.0)

-- the wants of a list, by group and then by source, each once
abbrev pub wants_in : List Record → List Want
wants_in records = filter (is_of_merged_filter records) (in_order (flat_map asked_by records))
