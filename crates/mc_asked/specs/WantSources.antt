-- A want with the sources that the filter of none of its LANs so far admits, and what one LAN more changes.
use Rattle.std.specs.Prelude.{ℕ, ◌==◌, ◌&&◌, Bool, false, true, List, [], filter, map, Some, if◌then◌else◌}
use Rattle.mc_filter.specs.SourceFilter.{has}
use Rattle.mc_tables.specs.ListedRows.{is_listed}
use Rattle.mc_asked.specs.GroupRun.{seconds_of}
use Rattle.mc_asked.specs.ListWants.{Want, any_source}
use Rattle.mc_asked.specs.WantStates.{is_key}

-- A want, whether one of its LANs has been seen, and the sources that the filter of none of the LANs that
-- have been seen admits.
pub record WantSourcesValue : Type 0 where
  pub want : Want
  pub is_begun : Bool
  pub unadmitted : List ℕ

-- a want before the first LAN
abbrev pub without_sources : Want → WantSourcesValue
without_sources want = record { want = want; is_begun = false; unadmitted = [] }

-- the want with these sources
abbrev pub as_asked : WantSourcesValue → Want × List ℕ
as_asked sources = (sources.want, sources.unadmitted)

-- a want with one LAN more, which doesn't admit these sources of the group
abbrev pub with_lan : (own : List ℕ) → WantSourcesValue → WantSourcesValue
with_lan own sources = record {
  want = sources.want;
  is_begun = true;
  unadmitted = if sources.is_begun then filter (has sources.unadmitted) own else own;
}

-- a want with that LAN, if the want is of any source of this group; otherwise as it is
abbrev pub with_lan_at : (group : ℕ) → (own : List ℕ) → WantSourcesValue → WantSourcesValue
with_lan_at group own sources = if is_key (group, any_source) sources.want then with_lan own sources
    else sources

-- a want with one LAN more, if it is of any source of one of these groups. The pairs are what the LAN doesn't
-- admit, each a group and a source.
abbrev pub with_unadmitted_of : (groups : List ℕ) → (unadmitted : List (ℕ × ℕ)) → WantSourcesValue
    → WantSourcesValue
with_unadmitted_of groups unadmitted sources =
    if (sources.want.1 == any_source) && has groups sources.want.0
    then with_lan (seconds_of sources.want.0 unadmitted) sources else sources

-- whether a want of a LAN is of any source, and one of these wants
abbrev pub is_shared_any : (wants : List Want) → Want → Bool
is_shared_any wants want = (want.1 == any_source) && is_listed (Some wants) want

-- the groups of the LAN's wants of which that is so
abbrev pub groups_from_any : (wants own : List Want) → List ℕ
groups_from_any wants own = map (λ want. want.0) (filter (is_shared_any wants) own)
