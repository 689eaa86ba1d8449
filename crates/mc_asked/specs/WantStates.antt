-- What a router has for each of several wants (Forwarding), worked out row by row.
use Rattle.std.specs.Prelude.{ℕ, ◌==◌, ◌&&◌, ◌||◌, Bool, List, [], ◌∷◌, map, if◌then◌else◌}
use Rattle.std.specs.Coded.{Coded, coded_ℕ}
use Rattle.std.specs.FinMap as fin
use Rattle.std.specs.List.{list_any}
use Rattle.std.specs.FinMap.{FinMap}
use Rattle.std.specs.Ordering.{is_eq, nat_cmp}
use Rattle.mc_tables.specs.CacheTable.{EntryValue, RowValue, key_cmp}
use Rattle.mc_tables.specs.VifTable.{VifValue, vif_code}
use Rattle.mc_asked.specs.declared.forwarding.RouterState.{RouterState}
use Rattle.mc_asked.specs.declared.forwarding.RouterState.TheVariants.{Nothing}
use Rattle.mc_asked.specs.Forwarding.{greater, router_state, row_of}
use Rattle.mc_asked.specs.ListWants.{Want}

-- A want; the sources that the filter of none of its LANs admits, ascending; and what a router has for the
-- want.
pub record StatedWantValue : Type 0 where
  pub want : Want
  pub unadmitted : List ℕ
  pub state : RouterState

-- A router's vifs, and several wants with what the rows so far have for each.
pub record WantStatesValue : Type 0 where
  pub vifs : FinMap nat_cmp VifValue
  pub wants : List StatedWantValue

-- A router's vifs are stored as a map.
abbrev pub vifs_code : Coded (FinMap nat_cmp VifValue)
vifs_code = fin.code coded_ℕ vif_code

-- What a router has for a want after one resolved row more, of this source and group.
abbrev pub state_with_row : FinMap nat_cmp VifValue → (key : ℕ × ℕ) → EntryValue → StatedWantValue
    → RouterState
state_with_row vifs key entry want =
    greater want.state (router_state vifs want.unadmitted want.want (row_of key entry ∷ []))

-- The want after that row.
abbrev pub want_with_row : FinMap nat_cmp VifValue → (key : ℕ × ℕ) → EntryValue → StatedWantValue
    → StatedWantValue
want_with_row vifs key entry want =
    record { want = want.want; unadmitted = want.unadmitted; state = state_with_row vifs key entry want }

-- Each want after that row.
abbrev pub states_with_row : WantStatesValue → ℕ × ℕ → EntryValue → WantStatesValue
states_with_row states key entry =
    record { vifs = states.vifs; wants = map (want_with_row states.vifs key entry) states.wants }

-- Whether the two keys are the same.
abbrev pub is_key : (key other : ℕ × ℕ) → Bool
is_key key other = is_eq (key_cmp key other)

-- Whether one of the wants is this one.
abbrev pub is_among_wants : WantStatesValue → Want → Bool
is_among_wants states want =
    list_any (λ other. (other.0 == want.0) && (other.1 == want.1)) (map (λ stated. stated.want) states.wants)

-- Whether a row of this source and group may change what the router has for one of the wants: a row for
-- every source, or one of a group and a source of which hosts want any source, or this one.
abbrev pub may_change_states : WantStatesValue → (key : ℕ × ℕ) → Bool
may_change_states states key =
    (key.0 == 0) || (is_among_wants states (key.1, 0) || is_among_wants states (key.1, key.0))

-- A want after a row that counts for one want alone.
abbrev pub want_with_row_if_want : (want : Want) → FinMap nat_cmp VifValue → (key : ℕ × ℕ) → EntryValue
    → StatedWantValue → StatedWantValue
want_with_row_if_want want vifs key entry stated =
    if is_key want stated.want then want_with_row vifs key entry stated else stated

-- Each want after a row that counts for one want alone.
abbrev pub states_with_row_if_want : (want : Want) → WantStatesValue → ℕ × ℕ → EntryValue → WantStatesValue
states_with_row_if_want want states key entry =
    record {
      vifs = states.vifs;
      wants = map (want_with_row_if_want want states.vifs key entry)
          states.wants;
    }

-- A want after a row that counts for the wants of one group alone.
abbrev pub want_with_row_if_group : (group : ℕ) → FinMap nat_cmp VifValue → (key : ℕ × ℕ) → EntryValue
    → StatedWantValue → StatedWantValue
want_with_row_if_group group vifs key entry want =
    if want.want.0 == group then want_with_row vifs key entry want else want

-- Each want after a row that counts for the wants of one group alone.
abbrev pub states_with_row_if_group : (group : ℕ) → WantStatesValue → ℕ × ℕ → EntryValue → WantStatesValue
states_with_row_if_group group states key entry =
    record {
      vifs = states.vifs;
      wants = map (want_with_row_if_group group states.vifs key entry)
          states.wants;
    }

-- A want before the first row: the router has nothing for it.
abbrev pub unstated : Want × List ℕ → StatedWantValue
unstated want = record { want = want.0; unadmitted = want.1; state = Nothing }

-- The wants before the first row.
abbrev pub states_start : FinMap nat_cmp VifValue → List (Want × List ℕ) → WantStatesValue
states_start vifs wants = record { vifs = vifs; wants = map unstated wants }

-- A want with what these rows of a router have for it.
abbrev pub want_by_rows : FinMap nat_cmp VifValue → List RowValue → Want × List ℕ → StatedWantValue
want_by_rows vifs rows want =
    record { want = want.0; unadmitted = want.1; state = router_state vifs want.1 want.0 rows }

-- Each want with what these rows of a router have for it.
abbrev pub states_by_rows : FinMap nat_cmp VifValue → List (Want × List ℕ) → List RowValue → WantStatesValue
states_by_rows vifs wants rows = record { vifs = vifs; wants = map (want_by_rows vifs rows) wants }
