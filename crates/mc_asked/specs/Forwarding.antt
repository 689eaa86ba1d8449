-- What a router has for a want (docs/FORMATS.md, "What hosts ask for and no flow answers"): an entry that
-- forwards to a LAN, an entry that doesn't, a (*,G) or (*,*) entry alone, or nothing.
use Rattle.std.specs.Prelude.{ℕ, ◌==◌, ◌&&◌, ◌||◌, not, Bool, false, true, is_some, List, Option, None, Some}
use Rattle.std.specs.Prelude.{filter, length, slice_get}
use Rattle.std.specs.Prelude.{if◌then◌else◌}
use Rattle.std.specs.FinMap.{FinMap, get}
use Rattle.std.specs.List.{list_any}
use Rattle.std.specs.Ordering.{nat_cmp}
use Rattle.mc_filter.specs.SourceFilter.{has}
use Rattle.mc_tables.specs.declared.cache.entry.Oif.{Oif}
use Rattle.mc_tables.specs.CacheTable.{EntryValue, RowValue}
use Rattle.mc_tables.specs.VifTable.{VifValue, has_device}
use Rattle.mc_asked.specs.declared.forwarding.RouterState.{RouterState}
use Rattle.mc_asked.specs.declared.forwarding.RouterState.TheVariants.{Nothing, EverySource, NoneOut}
use Rattle.mc_asked.specs.declared.forwarding.RouterState.TheVariants.{Forwards}
use Rattle.mc_theory.specs.Lists.{below}
use Rattle.mc_asked.specs.ListWants.{Want, any_source}

-- whether copies that go out by the vif can reach a LAN: it has a line in the vif table and a device, and
-- isn't a register vif
abbrev pub is_lan_vif : Option VifValue → Bool
is_lan_vif None = false
is_lan_vif (Some vif) = has_device vif && not vif.register

-- whether an outgoing vif of an entry is such a vif
abbrev pub goes_to_lan : FinMap nat_cmp VifValue → Oif → Bool
goes_to_lan vifs oif = is_lan_vif (get vifs oif.vif)

-- whether an entry has an outgoing vif by which copies can reach a LAN
abbrev pub is_forwarded : FinMap nat_cmp VifValue → Option EntryValue → Bool
is_forwarded vifs None = false
is_forwarded vifs (Some entry) = list_any (goes_to_lan vifs) entry.oifs

-- whether entries of source `origin` count for a want of their group: if the want is of any source, those
-- that the filter of at least one of its LANs admits (that aren't unadmitted), and otherwise those of its own
-- source
abbrev pub is_counted_source : (unadmitted : List ℕ) → Want → ℕ → Bool
is_counted_source unadmitted want origin =
    if want.1 == any_source then not (has unadmitted origin) else origin == want.1

-- whether a row counts for a want: it is resolved, of the want's group and of such a source
abbrev pub is_counted : (unadmitted : List ℕ) → Want → RowValue → Bool
is_counted unadmitted want row =
    is_some row.entry && ((row.group == want.0)
    && (not (row.origin == 0) && is_counted_source unadmitted want row.origin))

-- whether a row is resolved and for every source, of the want's group or of every group
abbrev pub is_for_every_source : Want → RowValue → Bool
is_for_every_source want row =
    is_some row.entry && ((row.origin == 0) && ((row.group == want.0) || (row.group == 0)))

-- what the rows of a router have for a want, the first of these that holds: an entry that forwards to a LAN,
-- one that counts, one for every source, or nothing
abbrev pub router_state : FinMap nat_cmp VifValue → (unadmitted : List ℕ) → Want → List RowValue → RouterState
router_state vifs unadmitted want rows =
    if list_any (λ row. is_counted unadmitted want row && is_forwarded vifs row.entry) rows then Forwards
    else (if list_any (is_counted unadmitted want) rows then NoneOut
    else (if list_any (is_for_every_source want) rows then EverySource else Nothing))

-- the resolved row of a source and a group, with this entry
abbrev pub row_of : ℕ × ℕ → EntryValue → RowValue
row_of key entry = record { group = key.1; origin = key.0; entry = Some entry }

-- of two states the one that comes first in that order
abbrev pub greater : RouterState → RouterState → RouterState
greater Forwards other = Forwards
greater NoneOut Forwards = Forwards
greater NoneOut NoneOut = NoneOut
greater NoneOut EverySource = NoneOut
greater NoneOut Nothing = NoneOut
greater EverySource Forwards = Forwards
greater EverySource NoneOut = NoneOut
greater EverySource EverySource = EverySource
greater EverySource Nothing = EverySource
greater Nothing other = other

-- ---- the routers by their states

-- whether two states are the same
abbrev pub is_same_state : RouterState → RouterState → Bool
is_same_state Nothing Nothing = true
is_same_state EverySource EverySource = true
is_same_state NoneOut NoneOut = true
is_same_state Forwards Forwards = true
is_same_state state other = false

-- whether a router, if there is one, is in this state
abbrev pub has_state : RouterState → Option RouterState → Bool
has_state state None = false
has_state state (Some own) = is_same_state state own

-- the routers that are in a state, in order, by the state of each
abbrev pub routers_in : RouterState → List RouterState → List ℕ
routers_in state states = filter (λ router. has_state state (slice_get states router))
    (below (length states))
