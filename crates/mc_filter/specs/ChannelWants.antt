-- Whether the reports of a LAN ask for no more than channels: pairs of a source and a group (RFC
-- 4607, section 1).
use Rattle.std.specs.Prelude.{ℕ, ◌==◌, ◌&&◌, Bool, IsTrue, List, Contains}
use Rattle.std.specs.List.{All, list_any}
use Rattle.mc_igmp.specs.declared.record.Record.{Record}
use Rattle.mc_igmp.specs.declared.record.Kind.{Kind}
use Rattle.mc_igmp.specs.declared.record.Kind.TheVariants as kind
use Rattle.mc_filter.specs.FilterBuilding.{wanted}

-- whether a channel of the group is wanted
abbrev pub is_wanted_group : (channels : List (ℕ × ℕ)) → List Record → ℕ → Bool
is_wanted_group channels records group =
    list_any (λ channel. (channel.1 == group) && wanted records group channel.0) channels

-- A record of a kind asks for no more than the channels. EXCLUDE asks for its group from any
-- source, and a wanted channel of the group answers that. INCLUDE asks for the group from each
-- source of its list, and each of these makes a channel. Other kinds ask for nothing.
abbrev pub AreAllOfKind : Kind → (channels : List (ℕ × ℕ)) → List Record → (group : ℕ) → (sources : List ℕ)
    → Type 0
AreAllOfKind kind.Exclude channels records group sources = IsTrue (is_wanted_group channels records group)
AreAllOfKind kind.Include channels records group sources =
    All (λ source. Contains channels (source, group)) sources
AreAllOfKind (kind.Change type) channels records group sources = Unit {0}
AreAllOfKind (kind.Unknown type) channels records group sources = Unit {0}

-- the records ask for no more than the channels
abbrev pub AreAllAskedFor : (channels : List (ℕ × ℕ)) → List Record → Type 0
AreAllAskedFor channels records =
    All (λ asked. AreAllOfKind asked.kind channels records asked.group asked.sources) records
