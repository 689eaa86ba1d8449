-- What the hosts of a LAN want (RFC 3376, section 3.2), by the records of their answers to one
-- General Query.
use Rattle.std.specs.Prelude.{◌≡◌, ◌↔◌, ℕ, List, Contains}
use Rattle.std.specs.List.{Any}
use Rattle.mc_igmp.specs.declared.record.Record.{Record}
use Rattle.mc_igmp.specs.declared.record.Kind.{Kind}
use Rattle.mc_igmp.specs.declared.record.Kind.TheVariants.{Include, Exclude, Change, Unknown}

-- A record of a kind with these sources admits a source: MODE_IS_INCLUDE admits the sources in its
-- list, MODE_IS_EXCLUDE all that are not in it, and any other type none.
abbrev pub AdmitsBy : Kind → List ℕ → ℕ → Type 0
AdmitsBy Include sources source = Contains sources source
AdmitsBy Exclude sources source = ¬ (Contains sources source)
AdmitsBy (Change type) sources source = ⊥
AdmitsBy (Unknown type) sources source = ⊥

-- the record admits the source
abbrev pub Admits : Record → ℕ → Type 0
Admits group_record source = AdmitsBy group_record.kind group_record.sources source

-- a LAN wants what a source sends to a group if some record for the group admits the source
abbrev pub Wants : List Record → ℕ → ℕ → Type 0
Wants records group source =
    Any (λ group_record. (group_record.group ≡ group) × Admits group_record source) records

-- each of these records is in the list
abbrev pub IsListed : (records list : List Record) → Type 0
IsListed records list = (group_record : Record) → Contains records group_record → Contains list group_record

-- A record is in the one list exactly if it is in the other: the lists have the same records, whatever their
-- order and however often each is there. What hosts want depends on nothing else.
abbrev pub HaveSameRecords : (some others : List Record) → Type 0
HaveSameRecords some others =
    (group_record : Record) → Contains some group_record ↔ Contains others group_record
