-- The entries that are read of a flow or a tree, or the first fault. Each is a LAN that the packets
-- of a flow reach. Faults have the order of docs/FORMATS.md.
use Rattle.std.specs.Prelude.{ℕ, ◌+◌, List, [], ◌∷◌, codes, Option, Some, None, Result, Ok, Err}
use Rattle.std.specs.Prelude.{ok_or}
use Rattle.serde_json.specs.Data.{Data, Members}
use Rattle.serde_json.specs.Find.{get_member, as_u64}
use Rattle.mc_theory.specs.Nets.{Interface}
use Rattle.mc_theory.specs.Certificates.{Entry}
use Rattle.mc_text.specs.Steps.{◌>>=◌}
use Rattle.mc_topology.specs.Names.{index_of}
use Rattle.mc_topology.specs.SectionRows.{RouterRow}
use Rattle.mc_topology.specs.Lookup.{router_no_of}
use Rattle.mc_topology.specs.Topology.{TopologyValue}
use Rattle.mc_cert.specs.declared.fault.At.{At}
use Rattle.mc_cert.specs.declared.fault.CertFaultKind.{CertFaultKind}
use Rattle.mc_cert.specs.declared.fault.CertFaultKind.TheVariants.{MissingKey, UnknownName}
use Rattle.mc_cert.specs.declared.fault.CertFault.{CertFault}
use Rattle.mc_cert.specs.Answer.{locate_fault, entry_place, each_row}
use Rattle.mc_cert.specs.Object.{text_of, number_of, text_at, whole_at, in_range, object_of}

-- the keys of an entry's object
abbrev pub entry_keys : List (List ℕ)
entry_keys = codes "lan" ∷ codes "need" ∷ codes "rank" ∷ codes "router" ∷ codes "vif" ∷ []

-- the number of the LAN whose name is under `lan` (else UnknownName)
unfoldable pub lan_in : List (List ℕ) → Members → Result ℕ CertFaultKind
lan_in lans members = text_at (codes "lan") members >>= λ name. ok_or (index_of name lans) UnknownName

-- the number of the router whose name the value is (else UnknownName)
unfoldable pub router_of : List RouterRow → Data → Result ℕ CertFaultKind
router_of routers value = text_of value >>= λ name. ok_or (router_no_of name routers) UnknownName

-- the vif that a value has to be: a whole number up to 31 (else BadNumber)
unfoldable pub vif_of : Data → Result ℕ CertFaultKind
vif_of value = number_of value >>= λ integer. in_range 0 31 (as_u64 integer)

-- the interface of a router and its vif, if there are both; where there is one alone, the other is
-- missing (MissingKey)
unfoldable pub forwarder_of : List RouterRow → Option Data → Option Data
    → Result (Option Interface) CertFaultKind
forwarder_of routers None None = Ok None
forwarder_of routers None (Some value) = Err MissingKey
forwarder_of routers (Some value) None = router_of routers value >>= λ router. Err MissingKey
forwarder_of routers (Some value) (Some v) = do
  router ← router_of routers value
  vif ← vif_of v
  Ok (Some (router, vif))

-- An entry. It has to be an object (else BadKind) with no other keys than these (UnknownKey). Then
-- comes each key wholly before the next: `lan`, `need` and `rank` have to be there (MissingKey),
-- and `router` and `vif` each where the other one is (MissingKey); `lan` and `router` are texts and
-- the others numbers (BadKind); `need` is a whole number from 1 to 255, `rank` one up to 255 and
-- `vif` one up to 31 (BadNumber); a LAN and a router have the names (UnknownName).
unfoldable pub entry_of : TopologyValue → Data → Result Entry CertFaultKind
entry_of topology value = do
  members ← object_of entry_keys value
  lan ← lan_in topology.lans members
  need ← whole_at (codes "need") 1 255 members
  rank ← whole_at (codes "rank") 0 255 members
  forwarder ← forwarder_of topology.routers (get_member (codes "router") members)
      (get_member (codes "vif") members)
  Ok (record { lan = lan; rank = rank; need = need; forwarder = forwarder })

-- the entries of the flow or the tree at a place, each with its number, counted from 1; or the
-- first fault
unfoldable pub entries_in_rows : TopologyValue → At → List Data → Result (List Entry) CertFault
entries_in_rows topology at rows = each_row (λ n d. locate_fault (entry_place at (n + 1))
    (entry_of topology d)) [] rows
