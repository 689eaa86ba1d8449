-- The topology that a text is read as, or its first fault. Faults have the order of
-- docs/FORMATS.md. `ms` is the TOML table of the text: its keys, each with its value.
use Rattle.std.specs.Prelude.{ℕ, pos, nat_le, List, [], ◌∷◌, length, codes, Result, Ok, Err, ok_or}
use Rattle.std.specs.Prelude.{◌&&◌, if◌then◌else◌}
use Rattle.std.specs.Ordering.{int_eq}
use Rattle.std.specs.Str.{is_utf8}
use Rattle.mc_text.specs.Lines.{max_text}
use Rattle.toml.specs.Data.{Members}
use Rattle.toml.specs.Parse.{parse_document}
use Rattle.mc_topology.specs.declared.flow.Flow.{Flow}
use Rattle.mc_topology.specs.declared.fault.Section.TheVariants.{Top}
use Rattle.mc_topology.specs.declared.fault.TopologyFaultKind.{TopologyFaultKind}
use Rattle.mc_topology.specs.declared.fault.TopologyFaultKind.TheVariants.{NotToml, BadVersion}
use Rattle.mc_topology.specs.declared.fault.TopologyFaultKind.TheVariants.{UnknownKey, TooMany}
use Rattle.mc_topology.specs.declared.fault.TopologyFault.{TopologyFault}
use Rattle.mc_text.specs.Steps.{◌>>=◌}
use Rattle.mc_topology.specs.Faults.{locate_fault}
use Rattle.mc_topology.specs.Bounds.{is_bounded}
use Rattle.mc_topology.specs.SectionRows.{RouterRow, InterfaceRow, SourceRow}
use Rattle.mc_topology.specs.Document.{has_only, number_at}
use Rattle.mc_topology.specs.Lans.{lans_in}
use Rattle.mc_topology.specs.Routers.{routers_in}
use Rattle.mc_topology.specs.Interfaces.{interfaces_in}
use Rattle.mc_topology.specs.Sources.{sources_in}
use Rattle.mc_topology.specs.Flows.{flows_in}
use Rattle.mc_topology.specs.Topology.{TopologyValue}

-- the text, which has to be UTF-8 (else NotToml)
abbrev pub require_utf8 : List ℕ → Result (List ℕ) TopologyFaultKind
require_utf8 text = if is_utf8 text then Ok text else Err NotToml

-- the table of a text, which has to be UTF-8 and TOML (else NotToml)
unfoldable pub parse_toml : List ℕ → Result Members TopologyFaultKind
parse_toml text = require_utf8 text >>= λ utf8. ok_or (parse_document utf8) NotToml

-- the table of a text, which has to have at most 16,777,216 bytes (else TooMany) and then to be
-- TOML
unfoldable pub table_of : List ℕ → Result Members TopologyFaultKind
table_of text = if nat_le (length text) max_text then parse_toml text else Err TooMany

-- the table of a text, which has to be within the bounds as well (else TooMany) before it is read
-- as TOML
unfoldable pub document_of : List ℕ → Result Members TopologyFaultKind
document_of text =
    if nat_le (length text) max_text && is_bounded text then parse_toml text else Err TooMany

-- the keys of a topology's table
abbrev pub top_keys : List (List ℕ)
top_keys =
    codes "version" ∷ codes "lans" ∷ codes "router" ∷ codes "interface" ∷ codes "source"
    ∷ codes "flow" ∷ []

-- A topology's table has to have no other keys than these (else UnknownKey), and its `version` has
-- to be there (MissingKey), to be a whole number (BadKind), and to be 1 (BadVersion).
unfoldable pub check_version : Members → Result (Unit {0}) TopologyFaultKind
check_version members =
    if has_only top_keys members
    then (number_at (codes "version") members >>= λ version.
    if int_eq version (pos 1) then Ok tt else Err BadVersion)
    else Err UnknownKey

-- the topology of a table: first its keys and its version, whose faults are at `top` 0, and then
-- the sections in this order, each with the ones before it that it names
unfoldable pub topology_in : Members → Result TopologyValue TopologyFault
topology_in members = do
  version ← locate_fault Top 0 (check_version members)
  lans ← lans_in members
  routers ← routers_in members
  interfaces ← interfaces_in lans routers members
  sources ← sources_in lans members
  flows ← flows_in sources members
  Ok (record {
    lans = lans;
    routers = routers;
    interfaces = interfaces;
    sources = sources;
    flows = flows;
  })

-- ---- the last steps of topology_in, for the contracts of private functions

-- the sources, each on one of these LANs, and the flows, each from one of the sources
unfoldable pub sources_and_flows_in : List (List ℕ) → Members
    → Result (List SourceRow × List Flow) TopologyFault
sources_and_flows_in lans members = do
  sources ← sources_in lans members
  flows ← flows_in sources members
  Ok (sources, flows)

-- the interfaces, the sources and the flows, after these LANs and routers
unfoldable pub interfaces_and_flows_in : List (List ℕ) → List RouterRow → Members
    → Result (List InterfaceRow × List SourceRow × List Flow) TopologyFault
interfaces_and_flows_in lans routers members = do
  interfaces ← interfaces_in lans routers members
  sourced ← sources_and_flows_in lans members
  Ok (interfaces, sourced.0, sourced.1)

-- ---- of a text

-- the topology of a text: first the text as a whole, whose faults are at `top` 0, and then its
-- table
unfoldable pub parse_topology : List ℕ → Result TopologyValue TopologyFault
parse_topology text = locate_fault Top 0 (document_of text) >>= topology_in

-- without the bounds: by it proofs show that a text denotes one topology at most
unfoldable pub parse_unbounded_topology : List ℕ → Result TopologyValue TopologyFault
parse_unbounded_topology text = locate_fault Top 0 (table_of text) >>= topology_in
