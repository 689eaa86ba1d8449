-- The section `source` of a topology: the sources that are read, or the first fault. Faults have
-- the order of docs/FORMATS.md.
use Rattle.std.specs.Prelude.{ℕ, ◌==◌, List, [], ◌∷◌, codes, find, Bool, Option, option_map, Result}
use Rattle.std.specs.Prelude.{Ok, Err, ok_or, if◌then◌else◌}
use Rattle.std.specs.List.{list_any}
use Rattle.toml.specs.Data.{Data, Members}
use Rattle.mc_topology.specs.SectionRows.{SourceRow}
use Rattle.mc_topology.specs.declared.fault.Section.TheVariants as section
use Rattle.mc_topology.specs.declared.fault.TopologyFaultKind.{TopologyFaultKind}
use Rattle.mc_topology.specs.declared.fault.TopologyFaultKind.TheVariants.{UnknownName}
use Rattle.mc_topology.specs.declared.fault.TopologyFaultKind.TheVariants.{RepeatedName}
use Rattle.mc_topology.specs.declared.fault.TopologyFault.{TopologyFault}
use Rattle.mc_topology.specs.Addresses.{source_address_of}
use Rattle.mc_text.specs.Steps.{◌>>=◌}
use Rattle.mc_topology.specs.Faults.{locate_fault}
use Rattle.mc_topology.specs.EachRow.{each_row}
use Rattle.mc_topology.specs.Document.{known_table, text_at, rows_at}
use Rattle.mc_topology.specs.Names.{index_of}

-- the keys of a source's table
abbrev pub source_keys : List (List ℕ)
source_keys = codes "address" ∷ codes "lan" ∷ []

-- whether a source has the address
abbrev pub has_source : ℕ → List SourceRow → Bool
has_source address sources = list_any (λ row. row.address == address) sources

-- the LAN of the source with the address
abbrev pub lan_of_source : ℕ → List SourceRow → Option ℕ
lan_of_source address sources = option_map (λ row. row.lan) (find (λ row. row.address == address) sources)

-- The source of the two values. The first has to be the address of a host that may send (else
-- BadAddress), the second the name of a LAN (UnknownName). Last, no earlier source may have the
-- address (RepeatedName).
unfoldable pub source_of_values : List (List ℕ) → List SourceRow → List ℕ → List ℕ
    → Result SourceRow TopologyFaultKind
source_of_values lans earlier text lan_name = do
  address ← source_address_of text
  lan ← ok_or (index_of lan_name lans) UnknownName
  if has_source address earlier then Err RepeatedName
      else Ok (record { address = address; lan = lan })

-- A source. It has to be a table (else BadKind) with no other keys than these (UnknownKey). Then
-- come the keys `address` and `lan`, in this order: each has to be there (MissingKey) as a text
-- (BadKind). Then the values are checked, by `source_of_values`.
unfoldable pub source_of : List (List ℕ) → List SourceRow → Data
    → Result SourceRow TopologyFaultKind
source_of lans earlier value = do
  table ← known_table source_keys value
  text ← text_at (codes "address") table
  lan_name ← text_at (codes "lan") table
  source_of_values lans earlier text lan_name

-- The sources: first the section, which has to be a list (else BadKind) of at most 4,096 (TooMany)
-- and whose faults have the number 0, and then each source from the front, whose faults have its
-- number, counted from 1.
unfoldable pub sources_in : List (List ℕ) → Members → Result (List SourceRow) TopologyFault
sources_in lans members = do
  rows ← locate_fault section.Source 0 (rows_at (codes "source") 4096 members)
  each_row section.Source (source_of lans) [] rows
