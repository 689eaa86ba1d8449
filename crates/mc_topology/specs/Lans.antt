-- The key `lans` of a topology: the LANs that are read, or the first fault. Faults have the order
-- of docs/FORMATS.md.
use Rattle.std.specs.Prelude.{ℕ, not, nat_le, List, [], length, codes, Bool, Result, Ok, Err}
use Rattle.std.specs.Prelude.{if◌then◌else◌}
use Rattle.std.specs.List.{list_any}
use Rattle.std.specs.Str.{bytes_eq}
use Rattle.toml.specs.Data.{Data, Members}
use Rattle.mc_topology.specs.declared.fault.Section.TheVariants.{Lans}
use Rattle.mc_topology.specs.declared.fault.TopologyFaultKind.{TopologyFaultKind}
use Rattle.mc_topology.specs.declared.fault.TopologyFaultKind.TheVariants.{BadName, RepeatedName}
use Rattle.mc_topology.specs.declared.fault.TopologyFaultKind.TheVariants.{TooMany}
use Rattle.mc_topology.specs.declared.fault.TopologyFault.{TopologyFault}
use Rattle.mc_text.specs.Steps.{◌>>=◌}
use Rattle.mc_topology.specs.Faults.{locate_fault}
use Rattle.mc_topology.specs.EachRow.{each_row}
use Rattle.mc_topology.specs.Document.{text_of, list_at}
use Rattle.mc_topology.specs.Names.{is_name}

-- whether a LAN has the name
abbrev pub has_lan : List ℕ → List (List ℕ) → Bool
has_lan name lans = list_any (λ lan. bytes_eq lan name) lans

-- A LAN's name. It has to be a text (else BadKind), then one that can be a name (BadName), and then
-- one that no earlier LAN has (RepeatedName).
unfoldable pub lan_name_of : List (List ℕ) → Data → Result (List ℕ) TopologyFaultKind
lan_name_of earlier value = do
  name ← text_of value
  if not (is_name name) then Err BadName
      else if has_lan name earlier then Err RepeatedName else Ok name

-- The values of the list. It has to be there (else MissingKey), to be a list (BadKind), and to have
-- at most 1,024 values (TooMany), in this order.
unfoldable pub lan_rows : Members → Result (List Data) TopologyFaultKind
lan_rows members = do
  rows ← list_at (codes "lans") members
  if nat_le (length rows) 1024 then Ok rows else Err TooMany

-- The LANs: first the list, whose faults have the number 0, and then each name from the front,
-- whose faults have its number, counted from 1.
unfoldable pub lans_in : Members → Result (List (List ℕ)) TopologyFault
lans_in members = do
  rows ← locate_fault Lans 0 (lan_rows members)
  each_row Lans lan_name_of [] rows
