-- How an audit prints the first fault of a file: its place in the file, and its kind (docs/FORMATS.md, the
-- section "The program"). The kinds are those of the sections on each file.
use Rattle.std.specs.Prelude.{ℕ, ◌==◌, List, ◌++◌, Option, Some, None, if◌then◌else◌, codes, decimal}
use Rattle.mc_text.specs.Lines.{max_text}
use Rattle.mc_igmp.specs.declared.fault.ListFault.{ListFault}
use Rattle.mc_igmp.specs.declared.fault.ListFaultKind.{ListFaultKind}
use Rattle.mc_igmp.specs.declared.fault.ListFaultKind.TheVariants as list
use Rattle.mc_tables.specs.declared.fault.TableFault.{TableFault}
use Rattle.mc_tables.specs.declared.fault.TableFaultKind.{TableFaultKind}
use Rattle.mc_tables.specs.declared.fault.TableFaultKind.TheVariants as table
use Rattle.mc_topology.specs.Faults.{section_text}
use Rattle.mc_topology.specs.declared.fault.TopologyFault.{TopologyFault}
use Rattle.mc_topology.specs.declared.fault.TopologyFaultKind.{TopologyFaultKind}
use Rattle.mc_topology.specs.declared.fault.TopologyFaultKind.TheVariants as topology
use Rattle.mc_input.specs.declared.fault.InputFault.{InputFault}
use Rattle.mc_input.specs.declared.fault.InputFault.TheVariants.{Bundle, Parts, Topology, Vif, Cache}
use Rattle.mc_input.specs.declared.fault.InputFault.TheVariants.{Reports, Memory}

-- ---- the kinds of faults by their names

-- the kind of a fault of a kernel's table
abbrev pub table_word : TableFaultKind → List ℕ
table_word table.NoHeader = codes "NoHeader"
table_word table.Unended = codes "Unended"
table_word table.WordCount = codes "WordCount"
table_word table.BadIndex = codes "BadIndex"
table_word table.BadDevice = codes "BadDevice"
table_word table.BadCounter = codes "BadCounter"
table_word table.BadFlags = codes "BadFlags"
table_word table.BadAddress = codes "BadAddress"
table_word table.RepeatedIndex = codes "RepeatedIndex"
table_word table.RepeatedDevice = codes "RepeatedDevice"
table_word table.BadIif = codes "BadIif"
table_word table.BadOif = codes "BadOif"
table_word table.BadThreshold = codes "BadThreshold"
table_word table.RepeatedOif = codes "RepeatedOif"
table_word table.RepeatedEntry = codes "RepeatedEntry"
table_word table.TooLarge = codes "TooLarge"
table_word table.Memory = codes "Memory"

-- the kind of a fault of a report list
abbrev pub list_word : ListFaultKind → List ℕ
list_word list.BadHex = codes "BadHex"
list_word list.Short = codes "Short"
list_word list.BadChecksum = codes "BadChecksum"
list_word list.Truncated = codes "Truncated"
list_word list.StateChange = codes "StateChange"
list_word list.TooLarge = codes "TooLarge"
list_word list.Unended = codes "Unended"
list_word list.Memory = codes "Memory"

-- the kind of a fault of a topology
abbrev pub topology_word : TopologyFaultKind → List ℕ
topology_word topology.NotToml = codes "NotToml"
topology_word topology.BadVersion = codes "BadVersion"
topology_word topology.MissingKey = codes "MissingKey"
topology_word topology.UnknownKey = codes "UnknownKey"
topology_word topology.BadKind = codes "BadKind"
topology_word topology.BadName = codes "BadName"
topology_word topology.RepeatedName = codes "RepeatedName"
topology_word topology.UnknownName = codes "UnknownName"
topology_word topology.RepeatedInterface = codes "RepeatedInterface"
topology_word topology.BadAddress = codes "BadAddress"
topology_word topology.BadTtl = codes "BadTtl"
topology_word topology.NoFlow = codes "NoFlow"
topology_word topology.RepeatedFlow = codes "RepeatedFlow"
topology_word topology.TooMany = codes "TooMany"
topology_word topology.Memory = codes "Memory"

-- ---- faults with their places

-- a fault of a kernel's table, such as `line 3: BadIif`
abbrev pub table_fault_text : TableFault → List ℕ
table_fault_text fault =
    codes "line " ++ (decimal fault.line ++ (codes ": " ++ table_word fault.kind))

-- a fault of a report list, such as `line 3 record 1: StateChange`
abbrev pub list_fault_text : ListFault → List ℕ
list_fault_text fault =
    codes "line " ++ (decimal fault.line
    ++ (codes " record " ++ (decimal fault.record_no ++ (codes ": " ++ list_word fault.kind))))

-- a fault of a topology, such as `router 2: BadName`
abbrev pub topology_fault_text : TopologyFault → List ℕ
topology_fault_text fault =
    section_text fault.section
    ++ (codes " " ++ (decimal fault.number ++ (codes ": " ++ topology_word fault.kind)))

-- that a file is larger than a bundle's part may be
abbrev pub too_large_text : List ℕ
too_large_text = codes "larger than " ++ (decimal max_text ++ codes " bytes")

-- A file's first fault. Of the last three kinds a file has only that of a bundle whose part is too large:
-- `Parts` is of a whole bundle, and no file is refused because memory ran out.
abbrev pub fault_text : InputFault → List ℕ
fault_text (Topology fault) = topology_fault_text fault
fault_text (Vif name fault) = table_fault_text fault
fault_text (Cache name fault) = table_fault_text fault
fault_text (Reports name fault) = list_fault_text fault
fault_text (Bundle fault) = too_large_text
fault_text (Parts place) = too_large_text
fault_text Memory = too_large_text

-- ---- the line of a fault

-- the number of a line, counted from 1; none for 0
abbrev pub line_or_none : ℕ → Option ℕ
line_or_none line = if line == 0 then None else Some line

-- the number of the line that has the fault, if one has it
abbrev pub line_of_fault : InputFault → Option ℕ
line_of_fault (Vif name fault) = line_or_none fault.line
line_of_fault (Cache name fault) = line_or_none fault.line
line_of_fault (Reports name fault) = line_or_none fault.line
line_of_fault (Topology fault) = None
line_of_fault (Bundle fault) = None
line_of_fault (Parts place) = None
line_of_fault Memory = None
