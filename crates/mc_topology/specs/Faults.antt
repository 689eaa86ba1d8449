-- The place of a topology's fault: a section and the number of a row in it, counted from 1, or 0 for the
-- section as a whole (docs/FORMATS.md, section "Topology").
use Rattle.std.specs.Prelude.{ℕ, List, Result, codes}
use Rattle.mc_text.specs.Steps.{map_fault}
use Rattle.mc_topology.specs.declared.fault.Section.{Section}
use Rattle.mc_topology.specs.declared.fault.Section.TheVariants.{Top, Lans, Router, Interface}
use Rattle.mc_topology.specs.declared.fault.Section.TheVariants.{Source, Flow}
use Rattle.mc_topology.specs.declared.fault.TopologyFaultKind.{TopologyFaultKind}
use Rattle.mc_topology.specs.declared.fault.TopologyFault.{TopologyFault}

-- the result of a step, whose fault is placed in the row of a section with this number
abbrev pub locate_fault : {A : Type 0} → Section → ℕ → Result A TopologyFaultKind → Result A TopologyFault
locate_fault section number =
    map_fault (λ kind. record { section = section; number = number; kind = kind })

-- the word for a section in the text of a fault
abbrev pub section_text : Section → List ℕ
section_text Top = codes "top"
section_text Lans = codes "lans"
section_text Router = codes "router"
section_text Interface = codes "interface"
section_text Source = codes "source"
section_text Flow = codes "flow"
