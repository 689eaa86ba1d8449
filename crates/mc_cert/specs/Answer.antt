-- Steps of reading a certificate that may fail, the places of their faults, and how a call's result
-- agrees with a step's.
use Rattle.std.specs.Prelude.{◌≡◌, ℕ, List, ◌++◌, length, Result, codes, decimal}
use Rattle.mc_cert.specs.declared.fault.At.{At}
use Rattle.mc_cert.specs.declared.fault.At.TheVariants.{Top, Flow, FlowEntry, Tree}
use Rattle.mc_cert.specs.declared.fault.At.TheVariants.{TreeEntry}
use Rattle.mc_cert.specs.declared.fault.CertFaultKind.{CertFaultKind}
use Rattle.mc_cert.specs.declared.fault.CertFaultKind.TheVariants.{Memory}
use Rattle.mc_cert.specs.declared.fault.CertFault.{CertFault}
use Rattle.mc_text.specs.Steps as Steps
use Rattle.mc_text.specs.Steps.{map_fault}
use Rattle.mc_topology.specs.EachRow.{read_rows}

-- the result of a step, whose fault is at this place
abbrev pub locate_fault : {A : Type 0} → At → Result A CertFaultKind → Result A CertFault
locate_fault at = map_fault (λ kind. record { place = at; kind = kind })

-- the place of the entry with this number, in the flow or the tree at a place
abbrev pub entry_place : At → ℕ → At
entry_place Top entry = Top
entry_place (Flow flow) entry = FlowEntry flow entry
entry_place (FlowEntry flow old) entry = FlowEntry flow entry
entry_place (Tree tree) entry = TreeEntry tree entry
entry_place (TreeEntry tree old) entry = TreeEntry tree entry

-- the fault that a call which takes memory may give in place of any result: memory ran out
abbrev pub out_of_memory : CertFault
out_of_memory = record { place = Top; kind = Memory }

-- the fault is that memory ran out, which no certificate decides
abbrev pub IsOutOfMemory : CertFault → Type 0
IsOutOfMemory fault = fault ≡ out_of_memory

-- a call's result, seen through a view, is that of the step, unless memory runs out
abbrev pub Gives : {X Y : Type 0} → (X → Y) → Result X CertFault → Result Y CertFault → Type 0
Gives = Steps.Gives IsOutOfMemory

-- the earlier values, and after them those of the rows, each read by its number, counted from 0; or
-- the first fault
abbrev pub each_row : {D X : Type 0} → (ℕ → D → Result X CertFault) → List X → List D
    → Result (List X) CertFault
each_row one = read_rows (λ earlier. one (length earlier))

-- the text of a place, as a fault is printed with it
abbrev pub place_text : At → List ℕ
place_text Top = codes "top"
place_text (Flow flow) = codes "flow " ++ decimal flow
place_text (FlowEntry flow entry) = codes "flow " ++ decimal flow ++ codes " entry " ++ decimal entry
place_text (Tree tree) = codes "tree " ++ decimal tree
place_text (TreeEntry tree entry) = codes "tree " ++ decimal tree ++ codes " entry " ++ decimal entry
