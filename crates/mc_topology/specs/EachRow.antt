-- Rows that are read one after another, each in view of the values of those before it; the first that is
-- refused gives the fault.
use Rattle.std.specs.Prelude.{◌+◌, List, [], ◌∷◌, ◌++◌, length, Result, Ok}
use Rattle.mc_text.specs.Steps.{◌>>=◌}
use Rattle.mc_topology.specs.declared.fault.Section.{Section}
use Rattle.mc_topology.specs.declared.fault.TopologyFaultKind.{TopologyFaultKind}
use Rattle.mc_topology.specs.declared.fault.TopologyFault.{TopologyFault}
use Rattle.mc_topology.specs.Faults.{locate_fault}

-- the earlier values, and after them those of the rows, or the first fault; `read` gives the value of a row
-- by the values of all rows before it
unfoldable pub read_rows : {D X E : Type 0} → (read : List X → D → Result X E) → (earlier : List X)
    → List D → Result (List X) E
read_rows read earlier [] = Ok earlier
read_rows read earlier (row ∷ rows) =
    read earlier row >>= λ value. read_rows read (earlier ++ value ∷ []) rows

-- the values of a section's rows, after the earlier ones, where a fault has the number of its row,
-- counted from 1
abbrev pub each_row : {D X : Type 0} → Section → (read : List X → D → Result X TopologyFaultKind)
    → (earlier : List X) → List D → Result (List X) TopologyFault
each_row section read =
    read_rows (λ earlier row. locate_fault section (length earlier + 1) (read earlier row))
