-- Steps of reading a table, and faults with the lines where they are.
use Rattle.std.specs.Prelude.{ℕ, Bool, Option, Some, None, Result, Ok, Err, if◌then◌else◌}
use Rattle.mc_tables.specs.declared.fault.TableFault.{TableFault}
use Rattle.mc_tables.specs.declared.fault.TableFaultKind.{TableFaultKind}
use Rattle.mc_tables.specs.declared.fault.TableFaultKind.TheVariants.{Memory}

-- nothing, if the test passes, or else this fault
abbrev pub demand : {E : Type 0} → Bool → E → Result (Unit {0}) E
demand test fault = if test then Ok tt else Err fault

-- a result, whose fault is at this line
abbrev pub at_line : {A : Type 0} → ℕ → Result A TableFaultKind → Result A TableFault
at_line line (Ok x) = Ok x
at_line line (Err k) = Err (record { line = line; kind = k })

-- an earlier fault, if there was one, or else what is read
abbrev pub unless_fault : {A : Type 0} → Option TableFault → Result A TableFault
    → Result A TableFault
unless_fault None read = read
unless_fault (Some fault) read = Err fault

-- the fault that memory ran out, which no line has
abbrev pub out_of_memory : TableFault
out_of_memory = record { line = 0; kind = Memory }

-- a fault of this kind at a line; that memory ran out has no line
abbrev pub fault_at : ℕ → TableFaultKind → TableFault
fault_at line Memory = out_of_memory
fault_at line kind = record { line = line; kind = kind }
