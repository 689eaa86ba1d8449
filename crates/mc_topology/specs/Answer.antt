-- How a call's result agrees with that of the step of reading which the call makes. A call that takes memory
-- agrees with its step unless it answers that memory ran out.
use Rattle.std.specs.Prelude.{◌≡◌, Result, Ok, Err}
use Rattle.mc_topology.specs.declared.fault.Section.TheVariants.{Top}
use Rattle.mc_topology.specs.declared.fault.TopologyFault.{TopologyFault}
use Rattle.mc_topology.specs.declared.fault.TopologyFaultKind.TheVariants.{Memory}

-- a call's result, with `view` applied to its value, is that of the step
abbrev pub ResultsAgree : {X Y E : Type 0} → (X → Y) → Result X E → Result Y E → Type 0
ResultsAgree view (Ok x) step = step ≡ Ok (view x)
ResultsAgree view (Err fault) step = step ≡ Err fault

-- the fault that a call which takes memory may give in place of any result, since each allocation may fail:
-- it says nothing of the text, and stands at the top of the topology
abbrev pub out_of_memory : TopologyFault
out_of_memory = record { section = Top; number = 0; kind = Memory }
