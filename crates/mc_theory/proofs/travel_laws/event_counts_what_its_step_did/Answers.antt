-- Pair by pair.
use Rattle.mc_theory.proofs.EventCounts.{carried_length-step, strays_length-step}
use Rattle.mc_theory.proofs.travel_laws.event_counts_what_its_step_did.Goals as goal

pub returns-clause-copies : goal.returns-clause-copies
returns-clause-copies c = carried_length-step

pub returns-clause-strays : goal.returns-clause-strays
returns-clause-strays c = strays_length-step
