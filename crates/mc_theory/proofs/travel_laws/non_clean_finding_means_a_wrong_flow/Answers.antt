-- By the run of its picks.
use Rattle.mc_theory.proofs.Travels.{not_right-from_fault_finding}
use Rattle.mc_theory.proofs.travel_laws.non_clean_finding_means_a_wrong_flow.Goals as goal

pub returns : goal.returns
returns c = λ n count t x net wants low high other numbers last is travel.
    not_right-from_fault_finding n count t numbers last is x net wants low high travel other
