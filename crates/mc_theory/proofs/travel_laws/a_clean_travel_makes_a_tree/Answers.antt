-- By its copies.
use Rattle.mc_theory.proofs.Travels.{is_tree-from_clean_travel}
use Rattle.mc_theory.proofs.travel_laws.a_clean_travel_makes_a_tree.Goals as goal

pub returns : goal.returns
returns c = λ n count net numbers last is travel.
    is_tree-from_clean_travel n count numbers last is net travel
