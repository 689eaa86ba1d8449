-- By delivery at the flow's TTL.
use Rattle.mc_theory.proofs.Travels.{is_clean-iff_served}
use Rattle.mc_theory.proofs.travel_laws.needs_decide_the_second_travel.Goals as goal

pub returns : goal.returns
returns c = λ n count es x net wants low high tree numbers last is travel.
    is_clean-iff_served n count es numbers last is x net wants low high tree travel
