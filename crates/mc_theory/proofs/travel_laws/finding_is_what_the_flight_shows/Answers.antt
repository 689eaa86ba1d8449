-- By what each finding is made of.
use Rattle.mc_theory.proofs.FindingMeaning.{shows-travel_finding}
use Rattle.mc_theory.proofs.travel_laws.finding_is_what_the_flight_shows.Goals as goal

pub returns : goal.returns
returns c = λ n count t x wants numbers last is travel.
    shows-travel_finding n count t numbers last is x wants travel
