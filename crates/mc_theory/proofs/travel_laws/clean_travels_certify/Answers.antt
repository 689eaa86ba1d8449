-- By the copies of the first.
use Rattle.mc_theory.proofs.Travels.{is_accepted-from_clean_travels}
use Rattle.mc_theory.proofs.travel_laws.clean_travels_certify.Goals as goal

pub returns : goal.returns
returns c = λ n count net wants low high numbers last is travel numbers' last' js other.
    is_accepted-from_clean_travels n count numbers last is numbers' last' js net wants low high travel other
