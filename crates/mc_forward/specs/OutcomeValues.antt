-- The outcomes that the code answers, and those of the theory (`Events` of mc_theory), as each
-- other's values.
use Rattle.std.specs.Prelude.{◌≡◌, refl}
use Rattle.mc_theory.specs.Events.{Outcome as Value}
use Rattle.mc_theory.specs.Events.Outcome.{Open as open_row, NoRow as no_row, OtherVif as other_vif}
use Rattle.mc_theory.specs.Events.Outcome.{Sent as sent}
use Rattle.mc_forward.specs.declared.event.Outcome.{Outcome}
use Rattle.mc_forward.specs.declared.event.Outcome.TheVariants.{Open, NoRow, OtherVif, Sent}

-- what an answered outcome is in the theory
abbrev pub outcome_value : Outcome → Value
outcome_value Open = open_row
outcome_value NoRow = no_row
outcome_value OtherVif = other_vif
outcome_value (Sent copies strays) = sent copies strays

-- the answered outcome that is this one in the theory
abbrev pub outcome_of_value : Value → Outcome
outcome_of_value open_row = Open
outcome_of_value no_row = NoRow
outcome_of_value other_vif = OtherVif
outcome_of_value (sent copies strays) = Sent copies strays

-- each answered outcome is found again by what it is in the theory
pub outcome_of_value-outcome_value : (o : Outcome) → outcome_of_value (outcome_value o) ≡ o
outcome_of_value-outcome_value Open = refl
outcome_of_value-outcome_value NoRow = refl
outcome_of_value-outcome_value OtherVif = refl
outcome_of_value-outcome_value (Sent copies strays) = refl
