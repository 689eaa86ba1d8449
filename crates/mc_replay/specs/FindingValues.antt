-- The replayer's findings as values of the theory (Findings of mc_theory), and what one of them is found by.
use Rattle.std.specs.Prelude.{◌≡◌, ℕ, List, Option, Some, None, is_some}
use Rattle.mc_theory.specs.Flights.{Copy}
use Rattle.mc_theory.specs.Findings.{Finding as FindingValue, first_copy_on}
use Rattle.mc_forward.specs.PerLan.{item_on_lan}
use Rattle.mc_replay.specs.declared.finding.Finding.{Finding}
use Rattle.mc_replay.specs.declared.finding.Finding.TheVariants.{Clean, Duplicate, Loop, Stray}
use Rattle.mc_replay.specs.declared.finding.Finding.TheVariants.{Missed}

-- a finding of the replayer as one of the theory, about the same LAN, or the same router and vif
abbrev pub finding_value : Finding → FindingValue
finding_value Clean = FindingValue.Clean
finding_value (Duplicate lan) = FindingValue.Duplicate lan
finding_value (Loop lan) = FindingValue.Loop lan
finding_value (Stray router vif) = FindingValue.Stray router vif
finding_value (Missed lan) = FindingValue.Missed lan

-- the finding as one of the theory, if there is one
abbrev pub optional_finding_value : Option Finding → Option FindingValue
optional_finding_value None = None
optional_finding_value (Some finding) = Some (finding_value finding)

-- There is an item for a LAN exactly where that carried one of these copies.
abbrev pub HasItemWhereCarried : {A : Type 0} → List (Option A) → List Copy → Type 0
HasItemWhereCarried places copies =
    (lan : ℕ) → is_some (item_on_lan places lan) ≡ is_some (first_copy_on copies lan)
