-- What a verdict of `check` means for a flow's list of entries (a certificate's): what a yes and a no say of
-- the list, and what a yes promises of the flow. The words are those of mc_theory: Certificates, Reasons and
-- Headline.
use Rattle.std.specs.Prelude.{◌≡◌, ℕ, Bool, true, false, IsTrue, ◌↔◌, List, length, slice_get}
use Rattle.std.specs.Prelude.{Option, Some, None, ⊤}
use Rattle.mc_theory.specs.Nets.{Net}
use Rattle.mc_theory.specs.Flights.{EveryRun}
use Rattle.mc_theory.specs.Certificates.{Entry, IsAccepted, IsSafe, IsDeliveredWhole, IsRight}
use Rattle.mc_theory.specs.Headline.{HeadlineHolds}
use Rattle.mc_theory.specs.Reasons.{first_reason}
use Rattle.mc_forward.specs.Domains.{DomainValue, net_of}
use Rattle.mc_check.specs.Reasons.{reason_value}
use Rattle.mc_check.specs.declared.verdict.Reason.{Reason}
use Rattle.mc_check.specs.declared.verdict.Verdict.{Verdict}
use Rattle.mc_check.specs.declared.verdict.Verdict.TheVariants.{Yes, No}

-- ---- what a verdict says of the list

-- P holds of the number of copies, where the verdict is yes
abbrev pub IfYes : Verdict → (ℕ → Type 0) → Type 0
IfYes (Yes copy_count) P = P copy_count
IfYes (No reason) P = ⊤

-- P holds of the reason, where the verdict is no
abbrev pub IfNo : Verdict → (Reason → Type 0) → Type 0
IfNo (Yes copy_count) P = ⊤
IfNo (No reason) P = P reason

-- whether the verdict is yes
abbrev pub is_yes : Verdict → Bool
is_yes (Yes copy_count) = true
is_yes (No reason) = false

-- the verdict on a list of `copy_count` entries of which this is the first reason, if there is one
abbrev pub verdict_by : Option Reason → ℕ → Verdict
verdict_by None copy_count = Yes copy_count
verdict_by (Some reason) copy_count = No reason

-- The verdict is yes exactly where the list is accepted: where it certifies the flow.
abbrev pub YesIffAccepted : Net → List Entry → Verdict → Type 0
YesIffAccepted net entries verdict = IsTrue (is_yes verdict) ↔ IsAccepted net entries

-- A yes has the number of the list's entries.
abbrev pub YesCountsEntries : Net → List Entry → Verdict → Type 0
YesCountsEntries net entries verdict = IfYes verdict (λ copy_count. copy_count ≡ length entries)

-- A no has the first reason against the list. LANs are numbered below `count`.
abbrev pub NoGivesFirstReason : ℕ → Net → List Entry → Verdict → Type 0
NoGivesFirstReason count net entries verdict =
    IfNo verdict (λ reason. first_reason net count entries ≡ Some (reason_value reason))

-- ---- what a yes promises of the flow, in whatever order copies are handled or lost

-- After a yes every run of a packet with a TTL from 1 to 255, complete or not, is safe.
abbrev pub YesIsSafe : Net → List Entry → Verdict → Type 0
YesIsSafe net entries verdict = IfYes verdict (λ copy_count. EveryRun net 1 (IsSafe net entries))

-- After a yes every complete run without loss reaches exactly the named LANs whose need the packet's TTL
-- meets.
abbrev pub YesDelivers : Net → List Entry → Verdict → Type 0
YesDelivers net entries verdict = IfYes verdict (λ copy_count. EveryRun net 1 (IsDeliveredWhole entries))

-- After a yes the flow is right.
abbrev pub YesIsRight : Net → List Entry → Verdict → Type 0
YesIsRight net entries verdict = IfYes verdict (λ copy_count. IsRight net)

-- After a yes the headline holds for the flow, with no more copies than the verdict says.
abbrev pub YesKeepsHeadline : Net → List Entry → Verdict → Type 0
YesKeepsHeadline net entries verdict = IfYes verdict (λ copy_count. HeadlineHolds net copy_count)

-- All of this holds of the verdict.
pub record IsCorrectVerdict (count : ℕ) (net : Net) (entries : List Entry)
    (verdict : Verdict) : Type 0 where
  pub accepted : YesIffAccepted net entries verdict
  pub copy_count : YesCountsEntries net entries verdict
  pub reason : NoGivesFirstReason count net entries verdict
  pub safe : YesIsSafe net entries verdict
  pub delivered : YesDelivers net entries verdict
  pub right : YesIsRight net entries verdict
  pub headline : YesKeepsHeadline net entries verdict

-- ---- the verdicts of all flows

-- P holds of each flow's net, list of entries and verdict.
abbrev pub HoldsForEachFlow : DomainValue → List (List Entry) → List Verdict
    → (Net → List Entry → Verdict → Type 0) → Type 0
HoldsForEachFlow domain lists verdicts P = (flow : ℕ) (entries : List Entry) (verdict : Verdict)
    → slice_get lists flow ≡ Some entries → slice_get verdicts flow ≡ Some verdict
    → P (net_of domain flow) entries verdict
