-- What the result of examining a flow means: the entries of its certificate where the flow is right, and
-- otherwise a travel that shows a fault, with the TTL of its packet (docs/FORMATS.md, `make`).
use Rattle.std.specs.Prelude.{◌≡◌, ◌≢◌, ◌↔◌, ◌<◌, ◌≤◌, ℕ, Bool, true, false, All, IfSome, List, ⊤}
use Rattle.std.specs.Prelude.{length}
use Rattle.mc_theory.specs.Flights.{Copy}
use Rattle.mc_theory.specs.Lists.{In}
use Rattle.mc_theory.specs.Certificates.{Entry, IsReordering, IsTree, lans}
use Rattle.mc_theory.specs.Findings.Finding.{Clean}
use Rattle.mc_theory.specs.CertificateOfCopies.{entries_of}
use Rattle.mc_forward.specs.Domains.{DomainValue, net_of, ttl_of}
use Rattle.mc_replay.specs.FindingValues.{finding_value}
use Rattle.mc_replay.specs.Travels.{first_choices, replay_of, IsRunOfChoices}
use Rattle.mc_maker.specs.CleanRuns.{IsCleanRun}
use Rattle.mc_replay.specs.declared.travel.Travel.{Travel}
use Rattle.mc_maker.specs.declared.examination.Examined.{Examined}
use Rattle.mc_maker.specs.declared.examination.Examined.TheVariants.{Certified, Found}

-- The copies are of the domain's LANs and routers, each LAN that wants the flow carried one, and their
-- entries fulfil all conditions of a certificate but the last, with needs up to 255.
pub record AreCleanCopies (domain : DomainValue) (flow : ℕ) (copies : List Copy) : Type 0 where
  pub tree : IsTree (net_of domain flow) (entries_of (net_of domain flow) copies)
  pub needs : All (λ entry. entry.need ≤ 255) (entries_of (net_of domain flow) copies)
  pub reached : (lan : ℕ) → (net_of domain flow).wants lan ≡ true → In lan (lans copies)
  pub lans : All (λ copy. copy.lan < length domain.topology.lans) copies
  pub senders : All (λ copy. IfSome copy.sender (λ sender. sender.0 < length domain.topology.routers))
      copies

-- ---- the result

-- P holds of the entries, where the flow is certified
abbrev pub IfCertified : (List Entry → Type 0) → Examined → Type 0
IfCertified P (Certified entries) = P entries.items
IfCertified P (Found ttl travel) = ⊤

-- P holds of the TTL and the travel, where a fault is found
abbrev pub IfFound : (ℕ → Travel → Type 0) → Examined → Type 0
IfFound P (Certified entries) = ⊤
IfFound P (Found ttl travel) = P ttl travel

-- whether the flow is certified
abbrev pub is_certified : Examined → Bool
is_certified (Certified entries) = true
is_certified (Found ttl travel) = false

-- ---- travels in which the first waiting copy is handled each time

-- The travel is that of a packet of the flow with this TTL.
abbrev pub IsFirstPickTravel : DomainValue → (flow ttl : ℕ) → Travel → Type 0
IsFirstPickTravel domain flow ttl travel = IsRunOfChoices (replay_of domain flow ttl first_choices) travel

-- The travel finds nothing: its finding is `Clean`.
abbrev pub FindsNothing : Travel → Type 0
FindsNothing travel = finding_value travel.finding ≡ Clean

-- The travel finds a fault: its finding is another one.
abbrev pub FindsFault : Travel → Type 0
FindsFault travel = finding_value travel.finding ≢ Clean

-- P holds exactly if the travels at TTL 255 and at the flow's TTL both find nothing.
abbrev pub IffTravelsFindNothing : DomainValue → (flow : ℕ) → Type 0 → Type 0
IffTravelsFindNothing domain flow P = (first second : Travel) → IsFirstPickTravel domain flow 255 first
    → IsFirstPickTravel domain flow (ttl_of domain flow) second → P
    ↔ (FindsNothing first × FindsNothing second)

-- The TTL at which a fault is found is 255 if the travel at TTL 255 finds one, and otherwise the flow's.
pub record IsTtlOfFault (domain : DomainValue) (flow ttl : ℕ) : Type 0 where
  pub greatest : (travel : Travel) → IsFirstPickTravel domain flow 255 travel → FindsFault travel
      → ttl ≡ 255
  pub least : (travel : Travel) → IsFirstPickTravel domain flow 255 travel → FindsNothing travel
      → ttl ≡ ttl_of domain flow

-- The entries are those of the copies that were carried in the travel at TTL 255, which finds nothing, in
-- some order: each has its copy's LAN, as its rank 255 less its copy's TTL, and its copy's sender as its
-- forwarder.
pub record AreEntriesOfCleanTravel (domain : DomainValue) (flow : ℕ) (es : List Entry) : Type 0 where
  pub copies : List Copy
  pub run : IsCleanRun (net_of domain flow) (length domain.topology.lans) 255 copies
  pub entries : IsReordering (entries_of (net_of domain flow) copies) es
