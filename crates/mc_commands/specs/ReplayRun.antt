-- The answer and the text of `replay` (docs/FORMATS.md, the section "The program").
use Rattle.std.specs.Prelude.{◌≡◌, ℕ, ◌+◌, ◌<◌, ◌⊎◌, Bool, true, false, List, [], ◌∷◌, ◌++◌, codes}
use Rattle.std.specs.Prelude.{decimal, length, Some, slice_get}
use Rattle.mc_text.specs.Addr.{dotted}
use Rattle.mc_topology.specs.declared.flow.Flow.{Flow}
use Rattle.mc_topology.specs.Topology.{TopologyValue}
use Rattle.mc_theory.specs.Events.{Event}
use Rattle.mc_theory.specs.Findings.{Choices}
use Rattle.mc_forward.specs.Domains.{DomainValue}
use Rattle.mc_replay.specs.Travels.{IsRunOfChoices, replay_of}
use Rattle.mc_replay.specs.TravelText.{event_text, finding_text}
use Rattle.mc_replay.specs.declared.finding.Finding.{Finding}
use Rattle.mc_replay.specs.declared.finding.Finding.TheVariants.{Clean, Duplicate, Loop, Stray, Missed}
use Rattle.mc_replay.specs.declared.travel.Travel.{Travel}
use Rattle.mc_commands.specs.declared.fault.RunFault.{RunFault}
use Rattle.mc_commands.specs.declared.fault.RunFault.TheVariants.{Memory, NoSuchFlow}
use Rattle.mc_input.specs.Meaning.{MeansUncertifiedDomain, MeansDomainWhere}
use Rattle.mc_commands.specs.InputMeaning.{IsRefusedFor}

-- ---- the text

-- the line of an event
abbrev pub event_line : TopologyValue → Event → List ℕ
event_line topology event = codes "event " ++ (event_text topology event ++ codes "\n")

-- the lines of these events, in order
abbrev pub event_lines : TopologyValue → List Event → List ℕ
event_lines topology [] = []
event_lines topology (event ∷ events) = event_line topology event ++ event_lines topology events

-- the first line, with the TTL of the packet
abbrev pub replay_line : Flow → ℕ → List ℕ
replay_line flow ttl =
    codes "replay "
    ++ (dotted flow.source
    ++ (codes " " ++ (dotted flow.group ++ (codes " ttl " ++ (decimal ttl ++ codes "\n")))))

-- the last line
abbrev pub finding_line : TopologyValue → Finding → List ℕ
finding_line topology finding = codes "finding " ++ (finding_text topology finding ++ codes "\n")

-- the whole text of a travel
abbrev pub replay_text : TopologyValue → Flow → ℕ → Travel → List ℕ
replay_text topology flow ttl travel =
    replay_line flow ttl ++ (event_lines topology travel.events.items
    ++ finding_line topology travel.finding)

-- whether the finding is `Clean`
abbrev pub is_clean : Finding → Bool
is_clean Clean = true
is_clean (Duplicate lan) = false
is_clean (Loop lan) = false
is_clean (Stray router vif) = false
is_clean (Missed lan) = false

-- ---- answers

-- The domain's topology lists the flow with this number, counted from 1, and this is the text of the travel
-- of a packet of that flow with this TTL, by the picker's choices. The answer is whether its finding is
-- `Clean`.
pub record IsTextOfTravel (domain : DomainValue) (flow ttl : ℕ) (choices : Choices) (clean : Bool)
    (written : List ℕ) : Type 0 where
  pub place : ℕ
  pub listed : Flow
  pub travel : Travel
  pub counted : flow ≡ place + 1
  pub matches : slice_get domain.topology.flows place ≡ Some listed
  pub runs : IsRunOfChoices (replay_of domain place ttl choices) travel
  pub answer : clean ≡ is_clean travel.finding
  pub spelled : written ≡ replay_text domain.topology listed ttl travel

-- The domain's topology lists no flow with this number, counted from 1, or memory ran out.
abbrev pub HasNoTravel : DomainValue → (flow : ℕ) → RunFault → Type 0
HasNoTravel domain flow fault =
    ((fault ≡ NoSuchFlow flow) × ((flow ≡ 0) ⊎ (length domain.topology.flows < flow)))
    ⊎ (fault ≡ Memory)

-- The bundle means a domain, and this is the text of that travel in it. The answer is whether its finding is
-- `Clean`.
abbrev pub IsTravelText : (flow ttl : ℕ) → Choices → List ℕ → Bool → List ℕ → Type 0
IsTravelText flow ttl choices text clean written =
    MeansDomainWhere MeansUncertifiedDomain (λ domain. IsTextOfTravel domain flow ttl choices clean
    written) text

-- The bundle means a domain whose topology lists no flow with this number, counted from 1.
abbrev pub HasNoFlow : (flow : ℕ) → List ℕ → Type 0
HasNoFlow flow =
    MeansDomainWhere MeansUncertifiedDomain (λ domain. (flow ≡ 0) ⊎ (length domain.topology.flows < flow))

-- This is the bundle's first fault, or the topology lists no such flow.
abbrev pub IsReplayRefused : (flow : ℕ) → List ℕ → RunFault → Type 0
IsReplayRefused flow text (NoSuchFlow number) = (number ≡ flow) × HasNoFlow flow text
IsReplayRefused flow text fault = IsRefusedFor false text fault
