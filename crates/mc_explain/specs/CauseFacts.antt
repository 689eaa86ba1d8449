-- What is true of each cause that an audit reports (docs/FORMATS.md, "The explanation of a finding"), by the
-- rows that the routers have for the flow. A cause is one line of what explains a fault.
use Rattle.std.specs.Prelude.{◌≡◌, ℕ, ◌<◌, ◌≤◌, ◌⊎◌, List, [], ◌∷◌, ◌++◌, map, reverse, length, Some}
use Rattle.std.specs.Prelude.{None}
use Rattle.mc_theory.specs.Lists.{In}
use Rattle.mc_theory.specs.Nets.{Net, Interface}
use Rattle.mc_theory.specs.Nets.Row.{Exact, Open}
use Rattle.mc_theory.specs.Flights.{Pick, InRange, IsLossless, run, start}
use Rattle.mc_theory.specs.Certificates.{lans}
use Rattle.mc_theory.specs.Findings.{Finding}
use Rattle.mc_theory.specs.Findings.Finding.{Clean, Missed}
use Rattle.mc_theory.specs.Paths.{Hop, IsHop, IsReached, IsReachedWithTtl, IsPath, IsStopped, need}
use Rattle.mc_theory.specs.Paths.{take_out}
use Rattle.mc_forward.specs.Domains.{DomainValue, IsDomain}
use Rattle.mc_replay.specs.FindingValues.{finding_value}
use Rattle.mc_maker.specs.ExaminedFlights.{HasExaminedFlights}
use Rattle.mc_maker.specs.declared.examined_flights.ExaminedFlights.{ExaminedFlights}
use Rattle.mc_maker.specs.declared.examined_flights.ExaminedFlights.TheVariants.{Certified, FoundAtTtl255}
use Rattle.mc_maker.specs.declared.examined_flights.ExaminedFlights.TheVariants.{FoundAtFlowTtl}
use Rattle.mc_explain.specs.declared.causes.Cause.{Cause}
use Rattle.mc_explain.specs.declared.causes.Cause.TheVariants.{TakeOut, LeastTtl, StoppedAt}
use Rattle.mc_explain.specs.Explained.{IsExplained, circle_cause}

-- The flow is one of a domain, and was examined with these flights.
pub record IsExaminedFlow (d : DomainValue) (flow : ℕ) (flights : ExaminedFlights) : Type 0 where
  pub domain : IsDomain d
  pub listed : flow < length d.topology.flows
  pub examined : HasExaminedFlights d flow flights

-- The causes explain what was found of a flow, which was examined with these flights.
pub record AreCausesOf (domain : DomainValue) (flow : ℕ) (flights : ExaminedFlights)
    (causes : List Cause) : Type 0 where
  pub examined : IsExaminedFlow domain flow flights
  pub explained : IsExplained domain flow flights causes

-- The cause is reported for this flow: it is among the causes of the flow's examination.
pub record IsReported (domain : DomainValue) (flow : ℕ) (cause : Cause) : Type 0 where
  pub flights : ExaminedFlights
  pub causes : List Cause
  pub of_flow : AreCausesOf domain flow flights causes
  pub listed : In cause causes

-- what an examination found, with TTL 255 or else with the flow's TTL; `Clean` of a right flow
abbrev pub final_finding : ExaminedFlights → Finding
final_finding (Certified entries) = Clean
final_finding (FoundAtTtl255 ended) = finding_value ended.travel.finding
final_finding (FoundAtFlowTtl greatest least) = finding_value least.travel.finding

-- ---- rows

-- The router's row is exact, and has a pair of this vif and this threshold.
pub record HasPair (net : Net) (router vif threshold : ℕ) : Type 0 where
  pub incoming : ℕ
  pub pairs : List (ℕ × ℕ)
  pub row : net.row router ≡ Exact incoming pairs
  pub pair : In (vif, threshold) pairs

-- The router's exact row has a pair of the vif, which is placed on this LAN.
pub record SendsOnto (net : Net) (router vif lan : ℕ) : Type 0 where
  pub threshold : ℕ
  pub has : HasPair net router vif threshold
  pub placed : net.placed router vif ≡ Some lan

-- The router's exact row has a pair of the vif, which is placed on no LAN.
pub record LeadsOut (net : Net) (router vif : ℕ) : Type 0 where
  pub threshold : ℕ
  pub has : HasPair net router vif threshold
  pub unplaced : net.placed router vif ≡ None

-- The router's row for the flow is open: it has no (S,G) entry, but one for every source. The vif is placed
-- on a LAN that the flow's packets reach, whatever their TTL.
pub record ReachesEverySourceRow (net : Net) (router vif : ℕ) : Type 0 where
  pub row : net.row router ≡ Open
  pub lan : ℕ
  pub placed : net.placed router vif ≡ Some lan
  pub reached : IsReached net lan

-- ---- a circle

-- The causes are the hops of a path from the LAN back to the LAN itself, in order, and then a remedy.
pub record IsClosedCircle (net : Net) (lan : ℕ) (causes : List Cause) : Type 0 where
  pub first : Hop
  pub others : List Hop
  pub remedy : Cause
  pub lines : causes ≡ reverse (map circle_cause (first ∷ others)) ++ remedy ∷ []
  pub closed : IsPath net lan (first ∷ others) lan

-- ---- a remedy

-- With the interface taken out, a path with this need still leads to the LAN.
pub record StaysReached (net : Net) (interface : Interface) (lan least : ℕ) : Type 0 where
  pub path : List Hop
  pub is_path : IsPath (take_out interface net) net.source path lan
  pub least_is : need path ≡ least

-- The LANs that packets sent with this TTL reach in a net they also reach in the net `left`.
abbrev pub ReachesAsMuch : (left net : Net) → (ttl : ℕ) → Type 0
ReachesAsMuch left net ttl = (lan : ℕ) → IsReachedWithTtl net ttl lan → IsReachedWithTtl left ttl lan

-- If `left_picks` are a complete run without loss of a packet with this TTL in the net `left`, then each LAN
-- that carries a copy in the run `picks` in the whole net carries one in that run in `left`, too.
abbrev pub CarriesAsMuch : (left net : Net) → (ttl : ℕ) → (left_picks picks : List Pick) → Type 0
CarriesAsMuch left net ttl left_picks picks =
    InRange left left_picks (start left ttl) → IsLossless left_picks
    → (run left left_picks (start left ttl)).waiting ≡ []
    → (lan : ℕ) → In lan (lans (run net picks (start net ttl)).carried)
    → In lan (lans (run left left_picks (start left ttl)).carried)

-- The vif is reported as a remedy, and the TTL, up to 255, is at least the least TTL that is reported with
-- it.
pub record IsRemedyForTtl (domain : DomainValue) (flow router vif ttl : ℕ) : Type 0 where
  pub lan : ℕ
  pub least : ℕ
  pub reported : IsReported domain flow (TakeOut lan router vif least)
  pub low : least ≤ ttl
  pub high : ttl ≤ 255

-- ---- a stop

-- The hop is on a path to the LAN, and a packet with the flow's TTL comes to the hop with TTL `left` and is
-- stopped there.
pub record StopsOnPath (net : Net) (hop : Hop) (left lan : ℕ) : Type 0 where
  pub path : List Hop
  pub leads : IsPath net net.source path lan
  pub is_hop : IsHop net hop
  pub stopped : IsStopped net.ttl path hop left

-- The causes name the least TTL that reaches some LAN, and `stop` names the hop on a path to that LAN at
-- which a packet with the flow's TTL is stopped, and the TTL with which it comes there.
pub record StopsShortOfLan (net : Net) (causes : List Cause) (stop : Cause) : Type 0 where
  pub lan : ℕ
  pub least : ℕ
  pub hop : Hop
  pub left : ℕ
  pub named : In (LeastTtl lan least) causes
  pub stops : StopsOnPath net hop left lan
  pub stop_is : stop ≡ StoppedAt hop.router hop.vif hop.threshold left

-- ---- the flow's TTL

-- Nothing is found, or a LAN is missed.
abbrev pub IsMissedOrClean : Finding → Type 0
IsMissedOrClean finding = (finding ≡ Clean) ⊎ ((lan : ℕ) × (finding ≡ Missed lan))
