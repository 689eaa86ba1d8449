-- Which causes explain the fault that an examination found (docs/FORMATS.md, "The explanation of a finding"),
-- by the rows that the routers have for the flow and by the flight that shows the fault.
use Rattle.std.specs.Prelude.{◌≡◌, ℕ, List, [], ◌∷◌, ◌++◌, map, reverse, Some, None, Option}
use Rattle.mc_theory.specs.Nets.{Net, Row, Interface}
use Rattle.mc_theory.specs.Nets.Row.{Exact, Open, NoRow}
use Rattle.mc_theory.specs.Flights.{Copy, Flight}
use Rattle.mc_theory.specs.Findings.{Finding, first_copy_on}
use Rattle.mc_theory.specs.Findings.Finding.{Clean, Duplicate, Loop, Stray, Missed}
use Rattle.mc_theory.specs.Paths.{Hop, CameByHops, CameFromLan, IsSpareInterface, IsStopped, need}
use Rattle.mc_forward.specs.Domains.{DomainValue, net_of}
use Rattle.mc_replay.specs.FindingValues.{finding_value}
use Rattle.mc_maker.specs.declared.examined_flights.ExaminedFlights.{ExaminedFlights}
use Rattle.mc_maker.specs.declared.examined_flights.ExaminedFlights.TheVariants.{Certified, FoundAtTtl255}
use Rattle.mc_maker.specs.declared.examined_flights.ExaminedFlights.TheVariants.{FoundAtFlowTtl}
use Rattle.mc_explain.specs.declared.causes.Cause.{Cause}
use Rattle.mc_explain.specs.declared.causes.Cause.TheVariants.{SentOnto, Circle, TakeOut, Unplaced}
use Rattle.mc_explain.specs.declared.causes.Cause.TheVariants.{LeastTtl, OnlyEverySource, StoppedAt}

-- ---- two copies on a LAN

-- the sender of a copy onto the LAN; nothing for the source
abbrev pub sender_causes : (lan : ℕ) → Option Interface → List Cause
sender_causes lan None = []
sender_causes lan (Some interface) = SentOnto lan interface.0 interface.1 ∷ []

-- The cause is the remedy of the LAN's second copy, which is the flight's first double copy (the first
-- carried one that has an earlier one on its LAN): to take out the interface that sent it. The LAN's first
-- copy came by a path, whose need the cause names too.
pub record IsRemedy (net : Net) (flight : Flight) (lan : ℕ) (second : Copy) (cause : Cause) : Type 0 where
  pub sender : Interface
  pub path : List Hop
  pub on : second.lan ≡ lan
  pub spare : IsSpareInterface net flight second sender path
  pub cause_is : cause ≡ TakeOut lan sender.0 sender.1 (need path)

-- The causes are the senders of the LAN's first copy and of its second, where a router sent them, and the
-- remedy.
pub record ExplainsDuplicate (net : Net) (flight : Flight) (lan : ℕ) (causes : List Cause) : Type 0 where
  pub first : Copy
  pub second : Copy
  pub remedy : Cause
  pub first_on : first_copy_on flight.carried lan ≡ Some first
  pub take_out : IsRemedy net flight lan second remedy
  pub causes_are : causes ≡ sender_causes lan first.sender ++ (sender_causes lan second.sender ++ remedy ∷ [])

-- the cause for a hop of a loop
abbrev pub circle_cause : Hop → Cause
circle_cause hop = Circle hop.from hop.onto hop.router hop.vif

-- The causes are the path by which the LAN's second copy came from the LAN's first, from its beginning, and
-- the remedy.
pub record ExplainsLoop (net : Net) (flight : Flight) (lan : ℕ) (causes : List Cause) : Type 0 where
  pub second : Copy
  pub circle : List Hop
  pub remedy : Cause
  pub came_by_hops : CameFromLan net flight.carried lan second circle
  pub take_out : IsRemedy net flight lan second remedy
  pub causes_are : causes ≡ reverse (map circle_cause circle) ++ remedy ∷ []

-- ---- a stray copy

-- Why a copy left the known domain: the router's row sent it by the vif, or it came in by the vif and found
-- an open row, of a router that has only an entry for every source.
abbrev pub stray_causes : Row → (router vif : ℕ) → List Cause
stray_causes (Exact incoming pairs) router vif = Unplaced router vif ∷ []
stray_causes Open router vif = OnlyEverySource router vif ∷ []
stray_causes NoRow router vif = []

-- ---- a LAN that is missed only with the flow's TTL

-- In the flight of a packet with TTL 255 the LAN's copy came by a path. The causes are the path's need, which
-- is the least TTL, and the hop of the path at which a packet with the flow's TTL is stopped.
pub record ExplainsLeastTtl (net : Net) (flight : Flight) (lan : ℕ) (causes : List Cause) : Type 0 where
  pub copy : Copy
  pub path : List Hop
  pub hop : Hop
  pub left : ℕ
  pub copy_is : first_copy_on flight.carried lan ≡ Some copy
  pub came_by_hops : CameByHops net flight.carried copy path
  pub stopped : IsStopped net.ttl path hop left
  pub causes_are :
      causes ≡ LeastTtl lan (need path) ∷ StoppedAt hop.router hop.vif hop.threshold left ∷ []

-- ---- all findings

-- the causes of the finding that this flight shows; those of a missed LAN are the lines of a search
abbrev pub ExplainsFinding : Net → Flight → Finding → List Cause → Type 0
ExplainsFinding net flight Clean causes = causes ≡ []
ExplainsFinding net flight (Duplicate lan) causes = ExplainsDuplicate net flight lan causes
ExplainsFinding net flight (Loop lan) causes = ExplainsLoop net flight lan causes
ExplainsFinding net flight (Stray router vif) causes = causes ≡ stray_causes (net.row router) router vif
ExplainsFinding net flight (Missed lan) causes = causes ≡ []

-- the causes of what flight `least`, of a packet with the flow's TTL, shows where flight `greatest`, of one
-- with TTL 255, shows no fault: then the only fault can be a missed LAN
abbrev pub ExplainsAtFlowTtl : Net → (greatest least : Flight) → Finding → List Cause → Type 0
ExplainsAtFlowTtl net greatest least (Missed lan) causes = ExplainsLeastTtl net greatest lan causes
ExplainsAtFlowTtl net greatest least finding causes = ExplainsFinding net least finding causes

-- the causes of what an examination found; none if the flow is right
abbrev pub IsExplained : DomainValue → (flow : ℕ) → ExaminedFlights → List Cause → Type 0
IsExplained domain flow (Certified entries) causes = causes ≡ []
IsExplained domain flow (FoundAtTtl255 ended) causes =
    ExplainsFinding (net_of domain flow) ended.flight.flight (finding_value ended.travel.finding) causes
IsExplained domain flow (FoundAtFlowTtl greatest least) causes =
    ExplainsAtFlowTtl (net_of domain flow) greatest.flight.flight least.flight.flight
    (finding_value least.travel.finding) causes
