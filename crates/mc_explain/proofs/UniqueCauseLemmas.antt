-- The domain and the flights determine the causes.
use Rattle.std.proofs.Common.{◌≡◌, ℕ, List, [], ◌∷◌, ◌++◌, map, reverse, Option, Some, ap, ap₂}
use Rattle.std.proofs.Common.{sym, subst, ◌∙◌}
use Rattle.mc_theory.specs.Nets.{Net, IsNet, Interface}
use Rattle.mc_theory.specs.Flights.{Copy, Flight}
use Rattle.mc_theory.specs.Findings.{Finding, first_copy_on}
use Rattle.mc_theory.specs.Findings.Finding.{Clean, Duplicate, Loop, Stray, Missed}
use Rattle.mc_theory.specs.Paths.{Hop, CameByHops, CameFromLan, IsStopped, need}
use Rattle.mc_theory.proofs.CameByHops.{first_double-unique, copy_equal-from_some}
use Rattle.mc_theory.proofs.Hops.{came_by_hops-unique, came_from_lan-unique}
use Rattle.mc_theory.proofs.StoppingHop.{is_stopped-unique}
use Rattle.mc_forward.specs.Domains.{DomainValue, net_of}
use Rattle.mc_replay.specs.FindingValues.{finding_value}
use Rattle.mc_maker.specs.declared.examined_flights.ExaminedFlights.{ExaminedFlights}
use Rattle.mc_maker.specs.declared.examined_flights.ExaminedFlights.TheVariants.{Certified, FoundAtTtl255}
use Rattle.mc_maker.specs.declared.examined_flights.ExaminedFlights.TheVariants.{FoundAtFlowTtl}
use Rattle.mc_explain.specs.declared.causes.Cause.{Cause}
use Rattle.mc_explain.specs.declared.causes.Cause.TheVariants.{TakeOut, LeastTtl, StoppedAt}
use Rattle.mc_explain.specs.Explained.{ExplainsAtFlowTtl, ExplainsDuplicate, ExplainsFinding}
use Rattle.mc_explain.specs.Explained.{ExplainsLeastTtl, ExplainsLoop, IsExplained, IsRemedy}
use Rattle.mc_explain.specs.Explained.{circle_cause, sender_causes}

-- a LAN's first copy came by one path
path-is_unique : (n : Net) (cs : List Copy) (l : ℕ) (a b : Copy) (hs ks : List Hop) → IsNet n →
    first_copy_on cs l ≡ Some a → first_copy_on cs l ≡ Some b → CameByHops n cs a hs → CameByHops n cs b ks
    → hs ≡ ks
path-is_unique n cs l a b hs ks net on on' by by' = came_by_hops-unique n cs b hs ks net
    (subst (λ (c : Copy). CameByHops n cs c hs) (copy_equal-from_some (first_copy_on cs l) a b on on') by) by'

-- a copy has one sender
interface-is_unique : (o : Option Interface) (i j : Interface) → o ≡ Some i → o ≡ Some j → i ≡ j
interface-is_unique o i j p q =
    let both : ◌≡◌ {A = Option Interface} (Some i) (Some j) = sym p ∙ q in cc

-- two remedies for one LAN are for the same second copy
second_copy-is_unique : (n : Net) (f : Flight) (lan : ℕ) (c d : Copy) (r s : Cause) →
    IsRemedy n f lan c r → IsRemedy n f lan d s → c ≡ d
second_copy-is_unique n f lan c d r s x y = first_double-unique f.carried c d x.spare.first_double
    y.spare.first_double

-- a copy has one remedy
remedy-is_unique : (n : Net) (f : Flight) (lan : ℕ) (c : Copy) (r s : Cause) → IsNet n →
    IsRemedy n f lan c r → IsRemedy n f lan c s → r ≡ s
remedy-is_unique n f lan c r s net x y =
    let sender = interface-is_unique c.sender x.sender y.sender x.spare.sender y.spare.sender in
    let path = path-is_unique n f.carried c.lan x.spare.first y.spare.first x.path y.path net
    x.spare.first_on y.spare.first_on x.spare.came_by_hops y.spare.came_by_hops in
    x.cause_is ∙ (ap₂ (λ (i : Interface) (hs : List Hop). TakeOut lan i.0 i.1 (need hs)) sender path ∙
    sym y.cause_is)

-- the remedy for a copy is unique
remedy-is_unique_on_lan : (n : Net) (f : Flight) (lan : ℕ) (c d : Copy) (r s : Cause) → IsNet n →
    IsRemedy n f lan c r → IsRemedy n f lan d s → r ≡ s
remedy-is_unique_on_lan n f lan c d r s net x y = remedy-is_unique n f lan d r s net
    (subst (λ (z : Copy). IsRemedy n f lan z r) (second_copy-is_unique n f lan c d r s x y) x) y

-- a duplicate has one list of causes
duplicate_causes-are_unique : (n : Net) (f : Flight) (lan : ℕ) (causes others : List Cause) → IsNet n →
    ExplainsDuplicate n f lan causes → ExplainsDuplicate n f lan others → causes ≡ others
duplicate_causes-are_unique n f lan causes others net x y =
    let first = copy_equal-from_some (first_copy_on f.carried lan) x.first y.first x.first_on y.first_on in
    let second = second_copy-is_unique n f lan x.second y.second x.remedy y.remedy x.take_out y.take_out in
    let remedy = remedy-is_unique_on_lan n f lan x.second y.second x.remedy y.remedy net x.take_out
    y.take_out in
    let before : List Cause → List Cause = λ ts. sender_causes lan y.first.sender ++ ts in
    x.causes_are ∙ (ap (λ (c : Copy). sender_causes lan c.sender
    ++ (sender_causes lan x.second.sender ++ x.remedy ∷ [])) first ∙
    (ap₂ (λ (c : Copy) (r : Cause). before (sender_causes lan c.sender ++ r ∷ [])) second remedy ∙
    sym y.causes_are))

-- so has a loop
loop_causes-are_unique : (n : Net) (f : Flight) (lan : ℕ) (causes others : List Cause) → IsNet n →
    ExplainsLoop n f lan causes → ExplainsLoop n f lan others → causes ≡ others
loop_causes-are_unique n f lan causes others net x y =
    let second = second_copy-is_unique n f lan x.second y.second x.remedy y.remedy x.take_out y.take_out in
    let remedy = remedy-is_unique_on_lan n f lan x.second y.second x.remedy y.remedy net x.take_out
    y.take_out in
    let circle = came_from_lan-unique n f.carried lan y.second x.circle y.circle net
    (subst (λ (c : Copy). CameFromLan n f.carried lan c x.circle) second x.came_by_hops) y.came_by_hops in
    x.causes_are ∙ (ap₂ (λ (hs : List Hop) (r : Cause). reverse (map circle_cause hs) ++ r ∷ []) circle
    remedy ∙ sym y.causes_are)

-- so has a LAN that is missed at the flow's TTL alone
least_ttl_causes-are_unique : (n : Net) (f : Flight) (lan : ℕ) (causes others : List Cause) → IsNet n →
    ExplainsLeastTtl n f lan causes → ExplainsLeastTtl n f lan others → causes ≡ others
least_ttl_causes-are_unique n f lan causes others net x y =
    let path = path-is_unique n f.carried lan x.copy y.copy x.path y.path net x.copy_is y.copy_is
    x.came_by_hops
    y.came_by_hops in
    let stop = is_stopped-unique n.ttl y.path x.hop x.left y.hop y.left
    (subst (λ (hs : List Hop). IsStopped n.ttl hs x.hop x.left) path x.stopped) y.stopped in
    x.causes_are ∙ (ap (λ (hs : List Hop). LeastTtl lan (need hs)
    ∷ StoppedAt x.hop.router x.hop.vif x.hop.threshold x.left ∷ []) path ∙
    (ap₂ (λ (h : Hop) (k : ℕ). LeastTtl lan (need y.path)
    ∷ StoppedAt h.router h.vif h.threshold k ∷ []) stop.0 stop.1 ∙ sym y.causes_are))

-- so has each finding at TTL 255
finding_causes-are_unique : (n : Net) (f : Flight) (x : Finding) (causes others : List Cause) → IsNet n →
    ExplainsFinding n f x causes → ExplainsFinding n f x others → causes ≡ others
finding_causes-are_unique n f Clean causes others net p q = p ∙ sym q
finding_causes-are_unique n f (Duplicate lan) causes others net p q = duplicate_causes-are_unique n f lan
    causes others net p q
finding_causes-are_unique n f (Loop lan) causes others net p q = loop_causes-are_unique n f lan causes
    others net p q
finding_causes-are_unique n f (Stray router vif) causes others net p q = p ∙ sym q
finding_causes-are_unique n f (Missed lan) causes others net p q = p ∙ sym q

-- and each at the flow's TTL
flow_ttl_causes-are_unique : (n : Net) (f g : Flight) (x : Finding) (causes others : List Cause) → IsNet n →
    ExplainsAtFlowTtl n f g x causes → ExplainsAtFlowTtl n f g x others → causes ≡ others
flow_ttl_causes-are_unique n f g Clean causes others net p q = p ∙ sym q
flow_ttl_causes-are_unique n f g (Duplicate lan) causes others net p q =
    duplicate_causes-are_unique n g lan causes others net p q
flow_ttl_causes-are_unique n f g (Loop lan) causes others net p q = loop_causes-are_unique n g lan causes
    others net p q
flow_ttl_causes-are_unique n f g (Stray router vif) causes others net p q = p ∙ sym q
flow_ttl_causes-are_unique n f g (Missed lan) causes others net p q = least_ttl_causes-are_unique n f lan
    causes others net p q

-- so each flow has one list of causes
pub causes-are_unique : (d : DomainValue) (flow : ℕ) (examined_flights : ExaminedFlights)
    (causes others : List Cause) →
    IsNet (net_of d flow) → IsExplained d flow examined_flights causes → IsExplained d flow examined_flights
    others →
    causes ≡ others
causes-are_unique d flow (Certified entries) causes others net p q = p ∙ sym q
causes-are_unique d flow (FoundAtTtl255 ended) causes others net p q = finding_causes-are_unique
    (net_of d flow)
    ended.flight.flight (finding_value ended.travel.finding) causes others net p q
causes-are_unique d flow (FoundAtFlowTtl greatest least) causes others net p q = flow_ttl_causes-are_unique
    (net_of d flow)
    greatest.flight.flight least.flight.flight (finding_value least.travel.finding) causes others net
    p q
