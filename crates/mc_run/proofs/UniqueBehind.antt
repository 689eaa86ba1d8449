-- What is behind a stray is determined by the flow and the stray.
use Rattle.std.proofs.Common.{◌≡◌, ℕ, Bool, [], Option, Some, None, refl, sym, ap, subst, ◌∙◌}
use Rattle.std.specs.Prelude.{⊤}
use Rattle.mc_theory.specs.Findings.{finding, first_double}
use Rattle.mc_theory.specs.Flights.{Copy, Flight, run, start}
use Rattle.mc_theory.specs.Nets.{Interface, Net}
use Rattle.mc_forward.specs.Domains.{DomainValue, net_of}
use Rattle.mc_replay.specs.FindingValues.{finding_value, optional_finding_value}
use Rattle.mc_replay.proofs.PastStraysLemmas.{ends_past_strays-unique}
use Rattle.mc_topology.specs.Topology.{TopologyValue}
use Rattle.mc_replay.specs.declared.finding.Finding.{Finding}
use Rattle.mc_replay.specs.declared.finding.Finding.TheVariants.{Clean, Duplicate, Loop, Stray, Missed}
use Rattle.mc_maker.specs.declared.examined_flights.ExaminedFlights.{ExaminedFlights}
use Rattle.mc_maker.specs.declared.examined_flights.ExaminedFlights.TheVariants.{Certified, FoundAtTtl255}
use Rattle.mc_maker.specs.declared.examined_flights.ExaminedFlights.TheVariants.{FoundAtFlowTtl}
use Rattle.mc_explain.specs.Behind.{IsBehind, IsBehindIn}
use Rattle.mc_explain.specs.declared.causes.behind.Behind.{Behind}
use Rattle.mc_run.specs.AuditExplanation.{IsBehindAt255, IsBehindIfStray}
use Rattle.mc_run.proofs.UniqueTravel.{finding_of_value, finding_value-injective}
use Rattle.mc_run.proofs.UniqueExamination.{HaveSameFlights}

-- Both have the same parts.
pub record IsSameBehind (x y : Behind) : Type 0 where
  pub finding : x.finding ≡ y.finding
  pub causes : x.causes.items ≡ y.causes.items
  pub shown_from : x.shown_from ≡ y.shown_from
  pub strays : x.strays.items ≡ y.strays.items
  pub open_routers : x.open_routers.items ≡ y.open_routers.items
  pub missed : x.missed.items ≡ y.missed.items

abbrev pub HaveSameBehind : Option Behind → Option Behind → Type 0
HaveSameBehind None None = ⊤
HaveSameBehind (Some x) (Some y) = IsSameBehind x y
HaveSameBehind _ _ = ⊥

-- a finding is known by its value
optional_finding-same_value : (s t : Option Finding)
    → optional_finding_value s ≡ optional_finding_value t → s ≡ t
optional_finding-same_value None None e = refl
optional_finding-same_value None (Some y) e = absurd cc
optional_finding-same_value (Some x) None e = absurd cc
optional_finding-same_value (Some x) (Some y) e =
    let same : finding_value x ≡ finding_value y = cc in
    ap Some (sym (finding_value-injective x) ∙ ap finding_of_value same ∙ finding_value-injective y)

-- behind the same flight there is one thing
is_behind_in-unique : (whole : Bool) (t : TopologyValue) (n : Net) (own : Interface) (g : Flight)
    (double : Option Copy) (x y : Behind) → IsBehindIn whole t n own g double x
    → IsBehindIn whole t n own g double y → IsSameBehind x y
is_behind_in-unique whole t n own g double x y p q = record {
  finding = optional_finding-same_value x.finding y.finding (p.finding ∙ sym q.finding);
  causes = p.causes ∙ sym q.causes;
  shown_from = p.shown ∙ sym q.shown;
  strays = p.strays ∙ sym q.strays;
  open_routers = p.not_followed ∙ sym q.not_followed;
  missed = p.missed ∙ sym q.missed;
}

-- two descriptions of what is behind one stray agree, since the run behind it is determined
is_behind-unique : (whole : Bool) (d : DomainValue) (flow : ℕ) (own : Interface) (x y : Behind)
    → IsBehind whole d flow own x → IsBehind whole d flow own y → IsSameBehind x y
is_behind-unique whole d flow own x y p q =
    let n = net_of d flow in
    let same = ends_past_strays-unique n (start n 255) p.flight q.flight p.run q.run in
    is_behind_in-unique whole d.topology n own q.flight
    (first_double [] q.flight.carried) x y
    (subst (λ (g : Flight). IsBehindIn whole d.topology n own g
    (first_double [] g.carried) x) same p.shows) q.shows

-- two that aren't there
same_behind-none : (s t : Option Behind) → s ≡ None → t ≡ None → HaveSameBehind s t
same_behind-none s t none other =
    subst (λ (o : Option Behind). HaveSameBehind o t) (sym none)
    (subst (λ (o : Option Behind). HaveSameBehind None o) (sym other) tt)

-- two of the same finding
is_behind_if_stray-unique : (whole : Bool) (d : DomainValue) (flow : ℕ) (x : Finding) (s t : Option Behind)
    → IsBehindIfStray whole d flow x s → IsBehindIfStray whole d flow x t → HaveSameBehind s t
is_behind_if_stray-unique whole d flow Clean s t p q = same_behind-none s t p q
is_behind_if_stray-unique whole d flow (Duplicate lan) s t p q = same_behind-none s t p q
is_behind_if_stray-unique whole d flow (Loop lan) s t p q = same_behind-none s t p q
is_behind_if_stray-unique whole d flow (Missed lan) s t p q = same_behind-none s t p q
is_behind_if_stray-unique whole d flow (Stray router vif) None t p q = absurd p
is_behind_if_stray-unique whole d flow (Stray router vif) (Some x) None p q = absurd q
is_behind_if_stray-unique whole d flow (Stray router vif) (Some x) (Some y) p q =
    is_behind-unique whole d flow (router, vif) x y p q

-- two of the same flights
pub is_behind_at_255-unique : (whole : Bool) (d : DomainValue) (flow : ℕ) (a b : ExaminedFlights)
    (s t : Option Behind)
    → HaveSameFlights a b → IsBehindAt255 whole d flow a s → IsBehindAt255 whole d flow b t
    → HaveSameBehind s t
is_behind_at_255-unique whole d flow (Certified xs) (Certified ys) s t same p q = same_behind-none s t p q
is_behind_at_255-unique whole d flow (FoundAtTtl255 a) (FoundAtTtl255 b) s t same p q =
    is_behind_if_stray-unique whole d flow b.travel.finding s t
    (subst (λ (x : Finding). IsBehindIfStray whole d flow x s) same.finding p) q
is_behind_at_255-unique whole d flow (FoundAtFlowTtl a b) (FoundAtFlowTtl c e) s t same p q =
    same_behind-none s t p q
is_behind_at_255-unique whole d flow (Certified xs) (FoundAtTtl255 b) s t same p q = absurd same
is_behind_at_255-unique whole d flow (Certified xs) (FoundAtFlowTtl b c) s t same p q = absurd same
is_behind_at_255-unique whole d flow (FoundAtTtl255 a) (Certified ys) s t same p q = absurd same
is_behind_at_255-unique whole d flow (FoundAtTtl255 a) (FoundAtFlowTtl b c) s t same p q = absurd same
is_behind_at_255-unique whole d flow (FoundAtFlowTtl a b) (Certified ys) s t same p q = absurd same
is_behind_at_255-unique whole d flow (FoundAtFlowTtl a b) (FoundAtTtl255 c) s t same p q = absurd same
