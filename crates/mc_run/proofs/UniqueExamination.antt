-- The result of examining a flow is determined: its entries, or its travels.
use Rattle.std.proofs.Common.{◌≡◌, ◌≢◌, ℕ, true, false, List, length, map, refl, ap, subst, sym, ◌∙◌}
use Rattle.std.specs.Prelude.{◌↔◌, IsTrue}
use Rattle.std.specs.List.Sorted.{IsStrictlyIncreasing}
use Rattle.std.proofs.lemmas.Bool.{false≢true}
use Rattle.mc_theory.specs.Certificates.{Entry, IsReordering, IsRight}
use Rattle.mc_theory.specs.Events.{events}
use Rattle.mc_theory.specs.Findings.{Finding as FindingValue, finding}
use Rattle.mc_theory.specs.Flights.{Copy, Flight, run, start}
use Rattle.mc_theory.specs.CertificateOfCopies.{entries_of}
use Rattle.mc_forward.specs.Domains.{DomainValue, net_of, ttl_of}
use Rattle.mc_replay.specs.FindingValues.{finding_value}
use Rattle.mc_replay.specs.declared.finding.Finding.TheVariants.{Clean}
use Rattle.mc_replay.specs.declared.travel.FinishedTravel.{FinishedTravel}
use Rattle.mc_replay.specs.Travels.{first_choices}
use Rattle.mc_maker.specs.Examined.{AreEntriesOfCleanTravel}
use Rattle.mc_maker.specs.ExaminedFlights.{IsFinishedTravelOf, HasExaminedFlights, without_flights}
use Rattle.mc_maker.specs.declared.examined_flights.ExaminedFlights.{ExaminedFlights}
use Rattle.mc_maker.specs.declared.examined_flights.ExaminedFlights.TheVariants.{Certified, FoundAtTtl255}
use Rattle.mc_maker.specs.declared.examined_flights.ExaminedFlights.TheVariants.{FoundAtFlowTtl}
use Rattle.mc_commands.specs.MakeRun.{IsExamined}
use Rattle.mc_run.proofs.UniqueTravel.{IsSameFinishedTravel, entries_by_lan-unique}
use Rattle.mc_run.proofs.UniqueTravel.{is_finished_travel-unique, is_travel_to-unique}

-- Two examinations have the same result.
abbrev pub HaveSameFlights : ExaminedFlights → ExaminedFlights → Type 0
HaveSameFlights (Certified xs) (Certified ys) = xs.items ≡ ys.items
HaveSameFlights (FoundAtTtl255 a) (FoundAtTtl255 b) = IsSameFinishedTravel a b
HaveSameFlights (FoundAtFlowTtl a b) (FoundAtFlowTtl c e) = IsSameFinishedTravel a c
    × IsSameFinishedTravel b e
HaveSameFlights _ _ = ⊥

-- the entries are those of one travel's copies
entries_of_clean_travel-unique : (d : DomainValue) (flow : ℕ) (xs ys : List Entry)
    → AreEntriesOfCleanTravel d flow xs
    → AreEntriesOfCleanTravel d flow ys → IsStrictlyIncreasing (map (λ (e : Entry). e.lan) xs)
    → IsStrictlyIncreasing (map (λ (e : Entry). e.lan) ys) → xs ≡ ys
entries_of_clean_travel-unique d flow xs ys p q up rises =
    let n = net_of d flow in
    let same = is_travel_to-unique n (length d.topology.lans) first_choices (start n 255) p.run.last q.run.last
    p.run.events q.run.events FindingValue.Clean FindingValue.Clean p.run.run q.run.run in
    let copies : p.copies ≡ q.copies =
    sym p.run.carried ∙ ap (λ (f : Flight). f.carried) same.1 ∙ q.run.carried in
    let to_copies : IsReordering (entries_of n q.copies) xs =
    subst (λ (cs : List Copy). IsReordering (entries_of n cs) xs) copies p.entries in
    entries_by_lan-unique xs ys up rises (λ e there. q.entries.to e (to_copies.from e there))
    (λ e there. to_copies.to e (q.entries.from e there))

-- one that isn't right isn't certified
certified-not_wrong : (W : Type 0) → IsTrue true ↔ W → IsTrue false ↔ W → ⊥
certified-not_wrong W right wrong = false≢true (wrong.1 (right.0 refl))

-- a fault at TTL 255 isn't one that is found at the flow's TTL only
fault_at_255-not_at_flow_ttl : (d : DomainValue) (flow : ℕ) (a b : FinishedTravel)
    → IsFinishedTravelOf d flow 255 a
    → IsFinishedTravelOf d flow 255 b → finding_value a.travel.finding ≢ FindingValue.Clean
    → finding_value b.travel.finding ≡ FindingValue.Clean → ⊥
fault_at_255-not_at_flow_ttl d flow a b p q fault none =
    let same = is_finished_travel-unique d flow 255 a b p q in fault (ap finding_value same.finding ∙ none)

-- two examinations of a flow have the same result, since a flow is right or isn't, and the travels are
-- determined
pub examined_flights-unique : (d : DomainValue) (flow : ℕ) (a b : ExaminedFlights)
    → HasExaminedFlights d flow a → HasExaminedFlights d flow b
    → IsExamined d flow (without_flights d flow a) → IsExamined d flow (without_flights d flow b)
    → HaveSameFlights a b
examined_flights-unique d flow (Certified xs) (Certified ys) p q x y =
    entries_of_clean_travel-unique d flow xs.items ys.items x.made y.made x.ascending y.ascending
examined_flights-unique d flow (Certified xs) (FoundAtTtl255 b) p q x y =
    absurd (certified-not_wrong (IsRight (net_of d flow)) x.right y.right)
examined_flights-unique d flow (Certified xs) (FoundAtFlowTtl b c) p q x y =
    absurd (certified-not_wrong (IsRight (net_of d flow)) x.right y.right)
examined_flights-unique d flow (FoundAtTtl255 a) (Certified ys) p q x y =
    absurd (certified-not_wrong (IsRight (net_of d flow)) y.right x.right)
examined_flights-unique d flow (FoundAtTtl255 a) (FoundAtTtl255 b) p q x y =
    is_finished_travel-unique d flow 255 a b p q
examined_flights-unique d flow (FoundAtTtl255 a) (FoundAtFlowTtl b c) p q x y =
    absurd (fault_at_255-not_at_flow_ttl d flow a b p q.0 x.fault q.1)
examined_flights-unique d flow (FoundAtFlowTtl a b) (Certified ys) p q x y =
    absurd (certified-not_wrong (IsRight (net_of d flow)) y.right x.right)
examined_flights-unique d flow (FoundAtFlowTtl a b) (FoundAtTtl255 c) p q x y =
    absurd (fault_at_255-not_at_flow_ttl d flow c a q p.0 y.fault p.1)
examined_flights-unique d flow (FoundAtFlowTtl a b) (FoundAtFlowTtl c e) p q x y = (
  is_finished_travel-unique d flow 255 a c p.0 q.0,
  is_finished_travel-unique d flow
      (ttl_of d flow) b e p.2 q.2,
)
