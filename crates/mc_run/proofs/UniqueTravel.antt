-- A list of entries in order is determined by its entries, and a finished travel by the picker's choices.
use Rattle.std.proofs.Common.{◌≡◌, ℕ, suc, ◌+◌, ◌<◌, inl, inr, Bool, List, [], ◌∷◌, length, map, get_or}
use Rattle.std.proofs.Common.{Option, Some, None, refl, sym, ap, subst, ◌∙◌, arith}
use Rattle.std.specs.List.Sorted.{IsStrictlyIncreasing}
use Rattle.mc_theory.specs.Certificates.{Entry}
use Rattle.mc_theory.specs.Events.{Event, events}
use Rattle.mc_theory.specs.Findings.{Choices, Finding as FindingValue, IsTravel, finding, handles}
use Rattle.mc_theory.specs.Findings.{numbers_left}
use Rattle.mc_theory.specs.Flights.{Flight, run, start, step}
use Rattle.mc_theory.specs.Lists.{In}
use Rattle.mc_theory.specs.Nets.{Net}
use Rattle.mc_forward.specs.Domains.{DomainValue, net_of}
use Rattle.mc_replay.specs.FindingValues.{finding_value}
use Rattle.mc_replay.specs.Travels.{IsTravelTo}
use Rattle.mc_replay.specs.declared.finding.Finding.{Finding}
use Rattle.mc_replay.specs.declared.finding.Finding.TheVariants.{Clean, Duplicate, Loop, Stray, Missed}
use Rattle.mc_replay.specs.declared.travel.FinishedTravel.{FinishedTravel}
use Rattle.mc_replay.specs.Travels.{first_choices}
use Rattle.mc_maker.specs.ExaminedFlights.{IsFinishedTravelOf}

-- ---- entries by ascending numbers of their LANs

-- numbers that ascend do so after the first one too
is_strictly_increasing-rest : (x : ℕ) (xs : List ℕ) → IsStrictlyIncreasing (x ∷ xs) → IsStrictlyIncreasing xs
is_strictly_increasing-rest x xs up k within =
    let next : suc k + 1 ≡ suc (k + 1) = omega arith in
    subst (λ (n : ℕ). get_or xs k 0 < get_or (x ∷ xs) n 0) next (up (suc k) (omega (arith, within)))

-- each later entry has a later LAN
strictly_increasing-later_greater : (x : Entry) (es : List Entry)
    → IsStrictlyIncreasing (map (λ (e : Entry). e.lan) (x ∷ es))
    → (e : Entry) → In e es → x.lan < e.lan
strictly_increasing-later_greater x [] up e there = absurd there
strictly_increasing-later_greater x (y ∷ es) up e (inl same) = subst (λ (z : Entry). x.lan < z.lan)
    same (up 0 (omega arith))
strictly_increasing-later_greater x (y ∷ es) up e (inr there) =
    let first : x.lan < y.lan = up 0 (omega arith) in
    let more : y.lan < e.lan =
    strictly_increasing-later_greater y es (is_strictly_increasing-rest x.lan
    (map (λ (z : Entry). z.lan) (y ∷ es)) up) e there in
    omega (arith, first, more)

-- two such lists with the same entries begin with the same one
strictly_increasing-same_heads : (x y : Entry) (xs ys : List Entry)
    → IsStrictlyIncreasing (map (λ (e : Entry). e.lan) (x ∷ xs))
    → IsStrictlyIncreasing (map (λ (e : Entry). e.lan) (y ∷ ys))
    → In x (y ∷ ys) → In y (x ∷ xs) → x ≡ y
strictly_increasing-same_heads x y xs ys up rises (inl same) there = sym same
strictly_increasing-same_heads x y xs ys up rises (inr p) (inl same) = same
strictly_increasing-same_heads x y xs ys up rises (inr p) (inr q) =
    let less : y.lan < x.lan = strictly_increasing-later_greater y ys rises x p in
    let more : x.lan < y.lan = strictly_increasing-later_greater x xs up y q in
    absurd (omega (arith, less, more))

-- the entries after the first one are the same in both lists
strictly_increasing-same_tails : (x y e : Entry) (ys : List Entry) → x ≡ y → x.lan < e.lan
    → In e (y ∷ ys) → In e ys
strictly_increasing-same_tails x y e ys first less (inl same) =
    let lan : x.lan ≡ e.lan = ap (λ (z : Entry). z.lan) (first ∙ same) in
    absurd (omega (arith, less, lan))
strictly_increasing-same_tails x y e ys first less (inr there) = there

-- two such lists with the same entries are the same
pub entries_by_lan-unique : (xs ys : List Entry) → IsStrictlyIncreasing (map (λ (e : Entry). e.lan) xs)
    → IsStrictlyIncreasing (map (λ (e : Entry). e.lan) ys) → ((e : Entry) → In e xs → In e ys)
    → ((e : Entry) → In e ys → In e xs) → xs ≡ ys
entries_by_lan-unique [] [] up rises to from = refl
entries_by_lan-unique [] (y ∷ ys) up rises to from = absurd (from y (inl refl))
entries_by_lan-unique (x ∷ xs) [] up rises to from = absurd (to x (inl refl))
entries_by_lan-unique (x ∷ xs) (y ∷ ys) up rises to from =
    let first = strictly_increasing-same_heads x y xs ys up rises (to x (inl refl)) (from y (inl refl)) in
    let more = entries_by_lan-unique xs ys (is_strictly_increasing-rest x.lan
    (map (λ (e : Entry). e.lan) xs) up)
    (is_strictly_increasing-rest y.lan (map (λ (e : Entry). e.lan) ys) rises)
    (λ e there. strictly_increasing-same_tails x y e ys first
    (strictly_increasing-later_greater x xs up e there) (to e (inr there)))
    (λ e there. strictly_increasing-same_tails y x e xs (sym first)
    (strictly_increasing-later_greater y ys rises e there) (from e (inr there))) in
    λ i. first i ∷ more i

-- ---- a travel

-- what is found isn't nothing
finding-none_before_end : (o : Option FindingValue) (x : FindingValue) → o ≡ Some x → o ≡ None → ⊥
finding-none_before_end None x shows none = absurd cc
finding-none_before_end (Some y) x shows none = absurd cc

-- a travel has one list of picks and one finding
is_travel-unique : (n : Net) (count : ℕ) (numbers : List ℕ) (last : Bool) (is js : List ℕ) (f : Flight)
    (x y : FindingValue) → IsTravel n count numbers last is f x
    → IsTravel n count numbers last js f y → (is ≡ js) × (x ≡ y)
is_travel-unique n count numbers last [] [] f x y p q =
    let both : ◌≡◌ {A = Option FindingValue} (Some x) (Some y) = sym p ∙ q in (refl, cc)
is_travel-unique n count numbers last [] (j ∷ js) f x y p q =
    absurd (finding-none_before_end (finding n count f) x p q.0)
is_travel-unique n count numbers last (i ∷ is) [] f x y p q =
    absurd (finding-none_before_end (finding n count f) y q p.0)
is_travel-unique n count numbers last (i ∷ is) (j ∷ js) f x y p q =
    let same : i ≡ j = p.1 ∙ sym q.1 in
    let more = is_travel-unique n count (numbers_left numbers) last is js (step n j f) x y
    (subst (λ (k : ℕ). IsTravel n count (numbers_left numbers) last is (step n k f) x) same p.2) q.2 in
    (λ k. same k ∷ more.0 k, more.1)

-- its events, its last flight and its finding
pub is_travel_to-unique : (n : Net) (lans : ℕ) (choices : Choices) (f g h : Flight) (es fs : List Event)
    (x y : FindingValue) → IsTravelTo n lans choices f es g x → IsTravelTo n lans choices f fs h y
    → (es ≡ fs) × (g ≡ h) × (x ≡ y)
is_travel_to-unique n lans choices f g h es fs x y p q =
    let same = is_travel-unique n lans choices.numbers choices.last p.picks q.picks f x y p.travel
    q.travel in (
      p.events ∙ ap (λ (is : List ℕ). events n is f) same.0 ∙ sym q.events,
      p.ends ∙ ap (λ (is : List ℕ). run n (handles is) f) same.0 ∙ sym q.ends,
      same.1,
    )

-- the code's finding by its value
abbrev pub finding_of_value : FindingValue → Finding
finding_of_value FindingValue.Clean = Clean
finding_of_value (FindingValue.Duplicate lan) = Duplicate lan
finding_of_value (FindingValue.Loop lan) = Loop lan
finding_of_value (FindingValue.Stray router vif) = Stray router vif
finding_of_value (FindingValue.Missed lan) = Missed lan

-- the finding is got back from its value
pub finding_value-injective : (x : Finding) → finding_of_value (finding_value x) ≡ x
finding_value-injective Clean = refl
finding_value-injective (Duplicate lan) = refl
finding_value-injective (Loop lan) = refl
finding_value-injective (Stray router vif) = refl
finding_value-injective (Missed lan) = refl

-- Two travels have the same events, the same finding, and the same copies.
pub record IsSameFinishedTravel (a b : FinishedTravel) : Type 0 where
  pub events : a.travel.events.items ≡ b.travel.events.items
  pub finding : a.travel.finding ≡ b.travel.finding
  pub flight : a.flight.flight ≡ b.flight.flight

pub is_finished_travel-unique : (d : DomainValue) (flow ttl : ℕ) (a b : FinishedTravel)
    → IsFinishedTravelOf d flow ttl a
    → IsFinishedTravelOf d flow ttl b → IsSameFinishedTravel a b
is_finished_travel-unique d flow ttl a b p q =
    let same = is_travel_to-unique (net_of d flow) (length d.topology.lans) first_choices
    (start (net_of d flow) ttl) a.flight.flight b.flight.flight a.travel.events.items
    b.travel.events.items (finding_value a.travel.finding) (finding_value b.travel.finding) p.run
    q.run in
    record {
      events = same.0;
      finding = sym (finding_value-injective a.travel.finding) ∙ ap finding_of_value same.2
          ∙ finding_value-injective b.travel.finding;
      flight = same.1;
    }
