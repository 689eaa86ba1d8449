-- Runs after an interface is taken out of its router's row.
use Rattle.std.proofs.Common.{◌≡◌, ◌≢◌, ℕ, inl, inr, Bool, true, cond, not, ◌==◌, List}
use Rattle.std.proofs.Common.{filter, Option, Some, None, refl, ap, sym, subst, ◌∙◌, eq-eqb}
use Rattle.mc_theory.specs.Lists.{In}
use Rattle.mc_theory.specs.Nets.{Net, IsNet, Row, Interface}
use Rattle.mc_theory.specs.Nets.Row.{Exact, Open, NoRow}
use Rattle.mc_theory.specs.Flights.{Copy, Flight, Pick, run, start}
use Rattle.mc_theory.specs.CopyOrigins.{IsSentOn}
use Rattle.mc_theory.specs.Paths.{IsReachedWithTtl, row_without_vif, take_out}
use Rattle.mc_theory.proofs.ListLemmas.{in-append_cases, in-filter_cases}
use Rattle.mc_theory.proofs.CopyOrigins.{StepGrows, all_heard-start}
use Rattle.mc_theory.proofs.Paths.{reached_with_ttl-from_carried, run-preserves}
use Rattle.mc_theory.proofs.EachHearerForwards.{carried-from_path}
use Rattle.mc_theory.proofs.SpareInterface.{is_net-take_out}
use Rattle.mc_explain.specs.CauseFacts.{CarriesAsMuch}

-- LANs that are reached as before carry copies as before
pub carries_as_much-from_reached : (n : Net) (i : Interface) (t : ℕ) (qs ps : List Pick) → IsNet n →
    ((m : ℕ) → IsReachedWithTtl n t m → IsReachedWithTtl (take_out i n) t m) →
    CarriesAsMuch (take_out i n) n t qs ps
carries_as_much-from_reached n i t qs ps net reached range whole ended m h =
    let w = reached m (reached_with_ttl-from_carried n t ps m h) in
    carried-from_path (take_out i n) t qs w.0 m (is_net-take_out n i net) range whole ended w.1 w.2

-- ---- no copy is sent by it

-- a row without the pairs of a vif has none of it
row_without-has_no_pair : (v threshold incoming : ℕ) (pairs : List (ℕ × ℕ)) (row : Row) →
    row_without_vif v row ≡ Exact incoming pairs → In (v, threshold) pairs → ⊥
row_without-has_no_pair v threshold incoming pairs (Exact w ps) e pair =
    let left : filter (λ p. not (p.0 == v)) ps ≡ pairs = cc in
    let kept = in-filter_cases (λ (p : ℕ × ℕ). not (p.0 == v)) (v, threshold) ps
    (subst (λ (qs : List (ℕ × ℕ)). In (v, threshold) qs) (sym left) pair) in
    let same : (v == v) ≡ true = eq-eqb v v refl in
    absurd (let both : not true ≡ true = sym (ap not same) ∙ kept.1 in cc)
row_without-has_no_pair v threshold incoming pairs Open e pair = absurd cc
row_without-has_no_pair v threshold incoming pairs NoRow e pair = absurd cc

-- no copy is sent on by an interface that was taken out
is_sent_on-not_by_taken_out : (n : Net) (i : Interface) (b c : Copy) → IsSentOn (take_out i n) b c i → ⊥
is_sent_on-not_by_taken_out n i b c s =
    let own : (i.0 == i.0) ≡ true = eq-eqb i.0 i.0 refl in
    let row : row_without_vif i.1 (n.row i.0) ≡ Exact s.incoming s.pairs =
    sym (ap (λ (t : Bool). cond t (row_without_vif i.1 (n.row i.0)) (n.row i.0)) own) ∙ s.row in
    row_without-has_no_pair i.1 s.threshold s.incoming s.pairs (n.row i.0) row s.pair

-- none of these copies was sent by the interface
abbrev AreNotSentBy : Interface → List Copy → Type 0
AreNotSentBy i cs = (c : Copy) → In c cs → c.sender ≢ Some i

-- a step adds no copy that it sent
are_not_sent_by-grows : (n : Net) (i : Interface) (f g : Flight) → StepGrows (take_out i n) f g →
    AreNotSentBy i f.carried → AreNotSentBy i g.carried
are_not_sent_by-grows n i f g (inr e) none = subst (AreNotSentBy i) (sym e) none
are_not_sent_by-grows n i f g (inl s) none = subst (AreNotSentBy i) (sym s.2.1) (λ c h q. elim
    (in-append_cases c f.carried s.2.0 h) [
      | inl k ↦ none c k q
      | inr k ↦ (let z = s.2.2 c k in
          let both : ◌≡◌ {A = Option Interface} (Some z.0) (Some i) = sym z.1 ∙ q in
          let same : z.0 ≡ i = cc in
          is_sent_on-not_by_taken_out n i s.0 c (subst (IsSentOn (take_out i n) s.0 c) same z.2))
    ])

-- so no copy of a run is sent by it
pub are_not_sent_by-run : (n : Net) (i : Interface) (t : ℕ) (ps : List Pick) (c : Copy) →
    In c (run (take_out i n) ps (start (take_out i n) t)).carried → c.sender ≢ Some i
are_not_sent_by-run n i t ps c h =
    run-preserves (take_out i n) (AreNotSentBy i) (are_not_sent_by-grows n i) ps (start (take_out i n) t)
    (all_heard-start (take_out i n) t)
    (λ d k q. elim k [
      | inl e ↦ (let both : ◌≡◌ {A = Option Interface} None (Some i) =
          ap (λ (x : Copy). x.sender) e ∙ q in absurd cc)
      | inr z ↦ absurd z
    ]) c h
