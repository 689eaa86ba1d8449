-- A flow that is right has complete runs, and so a certificate.
use Rattle.std.proofs.Common.{◌≡◌, ℕ, zero, suc, ◌+◌, ◌⊎◌, inl, inr, List, [], ◌∷◌, length, refl}
use Rattle.std.proofs.Common.{ap, arith, ◌≤◌}
use Rattle.mc_theory.specs.Nets.{Net, placed_interfaces, IsNet}
use Rattle.mc_theory.specs.Flights.{Waiting, Flight, start, step, Pick, IsLossless, run, InRange}
use Rattle.mc_theory.specs.Flights.Pick.{Handles}
use Rattle.mc_theory.specs.Certificates.{IsClean, IsRight, Entry, IsAccepted}
use Rattle.mc_theory.proofs.CopyAndStepBounds.{handled_count-run, handled_count-start, steps-at_most_placed}
use Rattle.mc_theory.specs.CertificateOfCopies.{entries_of}
use Rattle.mc_theory.proofs.CertificateOfCopies.{is_accepted-from_two_runs}

abbrev pub first_pick_then : List Waiting → List Pick → List Pick
first_pick_then [] is = []
first_pick_then (w ∷ ws) is = Handles 0 ∷ is

-- up to k picks of the first, while something waits
abbrev pub first_picks : Net → ℕ → Flight → List Pick
first_picks n zero f = []
first_picks n (suc k) f = first_pick_then f.waiting (first_picks n k (step n 0 f))

pub first_picks-in_range : (n : Net) (k : ℕ) (f : Flight) → InRange n (first_picks n k f) f
first_picks-in_range n zero f = tt
first_picks-in_range n (suc k) f = more n f f.waiting refl (first_picks n k (step n 0 f))
    (first_picks-in_range n k (step n 0 f))
  where
    more : (n : Net) (f : Flight) (ws : List Waiting) → f.waiting ≡ ws → (is : List Pick) →
        InRange n is (step n 0 f) → InRange n (first_pick_then ws is) f
    more n f [] e is h = tt
    more n f (w ∷ ws) e is h = (omega (arith, ap length e), h)

pub first_picks-lossless : (n : Net) (k : ℕ) (f : Flight) → IsLossless (first_picks n k f)
first_picks-lossless n zero f = tt
first_picks-lossless n (suc k) f = more f.waiting (first_picks n k (step n 0 f))
    (first_picks-lossless n k (step n 0 f))
  where
    more : (ws : List Waiting) (is : List Pick) → IsLossless is → IsLossless (first_pick_then ws is)
    more [] is h = tt
    more (w ∷ ws) is h = h

-- they end, or there are k of them
pub first_picks-end : (n : Net) (k : ℕ) (f : Flight) → ((run n (first_picks n k f) f).waiting ≡ []) ⊎
    (length (first_picks n k f) ≡ k)
first_picks-end n zero f = inr refl
first_picks-end n (suc k) f = more n k f f.waiting refl (first_picks n k (step n 0 f))
    (first_picks-end n k (step n 0 f))
  where
    more : (n : Net) (k : ℕ) (f : Flight) (ws : List Waiting) → f.waiting ≡ ws → (is : List Pick) →
        ((run n is (step n 0 f)).waiting ≡ []) ⊎ (length is ≡ k) →
        ((run n (first_pick_then ws is) f).waiting ≡ []) ⊎ (length (first_pick_then ws is) ≡ suc k)
    more n k f [] e is h = inl e
    more n k f (w ∷ ws) e is (inl h) = inl h
    more n k f (w ∷ ws) e is (inr h) = inr (ap suc h)

-- where each run is clean, they end
pub none_waits-after_first_picks : (n : Net) (t : ℕ) → ((is : List Pick) → InRange n is (start n t) →
    IsClean (run n is (start n t))) → (run n (first_picks n (suc (length (placed_interfaces n))) (start n t))
    (start n t)).waiting ≡ []
none_waits-after_first_picks n t clean =
    let k = suc (length (placed_interfaces n)) in
    let is = first_picks n k (start n t) in
    let range : InRange n is (start n t) = first_picks-in_range n k (start n t) in
    elim (first_picks-end n k (start n t)) [
      | inl h ↦ h
      | inr e ↦ absurd (let b = steps-at_most_placed n (0 + length is) (run n is (start n t))
          (handled_count-run n 0 is (start n t) range (handled_count-start n t)) (clean is range).once in
          omega
          (arith, b, e))
    ]

pub is_accepted-from_right : (n : Net) → IsNet n → 1 ≤ n.ttl → n.ttl ≤ 255 → IsRight n →
    (es : List Entry) × IsAccepted n es
is_accepted-from_right n net low high right =
    let k = suc (length (placed_interfaces n)) in
    let is = first_picks n k (start n 255) in
    let js = first_picks n k (start n n.ttl) in
    let range : InRange n is (start n 255) = first_picks-in_range n k (start n 255) in
    let range' : InRange n js (start n n.ttl) = first_picks-in_range n k (start n n.ttl) in
    let done = none_waits-after_first_picks n 255 (λ is h. (right 255 is high (omega arith) h).clean) in
    let done' = none_waits-after_first_picks n n.ttl
    (λ is h. (right n.ttl is (omega arith) high h).clean) in (
      entries_of n (run n is (start n 255)).carried,
      is_accepted-from_two_runs n is js net low high range (first_picks-lossless n k (start n 255)) done
          (right 255 is high (omega arith) range).clean range' (first_picks-lossless n k (start n n.ttl))
          done' ((right n.ttl js (omega arith) high range').served
          (first_picks-lossless n k (start n n.ttl)) done'),
    )
