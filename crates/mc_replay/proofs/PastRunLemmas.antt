-- A run past strays, handling by handling.
use Rattle.std.proofs.Common.{◌≡◌, ℕ, suc, ◌+◌, ◌-◌, ◌<◌, Bool, true, false, not, nat_lt, List, [], ◌∷◌}
use Rattle.std.proofs.Common.{◌++◌, length, Option, None, is_some, refl, ap, sym, ◌∙◌, subst, arith}
use Rattle.std.specs.Prelude.{◌≢◌, ◌&&◌}
use Rattle.std.proofs.lemmas.Bool.{lt-ltb}
use Rattle.mc_theory.specs.Nets.{Net, placed_interfaces}
use Rattle.mc_theory.specs.Flights.{Copy, Flight, start, step}
use Rattle.mc_theory.specs.Findings.{Finding, IsTravel, finding, first_double}
use Rattle.mc_theory.proofs.Travels.{finding-none}
use Rattle.mc_replay.proofs.TravelLemmas.{double-none_without_finding}
use Rattle.mc_theory.proofs.CopyAndStepBounds.{HandledCountIs, handled_count-start, handled_count-step}
use Rattle.mc_theory.proofs.CopyAndStepBounds.{hearer_count}
use Rattle.mc_replay.specs.PastStrays.{EndsPastStrays, IsRunPastStrays}
use Rattle.mc_replay.specs.PastStrays.{goes_on}
use Rattle.mc_replay.proofs.PastStraysLemmas.{goes_on-waits, handled_count-below_placed}

-- ---- whether it goes on

-- the run goes on where no LAN carried two copies and some copy waits
pub goes_on-from_waiting : (f : Flight) (o : Option Copy) → o ≡ first_double [] f.carried → is_some o ≡ false
    → length f.waiting ≢ 0 → goes_on f ≡ true
goes_on-from_waiting f o same none waits =
    ap (λ (b : Bool). not b && nat_lt 0 (length f.waiting)) (sym (ap is_some same) ∙ none)
    ∙ lt-ltb 0 (length f.waiting) (omega (arith, waits))

-- by the first second one of these copies, and by how many wait
pub goes_on-by_counts : (f : Flight) (o : Option Copy) (copies : List Copy) (waiting : ℕ)
    → o ≡ first_double [] copies
    → copies ≡ f.carried → is_some o ≡ false → waiting ≡ length f.waiting → waiting ≢ 0 → goes_on f ≡ true
goes_on-by_counts f o copies waiting second are none count some =
    goes_on-from_waiting f o (second ∙ ap (first_double []) are) none (λ e. some (count ∙ e))

-- ---- the run so far

-- From flight f0 on the run has come to flight f: some copies were handled, and where it ends from f on, it
-- ends from f0 on.
pub record IsRunSoFar (n : Net) (f0 f : Flight) : Type 0 where
  pub count : ℕ
  pub handled : HandledCountIs n count f
  pub more : (g : Flight) → EndsPastStrays n f g → EndsPastStrays n f0 g

-- the run begins at the flight that starts
pub run_so_far-start : (n : Net) (f : Flight) → (t : ℕ) × (f ≡ start n t) → IsRunSoFar n f f
run_so_far-start n f is = record {
  count = 0;
  handled = subst (HandledCountIs n 0) (sym is.1) (handled_count-start n is.0);
  more = λ g ends. ends;
}

-- what the run ends with after a step, it ends with before the step
ends_past_strays-step : (n : Net) (f g : Flight) → goes_on f ≡ true → EndsPastStrays n (step n 0 f) g
    → EndsPastStrays n f g
ends_past_strays-step n f g goes rest = record {
  picks = 0 ∷ rest.picks;
  stops = (goes, refl, rest.stops);
  ends = rest.ends;
}

-- one handling more, of the first waiting copy
pub run_so_far-step : (n : Net) (f0 f g : Flight) → IsRunSoFar n f0 f → goes_on f ≡ true → g ≡ step n 0 f
    → IsRunSoFar n f0 g
run_so_far-step n f0 f g so_far goes next =
    subst (IsRunSoFar n f0) (sym next) (record {
      count = suc so_far.count;
      handled = handled_count-step n so_far.count 0 f (goes_on-waits f goes) so_far.handled;
      more = λ h rest. so_far.more h (ends_past_strays-step n f h goes rest);
    })

-- how many handlings there are room for at most
abbrev pub room_left : Net → Flight → ℕ
room_left n f = (length (placed_interfaces n) + length f.waiting) - hearer_count n f.carried

-- each handling leaves room for fewer
pub room_left-step : (n : Net) (f0 f g : Flight) → IsRunSoFar n f0 f → goes_on f ≡ true → g ≡ step n 0 f
    → room_left n g < room_left n f
room_left-step n f0 f g so_far goes next =
    let below = handled_count-below_placed n so_far.count f so_far.handled goes in
    let now = so_far.handled in
    let then : HandledCountIs n (suc so_far.count) g = subst (HandledCountIs n (suc so_far.count)) (sym next)
    (handled_count-step n so_far.count 0 f (goes_on-waits f goes) so_far.handled) in
    omega (arith, below, now, then)

-- ---- it begins as the travel

-- a flight without a finding has no second copy, and a copy waits
goes_on-without_finding : (n : Net) (count : ℕ) (f : Flight) → finding n count f ≡ None → goes_on f ≡ true
goes_on-without_finding n count f none =
    let waits = (finding-none n count f none).1 in
    goes_on-from_waiting f (first_double [] f.carried) refl
    (ap is_some (double-none_without_finding n count f none)) (λ e. omega (arith, e, waits))

-- where a travel has a finding, the run past strays has the same picks so far
pub begins_as_travel : (n : Net) (count : ℕ) (is js : List ℕ) (f : Flight) (x : Finding)
    → IsTravel n count [] false is f x → IsRunPastStrays n js f → (more : List ℕ) × (js ≡ is ++ more)
begins_as_travel n count [] js f x travel past = (js, refl)
begins_as_travel n count (i ∷ is) [] f x travel past =
    absurd (let both : true ≡ false = sym (goes_on-without_finding n count f travel.0) ∙ past in cc)
begins_as_travel n count (i ∷ is) (j ∷ js) f x travel past =
    let same : j ≡ i = past.1 ∙ sym travel.1 in
    let rest = begins_as_travel n count is js (step n i f) x travel.2
    (subst (λ (k : ℕ). IsRunPastStrays n js (step n k f)) same past.2) in
    (rest.0, λ k. same k ∷ rest.1 k)
