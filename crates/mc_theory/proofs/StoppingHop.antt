-- Where a packet is stopped.
use Rattle.std.proofs.Common.{◌≡◌, ℕ, ◌+◌, ◌-◌, ◌<◌, ◌≤◌, inl, inr, List, [], ◌∷◌, ◌++◌, length}
use Rattle.std.proofs.Common.{refl, ap, sym, ◌∙◌, ap₂, subst, arith, ◌↔◌, Bool, true, false, cond}
use Rattle.std.proofs.Common.{nat_lt, ltb-true, ltb-false, Option, Some, None}
use Rattle.std.proofs.lemmas.Bool.{cases_lt, le-ltb}
use Rattle.mc_theory.specs.Paths.{Hop, PassesHops, need, IsStopped}
use Rattle.mc_theory.specs.Hops.{first_stop_or_here, stopping_hop}
use Rattle.mc_theory.proofs.AppendSplits.{append_split-cases}
use Rattle.mc_theory.proofs.Paths.{passes_hops-from_need}

-- each hop takes one TTL at least
length-below_passing_ttl : (t : ℕ) (hs : List Hop) → PassesHops t hs → length hs ≤ t
length-below_passing_ttl t [] p = omega arith
length-below_passing_ttl t (h ∷ hs) p = let here = p.0 in omega (arith, here)

passes_hops-append_right : (t : ℕ) (hs : List Hop) (h : Hop) (ks : List Hop) → PassesHops t (hs ++ h ∷ ks) →
    PassesHops t (h ∷ ks)
passes_hops-append_right t [] h ks p = p
passes_hops-append_right t (g ∷ hs) h ks p = passes_hops-append_right t hs h ks p.1

-- ---- a packet below the need is stopped

abbrev IsStoppedSomewhere : ℕ → List Hop → Type 0
IsStoppedSomewhere t hs = (h : Hop) × (left : ℕ) × IsStopped t hs h left

pub is_stopped-from_need_above : (t : ℕ) (hs : List Hop) → 1 ≤ t → t < need hs → IsStoppedSomewhere t hs
is_stopped-from_need_above t [] low lt = absurd (omega (arith, low, lt))
is_stopped-from_need_above t (h ∷ hs) low lt = elim (cases_lt t (need hs)) [
  | inl before ↦ (let s = is_stopped-from_need_above t hs low before in
      let at = s.2 in (
        s.0,
        s.1,
        record {
          after = h ∷ at.after;
          before = at.before;
          split = ap (λ (ks : List Hop). h ∷ ks) at.split;
          comes = at.comes;
          ttl = at.ttl;
          stops = at.stops;
        },
      ))
  | inr le ↦ (let comes = passes_hops-from_need t hs le in
      let long = length-below_passing_ttl t hs comes in
      let ttl : t - length hs + length hs ≡ t = omega (arith, long) in
      let stops : t - length hs ≤ h.threshold = omega (arith, long, lt, le) in (
        h,
        t - length hs,
        record {
          after = [];
          before = hs;
          split = refl;
          comes = comes;
          ttl = ttl;
          stops = stops;
        },
      ))
]

need-append_right : (hs : List Hop) (h : Hop) (ks : List Hop) → need (h ∷ ks) ≤ need (hs ++ h ∷ ks)
need-append_right [] h ks = omega arith
need-append_right (g ∷ hs) h ks = let rest = need-append_right hs h ks in omega (arith, rest)

-- only a packet below the need is stopped
pub need_above-from_stopped : (t : ℕ) (hs : List Hop) (h : Hop) (left : ℕ) → IsStopped t hs h left →
    t < need hs
need_above-from_stopped t hs h left s =
    let rest = need-append_right s.after h s.before in
    let all : need (s.after ++ h ∷ s.before) ≡ need hs = ap (λ (ks : List Hop). need ks)
    (sym s.split) in
    let ttl = s.ttl in
    let stops = s.stops in
    omega (arith, rest, all, ttl, stops)

-- ---- at one hop

-- what was stopped at a hop doesn't get through by it
not_passing-at_stopping_hop : (t : ℕ) (hs : List Hop) (h : Hop) (left : ℕ) → (s : IsStopped t hs h left) →
    (ks js : List Hop) → ks ≡ js ++ h ∷ s.before → PassesHops t ks → ⊥
not_passing-at_stopping_hop t hs h left s ks js e p =
    let here = (passes_hops-append_right t js h s.before (subst (PassesHops t) e p)).0 in
    let ttl = s.ttl in
    let stops = s.stops in
    omega (arith, here, ttl, stops)

pub is_stopped-unique : (t : ℕ) (hs : List Hop) (h : Hop) (left : ℕ) (g : Hop) (more : ℕ) →
    IsStopped t hs h left → IsStopped t hs g more → (h ≡ g) × (left ≡ more)
is_stopped-unique t hs h left g more p q = elim
    (append_split-cases p.after h p.before q.after g q.before (sym p.split ∙ q.split)) [
      | inl s ↦ (let long : length p.before ≡ length q.before = ap (λ (ks : List Hop). length ks)
          s.2 in
          let ttl = p.ttl in
          let ttl' = q.ttl in
          (s.1, omega (arith, long, ttl, ttl')))
      | inr (inl s) ↦ absurd (not_passing-at_stopping_hop t hs h left p q.before s.0 s.2 q.comes)
      | inr (inr s) ↦ absurd (not_passing-at_stopping_hop t hs g more q p.before s.0 s.2 p.comes)
    ]

-- ---- it is found hop by hop

-- what holds of the hop that `stopping_hop` finds, if it finds one
abbrev pub IsCorrectStop : ℕ → List Hop → Option (Hop × ℕ) → Type 0
IsCorrectStop t hs None = PassesHops t hs
IsCorrectStop t hs (Some stop) = IsStopped t hs stop.0 stop.1

correct_stop-here : (t : ℕ) (h : Hop) (hs : List Hop) (test : Bool) →
    nat_lt h.threshold (t - length hs) ≡ test → PassesHops t hs →
    IsCorrectStop t (h ∷ hs) (cond test None (Some (h, t - length hs)))
correct_stop-here t h hs true q p =
    let lt = ltb-true h.threshold (t - length hs) q in
    (omega (arith, lt), p)
correct_stop-here t h hs false q p =
    let le = ltb-false h.threshold (t - length hs) q in
    let long = length-below_passing_ttl t hs p in
    let ttl : t - length hs + length hs ≡ t = omega (arith, long) in
    record { after = []; before = hs; split = refl; comes = p; ttl = ttl; stops = le }

correct_stop-more : (t : ℕ) (h : Hop) (hs : List Hop) (o : Option (Hop × ℕ)) → IsCorrectStop t hs o →
    IsCorrectStop t (h ∷ hs) (first_stop_or_here h (t - length hs) o)
correct_stop-more t h hs None p = correct_stop-here t h hs (nat_lt h.threshold (t - length hs)) refl p
correct_stop-more t h hs (Some stop) s = record {
  after = h ∷ s.after;
  before = s.before;
  split = ap (λ (ks : List Hop). h ∷ ks) s.split;
  comes = s.comes;
  ttl = s.ttl;
  stops = s.stops;
}

pub stopping_hop-correct : (t : ℕ) (hs : List Hop) → IsCorrectStop t hs (stopping_hop t hs)
stopping_hop-correct t [] = tt
stopping_hop-correct t (h ∷ hs) = correct_stop-more t h hs (stopping_hop t hs) (stopping_hop-correct t hs)

-- a packet that is stopped doesn't get through
pub not_passing-when_stopped : (t : ℕ) (hs : List Hop) (h : Hop) (left : ℕ) → IsStopped t hs h left →
    PassesHops t hs → ⊥
not_passing-when_stopped t hs h left s p = not_passing-at_stopping_hop t hs h left s hs s.after s.split p

no_stop-from_passes : (t : ℕ) (hs : List Hop) (o : Option (Hop × ℕ)) → IsCorrectStop t hs o →
    PassesHops t hs →
    o ≡ None
no_stop-from_passes t hs None d p = refl
no_stop-from_passes t hs (Some stop) d p = absurd (not_passing-when_stopped t hs stop.0 stop.1 d p)

some_stop-from_is_stopped : (t : ℕ) (hs : List Hop) (o : Option (Hop × ℕ)) (h : Hop) (left : ℕ) →
    IsCorrectStop t hs o → IsStopped t hs h left → o ≡ Some (h, left)
some_stop-from_is_stopped t hs None h left d s = absurd (not_passing-when_stopped t hs h left s d)
some_stop-from_is_stopped t hs (Some stop) h left d s =
    let one = is_stopped-unique t hs stop.0 stop.1 h left d s in
    ap₂ (λ (g : Hop) (k : ℕ). Some (g, k)) one.0 one.1

pub stopping_hop-none : (t : ℕ) (hs : List Hop) → (stopping_hop t hs ≡ None) ↔ PassesHops t hs
stopping_hop-none t hs = (
  (λ e. subst (IsCorrectStop t hs) e (stopping_hop-correct t hs)),
  (λ p. no_stop-from_passes t hs (stopping_hop t hs) (stopping_hop-correct t hs) p),
)

pub stopping_hop-some : (t : ℕ) (hs : List Hop) (h : Hop) (left : ℕ) →
    (stopping_hop t hs ≡ Some (h, left)) ↔ IsStopped t hs h left
stopping_hop-some t hs h left = (
  (λ e. subst (IsCorrectStop t hs) e (stopping_hop-correct t hs)),
  (λ s. some_stop-from_is_stopped t hs (stopping_hop t hs) h left (stopping_hop-correct t hs) s),
)

-- what stopped it stops it, whatever hops come after
pub stopping_hop-more : (t : ℕ) (after hs : List Hop) (stop : Hop × ℕ) → stopping_hop t hs ≡ Some stop →
    stopping_hop t (after ++ hs) ≡ Some stop
stopping_hop-more t [] hs stop e = e
stopping_hop-more t (h ∷ after) hs stop e =
    ap (first_stop_or_here h (t - length (after ++ hs))) (stopping_hop-more t after hs stop e)

pub stopping_hop-here : (t : ℕ) (hs : List Hop) (h : Hop) → stopping_hop t hs ≡ None →
    t - length hs ≤ h.threshold → stopping_hop t (h ∷ hs) ≡ Some (h, t - length hs)
stopping_hop-here t hs h e le = ap (first_stop_or_here h (t - length hs)) e ∙
    ap (λ (b : Bool). cond b None (Some (h, t - length hs))) (le-ltb h.threshold (t - length hs) le)
