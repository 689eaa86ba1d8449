-- In a travel's last flight the walk back from each copy ends at the source's copy.
use Rattle.std.proofs.Common.{◌≡◌, ℕ, zero, suc, ◌+◌, ◌-◌, ◌<◌, ◌≤◌, inl, inr, Bool, true, false}
use Rattle.std.proofs.Common.{cond, ◌==◌, ◌||◌, List, [], ◌∷◌, ◌++◌, length, Option, Some, None}
use Rattle.std.proofs.Common.{refl, ap, sym, ◌∙◌, subst, arith, eqb-true, eq-eqb, ◌↔◌, IsTrue}
use Rattle.std.proofs.lemmas.Bool.{or_cases, or_left, or_right}
use Rattle.mc_theory.specs.Lists.{In, Distinct}
use Rattle.mc_theory.specs.Nets.{Net, Interface}
use Rattle.mc_theory.specs.Flights.{Copy, Flight, start, step, run}
use Rattle.mc_theory.specs.Certificates.{lans, IsClean}
use Rattle.mc_theory.specs.Findings.{Finding, first_copy_on, from_lan, taken_from, IsWalkBack}
use Rattle.mc_theory.specs.Findings.{AllWalksEnd, sender_on, is_lan_or, walk_visits, numbers_left, IsTravel}
use Rattle.mc_theory.specs.Findings.{handles}
use Rattle.mc_theory.specs.CopyOrigins.{IsSentOn}
use Rattle.mc_theory.proofs.ListLemmas.{in-append_cases}
use Rattle.mc_theory.proofs.CopyOrigins.{AllHeard, StepGrows, grows-step, all_heard-start}
use Rattle.mc_theory.proofs.CertificateOfRun.{first_copy_on-of_member}
use Rattle.mc_theory.proofs.CopyAndStepBounds.{total-at_most_of_superset, total-of_ones}
use Rattle.mc_theory.proofs.Travels.{finding-none}

-- the copy was sent on from a LAN's first copy
abbrev pub IsSentOnFromFirst : Net → List Copy → Copy → Type 0
IsSentOnFromFirst n cs c = (i : Interface) → c.sender ≡ Some i →
    (b : Copy) × (first_copy_on cs b.lan ≡ Some b) × IsSentOn n b c i

-- each copy of a flight was sent on from such a copy, and has at most TTL t
pub record IsRooted (n : Net) (t : ℕ) (cs : List Copy) : Type 0 where
  pub base : (c : Copy) → In c cs → IsSentOnFromFirst n cs c
  pub low : (c : Copy) → In c cs → c.ttl ≤ t

-- ---- the first copy of a LAN stays the first

first_copy_on-append_step : (c : Copy) (cs ds : List Copy) (l : ℕ) (b : Copy) (test : Bool) →
    cond test (Some c) (first_copy_on cs l) ≡ Some b → (first_copy_on cs l ≡ Some b →
    first_copy_on (cs ++ ds) l ≡ Some b) → cond test (Some c) (first_copy_on (cs ++ ds) l) ≡ Some b
first_copy_on-append_step c cs ds l b true e ih = e
first_copy_on-append_step c cs ds l b false e ih = ih e

pub first_copy_on-append : (cs ds : List Copy) (l : ℕ) (b : Copy) → first_copy_on cs l ≡ Some b →
    first_copy_on (cs ++ ds) l ≡ Some b
first_copy_on-append [] ds l b e = absurd cc
first_copy_on-append (c ∷ cs) ds l b e =
    first_copy_on-append_step c cs ds l b (c.lan == l) e (first_copy_on-append cs ds l b)

in-first_copy_on_step : (c : Copy) (cs : List Copy) (l : ℕ) (b : Copy) (test : Bool) →
    cond test (Some c) (first_copy_on cs l) ≡ Some b → (first_copy_on cs l ≡ Some b → In b cs) → In b (c ∷ cs)
in-first_copy_on_step c cs l b true e ih = inl cc
in-first_copy_on_step c cs l b false e ih = inr (ih e)

pub in-first_copy_on : (cs : List Copy) (l : ℕ) (b : Copy) → first_copy_on cs l ≡ Some b → In b cs
in-first_copy_on [] l b e = absurd cc
in-first_copy_on (c ∷ cs) l b e = in-first_copy_on_step c cs l b (c.lan == l) e (in-first_copy_on cs l b)

-- ---- a travel's flights are rooted

is_rooted-step : (n : Net) (t : ℕ) (f g : Flight) → IsClean f → StepGrows n f g →
    IsRooted n t f.carried → IsRooted n t g.carried
is_rooted-step n t f g clean (inr e) r = subst (IsRooted n t) (sym e) r
is_rooted-step n t f g clean (inl s) r = subst (IsRooted n t) (sym s.2.1) (record {
  base = λ c h i q. elim (in-append_cases c f.carried s.2.0 h) [
    | inl k ↦ (let b = r.base c k i q in (b.0, first_copy_on-append f.carried s.2.0 b.0.lan b.0 b.1, b.2))
    | inr k ↦ (let z = s.2.2 c k in
        let both : ◌≡◌ {A = Option Interface} (Some z.0) (Some i) = sym z.1 ∙ q in
        let same : z.0 ≡ i = cc in (
          s.0,
          first_copy_on-append f.carried s.2.0 s.0.lan s.0
              (first_copy_on-of_member s.0 f.carried clean.once s.1),
          subst (IsSentOn n s.0 c) same z.2,
        ))
  ];
  low = λ c h. elim (in-append_cases c f.carried s.2.0 h) [
    | inl k ↦ r.low c k
    | inr k ↦ (let z = s.2.2 c k in let ttl = z.2.ttl in let low =
        r.low s.0 s.1 in omega (arith, ttl, low))
  ];
})

pub is_rooted-run_of_travel : (n : Net) (count t : ℕ) (numbers : List ℕ) (last : Bool) (is : List ℕ)
    (f : Flight)
    (x : Finding) → AllHeard n f → IsRooted n t f.carried → IsTravel n count numbers last is f x →
    IsRooted n t (run n (handles is) f).carried
is_rooted-run_of_travel n count t numbers last [] f x heard r travel = r
is_rooted-run_of_travel n count t numbers last (i ∷ is) f x heard r travel =
    let g = grows-step n i f heard in
    is_rooted-run_of_travel n count t (numbers_left numbers) last is (step n i f) x g.1
    (is_rooted-step n t f (step n i f) (finding-none n count f travel.0).0 g.0 r) travel.2

pub is_rooted-start : (n : Net) (t : ℕ) → IsRooted n t (start n t).carried
is_rooted-start n t = record {
  base = λ c h i q. elim h [
    | inl e ↦ absurd (let z : ◌≡◌ {A = Option Interface} None (Some i) =
        ap (λ (x : Copy). x.sender) e ∙ q in cc)
    | inr z ↦ absurd z
  ];
  low = λ c h. elim h [ inl e ↦ omega (arith, ap (λ (x : Copy). x.ttl) e) | inr z ↦ absurd z ];
}

-- ---- in rooted copies walks end

-- The walk back from c: its copies are carried ones, each with a greater TTL than the one before.
pub record WalkOfCopy (n : Net) (cs : List Copy) (c : Copy) : Type 0 where
  pub walk : List Copy
  pub back : IsWalkBack n cs c walk
  pub within : (d : Copy) → In d walk → In d cs
  pub above : (d : Copy) → In d walk → c.ttl < d.ttl
  pub once : Distinct walk

walk_of_copy-by_sender : (n : Net) (t k : ℕ) (cs : List Copy) (c : Copy) (o : Option Interface) →
    c.sender ≡ o → t ≡ c.ttl + k → IsRooted n t cs → In c cs →
    ((b : Copy) → In b cs → b.ttl ≡ c.ttl + 1 → WalkOfCopy n cs b) → WalkOfCopy n cs c
walk_of_copy-by_sender n t k cs c None q e r c_in up = record {
  walk = [];
  back = q;
  within =
      λ d h. absurd h;
  above = λ d h. absurd h;
  once = tt;
}
walk_of_copy-by_sender n t k cs c (Some i) q e r c_in up =
    let b = r.base c c_in i q in
    let s = b.2 in
    let b_in = in-first_copy_on cs b.0.lan b.0 b.1 in
    let w = up b.0 b_in (sym s.ttl) in
    let from : from_lan n c.sender ≡ Some b.0.lan = ap (from_lan n) q ∙
    (ap (taken_from n i.0) s.row ∙ s.from) in
    record {
      walk = b.0 ∷ w.walk;
      back = (from, b.1, w.back);
      within = λ d h. elim h [ inl z ↦ subst (λ x. In x cs) z b_in | inr k ↦ w.within d k ];
      above = λ d h. elim h [
        | inl z ↦ (let ttl = s.ttl in subst (λ (x : Copy). c.ttl < x.ttl) z
            (omega (arith, ttl)))
        | inr k ↦ (let a = w.above d k in let ttl =
            s.ttl in omega (arith, a, ttl))
      ];
      once = ((λ h. let a = w.above b.0 h in omega (arith, a)), w.once);
    }

walk_of_copy-by_ttl : (n : Net) (t k : ℕ) (cs : List Copy) (c : Copy) → t ≡ c.ttl + k → IsRooted n t cs →
    In c cs → WalkOfCopy n cs c
walk_of_copy-by_ttl n t zero cs c e r c_in = walk_of_copy-by_sender n t zero cs c c.sender refl e r c_in
    (λ b b_in q. absurd (let low = r.low b b_in in omega (arith, low)))
walk_of_copy-by_ttl n t (suc k) cs c e r c_in = walk_of_copy-by_sender n t (suc k) cs c c.sender refl e r c_in
    (λ b b_in q. walk_of_copy-by_ttl n t k cs b (omega (arith, q, e)) r b_in)

-- the walk has fewer copies than were carried
walk-fewer_than_copies : (n : Net) (cs : List Copy) (c : Copy) → In c cs → (w : WalkOfCopy n cs c) →
    length w.walk < length cs
walk-fewer_than_copies n cs c c_in w =
    let once : Distinct (c ∷ w.walk) = ((λ h. let a = w.above c h in omega (arith, a)), w.once) in
    let h = total-at_most_of_superset (λ _. 1) (c ∷ w.walk) cs once (λ d k. elim k
    [ inl q ↦ subst (λ x. In x cs) q c_in | inr z ↦ w.within d z ]) in
    let one = total-of_ones (c ∷ w.walk) in
    let all = total-of_ones cs in
    omega (arith, h, one, all)

-- ---- `walk_visits` decides which LANs they pass

first_sender_on_step : (c : Copy) (cs : List Copy) (l : ℕ) (b : Copy) (test : Bool) →
    cond test (Some c) (first_copy_on cs l) ≡ Some b →
    (first_copy_on cs l ≡ Some b → sender_on cs l ≡ b.sender)
    → cond test c.sender (sender_on cs l) ≡ b.sender
first_sender_on_step c cs l b true e ih = let same : c ≡ b = cc in ap (λ (x : Copy). x.sender) same
first_sender_on_step c cs l b false e ih = ih e

pub first_sender_on : (cs : List Copy) (l : ℕ) (b : Copy) → first_copy_on cs l ≡ Some b →
    sender_on cs l ≡ b.sender
first_sender_on [] l b e = absurd cc
first_sender_on (c ∷ cs) l b e = first_sender_on_step c cs l b (c.lan == l) e (first_sender_on cs l b)

walk_visits-more : (n : Net) (cs : List Copy) (l k : ℕ) (x : Option Interface) (d : Copy) →
    from_lan n x ≡ Some d.lan → first_copy_on cs d.lan ≡ Some d →
    walk_visits n cs l (suc k) x ≡ (d.lan == l) || walk_visits n cs l k d.sender
walk_visits-more n cs l k x d from on = ap (is_lan_or l (λ p. walk_visits n cs l k (sender_on cs p))) from ∙
    ap (λ y. (d.lan == l) || walk_visits n cs l k y) (first_sender_on cs d.lan d on)

walk_visits-iff_in_walk : (n : Net) (cs : List Copy) (l k : ℕ) (c : Copy) (ds : List Copy) →
    IsWalkBack n cs c ds → length ds < k → IsTrue (walk_visits n cs l k c.sender) ↔ In l (lans ds)
walk_visits-iff_in_walk n cs l zero c ds back lt = absurd (omega arith)
walk_visits-iff_in_walk n cs l (suc k) c [] back lt =
    let none : walk_visits n cs l (suc k) c.sender ≡ false = ap (λ x. walk_visits n cs l (suc k) x) back in
    ((λ h. absurd cc), (λ h. absurd h))
walk_visits-iff_in_walk n cs l (suc k) c (d ∷ ds) back lt =
    let next = walk_visits-more n cs l k c.sender d back.0 back.1 in
    let ih = walk_visits-iff_in_walk n cs l k d ds back.2 (omega (arith, lt)) in (
      (λ h. elim (or_cases (d.lan == l) (walk_visits n cs l k d.sender) (sym next ∙ h))
          [ inl e ↦ inl (eqb-true d.lan l e) | inr e ↦ inr (ih.0 e) ]),
      (λ h. elim h [
        | inl e ↦ next ∙ or_left (d.lan == l) (walk_visits n cs l k d.sender) (eq-eqb d.lan l e)
        | inr z ↦ next ∙ or_right (d.lan == l) (walk_visits n cs l k d.sender) (ih.1 z)
      ]),
    )

pub walk_ends-travel : (n : Net) (count t : ℕ) (numbers : List ℕ) (last : Bool) (is : List ℕ) (x : Finding) →
    IsTravel n count numbers last is (start n t) x → AllWalksEnd n
    (run n (handles is) (start n t)).carried
walk_ends-travel n count t numbers last is x travel c c_in =
    let cs = (run n (handles is) (start n t)).carried in
    let r = is_rooted-run_of_travel n count t numbers last is (start n t) x (all_heard-start n t)
    (is_rooted-start n t)
    travel in
    let low = r.low c c_in in
    let w = walk_of_copy-by_ttl n t (t - c.ttl) cs c (omega (arith, low)) r c_in in
    let short = walk-fewer_than_copies n cs c c_in w in
    record {
      walk = w.walk;
      back = w.back;
      short = short;
      visited =
          λ l. walk_visits-iff_in_walk n cs l (length cs) c w.walk w.back short;
    }
