-- Under a certificate each step is clean, and each copy is as its LAN's entry says.
use Rattle.std.proofs.Common.{◌≡◌, ℕ, ◌+◌, ◌-◌, ◌<◌, ◌≤◌, inl, inr, Bool, true, false, cond, ◌==◌}
use Rattle.std.proofs.Common.{nat_lt, List, [], ◌∷◌, length, slice_get, Option, Some, None, IsSome}
use Rattle.std.proofs.Common.{refl, ap, sym, ◌∙◌, subst, arith, eqb-true, ltb-true}
use Rattle.mc_theory.specs.Lists.{In}
use Rattle.mc_theory.specs.Nets.{Net, IsNet, Row, Interface}
use Rattle.mc_theory.specs.Nets.Row.{Exact, Open, NoRow}
use Rattle.mc_theory.specs.Flights.{Copy, Waiting, Flight, leave, send, sends, handle_by_row, handle}
use Rattle.mc_theory.specs.Flights.{without_waiting, step, start, Pick, IsLossless, run, InRange}
use Rattle.mc_theory.specs.Flights.Pick.{Handles, Loses}
use Rattle.mc_theory.specs.Certificates.{Entry, Feeds, IsTree, FitsEntry, lans, IsClean, source_entry_of}
use Rattle.mc_theory.proofs.ListLemmas.{in-push_cases, in-map_cases, slice_get-in, equal-from_same_image}
use Rattle.mc_theory.proofs.RunInvariant.{RunInvariant}
use Rattle.mc_theory.proofs.StepInvariant.{run_invariant-start, run_invariant-without}
use Rattle.mc_theory.proofs.StepInvariant.{SendingInvariant, sending_invariant-start}
use Rattle.mc_theory.proofs.StepInvariant.{sending_invariant-put, copy_sent_by}
use Rattle.mc_theory.proofs.StepInvariant.{run_invariant-send, run_invariant-step}
use Rattle.mc_theory.proofs.StepInvariant.{run_invariant-loss, slice_get-none}

-- each carried copy is as its LAN's entry says
abbrev pub CopiesFitEntries : List Entry → ℕ → Flight → Type 0
CopiesFitEntries es t f = (c : Copy) → In c f.carried → (e : Entry) × In e es × FitsEntry t e c

is_some-not_none : {A : Type 0} (o : Option A) → IsSome o → o ≡ None → ⊥
is_some-not_none None h e = absurd cc
is_some-not_none (Some x) h e = absurd cc

-- the entry of the LAN that a row takes from feeds by each pair that sends
pub feeds-from_sent_pair : (n : Net) (t : ℕ) (out : List Interface) (r v s : ℕ) (all : List (ℕ × ℕ))
    (b : Copy) (p : ℕ × ℕ) (ps : List (ℕ × ℕ)) (f : Flight) (e : Entry) → t ≤ 255 →
    SendingInvariant n t out r v s all b (p ∷ ps) f → FitsEntry t e b → p.1 < s → Feeds n e r p.0 p.1
feeds-from_sent_pair n t out r v s all b p ps f e le m fits lt = record {
  incoming = v;
  pairs = all;
  row = m.row;
  from = m.from ∙ ap Some (sym fits.lan);
  pair = m.within p (inl refl);
  live = omega (arith, m.ttl, fits.ttl);
}

safe-leave : (n : Net) (es : List Entry) (t : ℕ) (out : List Interface) (r v s : ℕ)
    (all : List (ℕ × ℕ)) (b : Copy) (p : ℕ × ℕ) (ps : List (ℕ × ℕ)) (f : Flight) (o : Option ℕ) →
    IsNet n → IsTree n es → t ≤ 255 → SendingInvariant n t out r v s all b (p ∷ ps) f →
    CopiesFitEntries es t f → p.1 < s →
    n.placed r p.0 ≡ o
    → IsClean (leave n (s - 1) (r, p.0) o f) × CopiesFitEntries es t (leave n (s - 1) (r, p.0) o f)
safe-leave n es t out r v s all b p ps f None net tree le m named lt on =
    let base = named b m.base_in in
    absurd (is_some-not_none (n.placed r p.0) (tree.no_stray base.0 r p.0 p.1 base.1
    (feeds-from_sent_pair n t out r v s all b p ps f base.0 le m base.2 lt)) on)
safe-leave n es t out r v s all b p ps f (Some l) net tree le m named lt on =
    let base = named b m.base_in in
    let child = tree.tree base.0 r p.0 p.1 l base.1 (feeds-from_sent_pair n t out r v s all b p ps f base.0 le
    m base.2 lt) on in
    let new : In l (lans f.carried) → ⊥ = λ h. (
    let d = in-map_cases (λ (c : Copy). c.lan) l f.carried h in
    let entry = named d.0 d.1 in
    let same : entry.0 ≡ child.0 = equal-from_same_image (λ (e : Entry). e.lan) entry.0 child.0 es
    tree.one_entry entry.1 child.1 (entry.2.lan ∙ (d.2 ∙ sym child.2)) in
    m.fresh d.0 p.0 d.1 (sym entry.2.sender ∙ (ap (λ (e : Entry). e.forwarder) same ∙
    child.3.forwarder)) (inl refl)) in
    let ttl : s - 1 + child.0.rank ≡ t = omega (arith, m.ttl, base.2.ttl, child.3.rank) in
    let need : child.0.need ≤ t = omega (arith, m.ttl, base.2.ttl, base.2.need, child.3.need) in (
      (sending_invariant-put n t out r v s all b p ps f l net m lt on new).inv.clean,
      λ c h. elim (in-push_cases c f.carried (copy_sent_by s r p l) h) [
        | inl k ↦ named c k
        | inr q ↦ (
          child.0,
          child.1,
          subst (λ (x : Copy). FitsEntry t child.0 x) q
              (record { lan = child.2; sender = child.3.forwarder; ttl = ttl; need = need }),
        )
      ],
    )

safe-cond : (n : Net) (es : List Entry) (t : ℕ) (out : List Interface) (r v s : ℕ)
    (all : List (ℕ × ℕ)) (b : Copy) (p : ℕ × ℕ) (ps : List (ℕ × ℕ)) (f : Flight) (test : Bool) →
    nat_lt p.1 s ≡ test → IsNet n → IsTree n es → t ≤ 255 → SendingInvariant n t out r v s all b (p ∷ ps) f →
    CopiesFitEntries es t f
    → IsClean (cond test (leave n (s - 1) (r, p.0) (n.placed r p.0) f) f) × CopiesFitEntries es t
    (cond test (leave n (s - 1) (r, p.0) (n.placed r p.0) f) f)
safe-cond n es t out r v s all b p ps f true e net tree le m named =
    safe-leave n es t out r v s all b p ps f (n.placed r p.0) net tree le m named (ltb-true p.1 s e)
    refl
safe-cond n es t out r v s all b p ps f false e net tree le m named = (m.inv.clean, named)

safe-sends : (n : Net) (es : List Entry) (t : ℕ) (out : List Interface) (r v s : ℕ)
    (all : List (ℕ × ℕ)) (b : Copy) (ps : List (ℕ × ℕ)) (f : Flight) → IsNet n → IsTree n es →
    t ≤ 255 → SendingInvariant n t out r v s all b ps f → CopiesFitEntries es t f →
    IsClean (sends n r s ps f) × CopiesFitEntries es t (sends n r s ps f)
safe-sends n es t out r v s all b [] f net tree le m named = (m.inv.clean, named)
safe-sends n es t out r v s all b (p ∷ ps) f net tree le m named =
    let one = safe-cond n es t out r v s all b p ps f (nat_lt p.1 s) refl net tree le m named in
    safe-sends n es t out r v s all b ps (send n r s p f) net tree le
    (run_invariant-send n t out r v s all b p ps f net m one.0).0 one.1

safe-exact : (n : Net) (es : List Entry) (t : ℕ) (out : List Interface) (f : Flight) (i : ℕ)
    (w : Waiting) (incoming : ℕ) (all : List (ℕ × ℕ)) (test : Bool) → (incoming == w.vif) ≡ test →
    IsNet n → IsTree n es → t ≤ 255 → RunInvariant n t out f → CopiesFitEntries es t f →
    slice_get f.waiting i ≡ Some w → n.row w.router ≡ Exact incoming all
    → IsClean (cond test (sends n w.router w.ttl all (without_waiting i f)) (without_waiting i f)) ×
    CopiesFitEntries es t
    (cond test (sends n w.router w.ttl all (without_waiting i f)) (without_waiting i f))
safe-exact n es t out f i w incoming all true q net tree le v named e row =
    let m = sending_invariant-start n t out f i w all net v e (row ∙ ap (λ (x : ℕ). Exact x all)
    (eqb-true incoming w.vif q)) in
    safe-sends n es t out w.router w.vif w.ttl all m.0 all (without_waiting i f) net tree le m.1 named
safe-exact n es t out f i w incoming all false q net tree le v named e row =
    ((run_invariant-without n t out f i w v e).clean, named)

safe-row : (n : Net) (es : List Entry) (t : ℕ) (out : List Interface) (f : Flight) (i : ℕ)
    (w : Waiting) (row : Row) → n.row w.router ≡ row → IsNet n → IsTree n es → t ≤ 255 →
    RunInvariant n t out f → CopiesFitEntries es t f → slice_get f.waiting i ≡ Some w
    → IsClean (handle_by_row n w row (without_waiting i f)) ×
    CopiesFitEntries es t (handle_by_row n w row (without_waiting i f))
safe-row n es t out f i w (Exact incoming all) q net tree le v named e =
    safe-exact n es t out f i w incoming all (incoming == w.vif) refl net tree le v named e q
safe-row n es t out f i w Open q net tree le v named e =
    let heard = v.heard w (slice_get-in f.waiting i w e) in
    let entry = named heard.0 heard.1 in
    absurd (tree.no_wildcard entry.0 w.router w.vif entry.1 q (heard.2 ∙ ap Some (sym entry.2.lan)))
safe-row n es t out f i w NoRow q net tree le v named e =
    ((run_invariant-without n t out f i w v e).clean, named)

safe-handle : (n : Net) (es : List Entry) (t : ℕ) (out : List Interface) (f : Flight) (i : ℕ)
    (o : Option Waiting) → slice_get f.waiting i ≡ o → i < length f.waiting → IsNet n →
    IsTree n es → t ≤ 255 → RunInvariant n t out f → CopiesFitEntries es t f
    → IsClean (handle n o (without_waiting i f)) × CopiesFitEntries es t (handle n o (without_waiting i f))
safe-handle n es t out f i None e lt net tree le v named = absurd (slice_get-none f.waiting i lt e)
safe-handle n es t out f i (Some w) e lt net tree le v named =
    safe-row n es t out f i w (n.row w.router) refl net tree le v named e

-- a flight of an accepted flow
pub record IsSafeFlight (n : Net) (es : List Entry) (t : ℕ) (out : List Interface) (f : Flight) : Type 0
  where
    pub inv : RunInvariant n t out f
    pub named : CopiesFitEntries es t f

pub safe-start : (n : Net) (es : List Entry) (t : ℕ) → IsNet n → IsTree n es → 1 ≤ t →
    IsSafeFlight n es t [] (start n t)
safe-start n es t net tree le = record {
  inv = run_invariant-start n t net;
  named = λ c h. elim h [
    | inl q ↦ (
      source_entry_of n,
      tree.source_entry,
      subst
          (λ (x : Copy). FitsEntry t (source_entry_of n) x) q (record
          { lan = refl; sender = refl; ttl = omega arith; need = le }),
    )
    | inr z ↦ absurd z
  ];
}

pub safe-step : (n : Net) (es : List Entry) (t : ℕ) (out : List Interface) (f : Flight) (i : ℕ) →
    IsNet n → IsTree n es → t ≤ 255 → i < length f.waiting → IsSafeFlight n es t out f →
    IsSafeFlight n es t out (step n i f)
safe-step n es t out f i net tree le lt s =
    let z = safe-handle n es t out f i (slice_get f.waiting i) refl lt net tree le s.inv s.named in
    record { inv = run_invariant-step n t out f i net lt s.inv z.0; named = z.1 }

-- a safe flight after picks, with nothing taken away where none was lost
abbrev pub IsSafeAfterPicks : Net → List Entry → ℕ → List Pick → List Interface → Flight → Type 0
IsSafeAfterPicks n es t ps out f = (lost : List Interface) × IsSafeFlight n es t lost f ×
    (IsLossless ps → lost ≡ out)

pub safe-run : (n : Net) (es : List Entry) (t : ℕ) (out : List Interface) (ps : List Pick)
    (f : Flight) → IsNet n → IsTree n es → t ≤ 255 → InRange n ps f → IsSafeFlight n es t out f →
    IsSafeAfterPicks n es t ps out (run n ps f)
safe-run n es t out [] f net tree le range s = (out, s, λ _. refl)
safe-run n es t out (Handles i ∷ ps) f net tree le range s =
    safe-run n es t out ps (step n i f) net tree le range.1
    (safe-step n es t out f i net tree le range.0 s)
safe-run n es t out (Loses i ∷ ps) f net tree le range s =
    let l = run_invariant-loss n t out f i range.0 s.inv in
    let r = safe-run n es t l.0 ps (without_waiting i f) net tree le range.1
    (record { inv = l.1; named = s.named }) in
    (r.0, r.1, λ z. absurd z)

-- of a run from the start without loss
pub safe-lossless : (n : Net) (es : List Entry) (t : ℕ) (ps : List Pick) → IsNet n → IsTree n es →
    1 ≤ t → t ≤ 255 → InRange n ps (start n t) → IsLossless ps →
    IsSafeFlight n es t [] (run n ps (start n t))
safe-lossless n es t ps net tree low high range whole =
    let r = safe-run n es t [] ps (start n t) net tree high range
    (safe-start n es t net tree low) in
    subst (λ (x : List Interface). IsSafeFlight n es t x (run n ps (start n t))) (r.2 whole) r.1
