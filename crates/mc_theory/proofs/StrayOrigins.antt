-- Where strays come from: a copy left by an exact row's pair whose vif is placed on no LAN, or came to a
-- row that isn't followed.
use Rattle.std.proofs.Common.{◌≡◌, ℕ, ◌-◌, ◌<◌, ◌⊎◌, inl, inr, Bool, true, false, cond, ◌==◌, nat_lt, List}
use Rattle.std.proofs.Common.{[], ◌∷◌, slice_get, Option, Some, None, refl, ap, subst, ◌∙◌}
use Rattle.std.proofs.Common.{eqb-true, ltb-true}
use Rattle.mc_theory.specs.Lists.{In}
use Rattle.mc_theory.specs.Nets.{Net, Row, Interface}
use Rattle.mc_theory.specs.Nets.Row.{Exact, Open, NoRow}
use Rattle.mc_theory.specs.Flights.{Copy, Waiting, Flight, Pick, handle, handle_by_row}
use Rattle.mc_theory.specs.Flights.{leave, run, send, sends, start, step, without_waiting}
use Rattle.mc_theory.specs.Flights.Pick.{Handles, Loses}
use Rattle.mc_theory.proofs.ListLemmas.{in-push_cases, in-remove, slice_get-in}
use Rattle.mc_theory.proofs.CopyOrigins.{AllHeard, all_heard-start, grows-step}
use Rattle.mc_theory.proofs.EachHearerForwards.{IsWithin, is_within-leave, is_within-send}

-- ---- each stray

-- An exact row took copy b, and sent it by interface i, which is placed on no LAN.
pub record LeftBy (n : Net) (b : Copy) (i : Interface) : Type 0 where
  pub incoming : ℕ
  pub pairs : List (ℕ × ℕ)
  pub threshold : ℕ
  pub row : n.row i.0 ≡ Exact incoming pairs
  pub from : n.placed i.0 incoming ≡ Some b.lan
  pub pair : In (i.1, threshold) pairs
  pub passed : threshold < b.ttl
  pub unplaced : n.placed i.0 i.1 ≡ None

-- Copy b came in by interface i of a router whose row isn't followed.
pub record CameToOpenRow (n : Net) (b : Copy) (i : Interface) : Type 0 where
  pub row : n.row i.0 ≡ Open
  pub placed : n.placed i.0 i.1 ≡ Some b.lan

-- one of these copies made the stray
abbrev pub IsStrayOf : Net → List Copy → Interface → Type 0
IsStrayOf n cs i = (b : Copy) × In b cs × (LeftBy n b i ⊎ CameToOpenRow n b i)

-- a carried copy made each stray
abbrev pub AreStraysOfCopies : Net → Flight → Type 0
AreStraysOfCopies n f = (i : Interface) → In i f.strays → IsStrayOf n f.carried i

-- ---- what a handling adds

-- of what a pair adds, one stray is new, or none
abbrev HasNewStray : Net → Flight → Interface → List Interface → Type 0
HasNewStray n f i strays = (j : Interface) → In j strays → In j f.strays ⊎ ((i ≡ j) × IsStrayOf n f.carried i)

are_strays-more : (n : Net) (f g : Flight) (i : Interface) → IsWithin f g → HasNewStray n f i g.strays →
    AreStraysOfCopies n f → AreStraysOfCopies n g
are_strays-more n f g i more new all j h = elim (new j h) [
  | inl k ↦ (let b = all j k in (b.0, more.copies b.0 b.1, b.2))
  | inr e ↦ (let b = e.1 in
      subst (IsStrayOf n g.carried) e.0 (b.0, more.copies b.0 b.1, b.2))
]

are_strays-leave : (n : Net) (t : ℕ) (i : Interface) (o : Option ℕ) (f : Flight) → n.placed i.0 i.1 ≡ o →
    (n.placed i.0 i.1 ≡ None → IsStrayOf n f.carried i) → AreStraysOfCopies n f →
    AreStraysOfCopies n (leave n t i o f)
are_strays-leave n t i None f e made all = are_strays-more n f (leave n t i None f) i
    (is_within-leave n t i None f) (λ j h. elim (in-push_cases j f.strays i h) [
      | inl k ↦ inl k
      | inr q ↦ inr (q, made e)
    ]) all
are_strays-leave n t i (Some l) f e made all = are_strays-more n f (leave n t i (Some l) f) i
    (is_within-leave n t i (Some l) f) (λ j h. inl h) all

are_strays-cond : (n : Net) (test : Bool) (f g : Flight) → AreStraysOfCopies n f →
    (test ≡ true → AreStraysOfCopies n g) → AreStraysOfCopies n (cond test g f)
are_strays-cond n true f g all more = more refl
are_strays-cond n false f g all more = all

are_strays-sends : (n : Net) (b : Copy) (r v : ℕ) (pairs ps : List (ℕ × ℕ)) (f : Flight) →
    n.row r ≡ Exact v pairs → ((p : ℕ × ℕ) → In p ps → In p pairs) → n.placed r v ≡ Some b.lan →
    In b f.carried → AreStraysOfCopies n f → AreStraysOfCopies n (sends n r b.ttl ps f)
are_strays-sends n b r v pairs [] f row within from b_in all = all
are_strays-sends n b r v pairs (p ∷ ps) f row within from b_in all =
    are_strays-sends n b r v pairs ps (send n r b.ttl p f) row (λ q h. within q (inr h)) from
    ((is_within-send n r b.ttl p f).copies b b_in)
    (are_strays-cond n (nat_lt p.1 b.ttl) f (leave n (b.ttl - 1) (r, p.0) (n.placed r p.0) f) all
    (λ e. are_strays-leave n (b.ttl - 1) (r, p.0) (n.placed r p.0) f refl (λ off. (
      b,
      b_in,
      inl (record {
        incoming = v;
        pairs = pairs;
        threshold = p.1;
        row = row;
        from = from;
        pair = within p (inl refl);
        passed = ltb-true p.1 b.ttl e;
        unplaced = off;
      }),
    )) all))

are_strays-exact_row : (n : Net) (w : Waiting) (b : Copy) (incoming : ℕ) (pairs : List (ℕ × ℕ)) (f : Flight)
    (test : Bool) → (incoming == w.vif) ≡ test → n.row w.router ≡ Exact incoming pairs →
    n.placed w.router w.vif ≡ Some b.lan → b.ttl ≡ w.ttl → In b f.carried → AreStraysOfCopies n f →
    AreStraysOfCopies n (cond test (sends n w.router w.ttl pairs f) f)
are_strays-exact_row n w b incoming pairs f true q row from ttl b_in all =
    subst (λ t. AreStraysOfCopies n (sends n w.router t pairs f)) ttl
    (are_strays-sends n b w.router incoming pairs pairs f row (λ p h. h)
    (ap (n.placed w.router) (eqb-true incoming w.vif q) ∙ from) b_in all)
are_strays-exact_row n w b incoming pairs f false q row from ttl b_in all = all

are_strays-row : (n : Net) (w : Waiting) (b : Copy) (row : Row) (f : Flight) → n.row w.router ≡ row →
    n.placed w.router w.vif ≡ Some b.lan → b.ttl ≡ w.ttl → In b f.carried → AreStraysOfCopies n f →
    AreStraysOfCopies n (handle_by_row n w row f)
are_strays-row n w b (Exact incoming pairs) f e from ttl b_in all =
    are_strays-exact_row n w b incoming pairs f (incoming == w.vif) refl e from ttl b_in all
are_strays-row n w b Open f e from ttl b_in all =
    let i : Interface = (w.router, w.vif) in
    are_strays-more n f (leave n 0 i None f) i (is_within-leave n 0 i None f)
    (λ j h. elim (in-push_cases j f.strays i h) [
      | inl k ↦ inl k
      | inr q ↦ inr (q, (b, b_in, inr (record { row = e; placed = from })))
    ]) all
are_strays-row n w b NoRow f e from ttl b_in all = all

are_strays-handle : (n : Net) (i : ℕ) (o : Option Waiting) (f : Flight) → slice_get f.waiting i ≡ o →
    AllHeard n f → AreStraysOfCopies n f → AreStraysOfCopies n (handle n o (without_waiting i f))
are_strays-handle n i None f e heard all = all
are_strays-handle n i (Some w) f e heard all =
    let b = heard w (slice_get-in f.waiting i w e) in
    are_strays-row n w b.0 (n.row w.router) (without_waiting i f) refl b.2 b.3 b.1 all

are_strays-run : (n : Net) (ps : List Pick) (f : Flight) → AllHeard n f → AreStraysOfCopies n f →
    AreStraysOfCopies n (run n ps f)
are_strays-run n [] f heard all = all
are_strays-run n (Handles i ∷ ps) f heard all = are_strays-run n ps (step n i f) (grows-step n i f heard).1
    (are_strays-handle n i (slice_get f.waiting i) f refl heard all)
are_strays-run n (Loses i ∷ ps) f heard all = are_strays-run n ps (without_waiting i f)
    (λ w h. heard w (in-remove w f.waiting i h)) all

-- of each run, with losses or without
pub is_stray_of-run : (n : Net) (t : ℕ) (ps : List Pick) → AreStraysOfCopies n (run n ps (start n t))
is_stray_of-run n t ps = are_strays-run n ps (start n t) (all_heard-start n t) (λ i h. absurd h)
