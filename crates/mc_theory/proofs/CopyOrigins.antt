-- Each carried copy but the source's was sent on from one that was carried before it, in every run.
use Rattle.std.proofs.Common.{◌≡◌, ℕ, ◌+◌, ◌-◌, ◌<◌, inl, inr, Bool, true, false, cond, ◌==◌}
use Rattle.std.proofs.Common.{nat_lt, List, [], ◌∷◌, ◌++◌, slice_get, Option, Some, None}
use Rattle.std.proofs.Common.{refl, ap, sym, ◌∙◌, subst, arith, eqb-true, ltb-true, ◌⊎◌}
use Rattle.mc_theory.specs.Lists.{In}
use Rattle.mc_theory.specs.Nets.{Net, Row, Interface}
use Rattle.mc_theory.specs.Nets.Row.{Exact, Open, NoRow}
use Rattle.mc_theory.specs.Flights.{Copy, Waiting, Flight, leave, send, sends, handle_by_row}
use Rattle.mc_theory.specs.Flights.{handle, without_waiting, step, source_copy, start, Pick, run}
use Rattle.mc_theory.specs.Flights.Pick.{Handles, Loses}
use Rattle.mc_theory.specs.CopyOrigins.{IsSentOn, IsSentOnFromSome, AreInSendingOrder}
use Rattle.mc_theory.proofs.ListLemmas.{in-append_left, in-append_cases, slice_get-in, in-remove}
use Rattle.mc_theory.proofs.RunInvariant.{Heard, heard-put}

-- ---- what one handling brings

-- whatever waits was heard on its LAN
abbrev pub AllHeard : Net → Flight → Type 0
AllHeard n f = (w : Waiting) → In w f.waiting → Heard n f w

-- an interface sent c on from b
abbrev pub SentOnFrom : Net → Copy → Copy → Type 0
SentOnFrom n b c = (i : Interface) × (c.sender ≡ Some i) × IsSentOn n b c i

-- g carries what f carried, and then copies that were sent on from b
abbrev pub GrowsByCopiesSentOn : Net → Copy → List Copy → List Copy → Type 0
GrowsByCopiesSentOn n b cs ds = (news : List Copy) × (ds ≡ cs ++ news) ×
    ((c : Copy) → In c news → SentOnFrom n b c)

append-nil_right : {A : Type 0} (xs : List A) → xs ≡ xs ++ []
append-nil_right [] = refl
append-nil_right (x ∷ xs) = ap (λ ys. x ∷ ys) (append-nil_right xs)

append-append : {A : Type 0} (xs ys zs : List A) → (xs ++ ys) ++ zs ≡ xs ++ (ys ++ zs)
append-append [] ys zs = refl
append-append (x ∷ xs) ys zs = ap (λ ws. x ∷ ws) (append-append xs ys zs)

grows-none : (n : Net) (b : Copy) (cs : List Copy) → GrowsByCopiesSentOn n b cs cs
grows-none n b cs = ([], append-nil_right cs, λ c h. absurd h)

grows-more : (n : Net) (b : Copy) (cs ds es : List Copy) → GrowsByCopiesSentOn n b cs ds →
    GrowsByCopiesSentOn n b ds es →
    GrowsByCopiesSentOn n b cs es
grows-more n b cs ds es g h = (
  g.0 ++ h.0,
  h.1 ∙ (ap (λ xs. xs ++ h.0) g.1 ∙ append-append cs g.0 h.0),
  λ c k. elim (in-append_cases c g.0 h.0 k) [ inl x ↦ g.2 c x | inr y ↦ h.2 c y ],
)

-- a step of one pair
grows-leave : (n : Net) (b : Copy) (r s v : ℕ) (all : List (ℕ × ℕ)) (p : ℕ × ℕ) (o : Option ℕ)
    (f : Flight) → n.placed r p.0 ≡ o → n.row r ≡ Exact v all → n.placed r v ≡ Some b.lan →
    b.ttl ≡ s → In p all → p.1 < s → AllHeard n f → GrowsByCopiesSentOn n b f.carried
    (leave n (s - 1) (r, p.0) o f).carried × AllHeard n (leave n (s - 1) (r, p.0) o f)
grows-leave n b r s v all p None f on row from ttl pair lt heard = (grows-none n b f.carried, heard)
grows-leave n b r s v all p (Some l) f on row from ttl pair lt heard =
    let c : Copy = record { lan = l; ttl = s - 1; sender = Some (r, p.0) } in
    let time : s - 1 + 1 ≡ b.ttl = omega (arith, ttl) in
    let passed : p.1 < b.ttl = omega (arith, ttl) in
    let sent : IsSentOn n b c (r, p.0) = record {
      incoming = v;
      pairs = all;
      threshold = p.1;
      row =
          row;
      from = from;
      pair = pair;
      passed = passed;
      ttl = time;
      onto = on;
    } in (
      (
        c ∷ [],
        refl,
        λ d h. elim h [
          | inl q ↦ subst (SentOnFrom n b) q ((r, p.0), refl, sent)
          | inr
              z ↦ absurd z
        ],
      ),
      λ w h. heard-put n c f w h heard,
    )

grows-cond : (n : Net) (b : Copy) (r s v : ℕ) (all : List (ℕ × ℕ)) (p : ℕ × ℕ) (test : Bool)
    (f : Flight) → nat_lt p.1 s ≡ test → n.row r ≡ Exact v all → n.placed r v ≡ Some b.lan →
    b.ttl ≡ s → In p all → AllHeard n f
    → GrowsByCopiesSentOn n b f.carried (cond test (leave n (s - 1) (r, p.0) (n.placed r p.0) f) f).carried ×
    AllHeard n (cond test (leave n (s - 1) (r, p.0) (n.placed r p.0) f) f)
grows-cond n b r s v all p true f e row from ttl pair heard =
    grows-leave n b r s v all p (n.placed r p.0) f refl row from ttl pair (ltb-true p.1 s e) heard
grows-cond n b r s v all p false f e row from ttl pair heard = (grows-none n b f.carried, heard)

grows-sends : (n : Net) (b : Copy) (r s v : ℕ) (all ps : List (ℕ × ℕ)) (f : Flight) →
    n.row r ≡ Exact v all → n.placed r v ≡ Some b.lan → b.ttl ≡ s →
    ((p : ℕ × ℕ) → In p ps → In p all) → AllHeard n f →
    GrowsByCopiesSentOn n b f.carried (sends n r s ps f).carried × AllHeard n (sends n r s ps f)
grows-sends n b r s v all [] f row from ttl within heard = (grows-none n b f.carried, heard)
grows-sends n b r s v all (p ∷ ps) f row from ttl within heard =
    let one = grows-cond n b r s v all p (nat_lt p.1 s) f refl row from ttl (within p (inl refl))
    heard in
    let rest = grows-sends n b r s v all ps (send n r s p f) row from ttl (λ q h. within q (inr h))
    one.1 in (
      grows-more n b f.carried (send n r s p f).carried
          (sends n r s ps (send n r s p f)).carried one.0
          rest.0,
      rest.1,
    )

grows-exact : (n : Net) (w : Waiting) (incoming : ℕ) (all : List (ℕ × ℕ)) (test : Bool) (f : Flight)
    → (incoming == w.vif) ≡ test → n.row w.router ≡ Exact incoming all → (b : Copy) →
    n.placed w.router w.vif ≡ Some b.lan → b.ttl ≡ w.ttl → AllHeard n f
    → GrowsByCopiesSentOn n b f.carried (cond test (sends n w.router w.ttl all f) f).carried × AllHeard n
    (cond test (sends n w.router w.ttl all f) f)
grows-exact n w incoming all true f e row b from ttl heard =
    grows-sends n b w.router w.ttl w.vif all all f (row ∙
    ap (λ (x : ℕ). Exact x all) (eqb-true incoming w.vif e)) from ttl (λ p h. h) heard
grows-exact n w incoming all false f e row b from ttl heard = (grows-none n b f.carried, heard)

grows-row : (n : Net) (w : Waiting) (row : Row) (f : Flight) → n.row w.router ≡ row → (b : Copy) →
    n.placed w.router w.vif ≡ Some b.lan → b.ttl ≡ w.ttl → AllHeard n f →
    GrowsByCopiesSentOn n b f.carried (handle_by_row n w row f).carried × AllHeard n (handle_by_row n w row f)
grows-row n w (Exact incoming all) f e b from ttl heard =
    grows-exact n w incoming all (incoming == w.vif) f refl e b from ttl heard
grows-row n w Open f e b from ttl heard = (grows-none n b f.carried, heard)
grows-row n w NoRow f e b from ttl heard = (grows-none n b f.carried, heard)

-- what a step brings: copies that were all sent on from one that was carried before it
abbrev pub StepGrows : Net → Flight → Flight → Type 0
StepGrows n f g = ((b : Copy) × In b f.carried × GrowsByCopiesSentOn n b f.carried g.carried) ⊎
    (g.carried ≡ f.carried)

grows-handle : (n : Net) (i : ℕ) (o : Option Waiting) (f : Flight) → slice_get f.waiting i ≡ o →
    AllHeard n f → StepGrows n f (handle n o (without_waiting i f)) ×
    AllHeard n (handle n o (without_waiting i f))
grows-handle n i None f e heard = (inr refl, λ w h. heard w (in-remove w f.waiting i h))
grows-handle n i (Some w) f e heard =
    let b = heard w (slice_get-in f.waiting i w e) in
    let g = grows-row n w (n.row w.router) (without_waiting i f) refl b.0 b.2 b.3
    (λ u h. heard u (in-remove u f.waiting i h)) in
    (inl (b.0, b.1, g.0), g.1)

pub grows-step : (n : Net) (i : ℕ) (f : Flight) → AllHeard n f →
    StepGrows n f (step n i f) × AllHeard n (step n i f)
grows-step n i f heard = grows-handle n i (slice_get f.waiting i) f refl heard

-- ---- the order of the copies

pub in_sending_order-append : (n : Net) (earlier cs ds : List Copy) → AreInSendingOrder n earlier cs →
    ((c : Copy) → In c ds → IsSentOnFromSome n (earlier ++ cs) c) → AreInSendingOrder n earlier (cs ++ ds)
in_sending_order-append n earlier [] ds h news = order-news n earlier earlier ds (λ c k. k)
    (λ c k. subst (λ xs. IsSentOnFromSome n xs c) (sym (append-nil_right earlier)) (news c k))
  where
    order-news : (n : Net) (early earlier ds : List Copy) →
        ((c : Copy) → In c early → In c earlier) → ((c : Copy) → In c ds → IsSentOnFromSome n early c) →
        AreInSendingOrder n earlier ds
    order-news n early earlier [] within news = tt
    order-news n early earlier (d ∷ ds) within news = (
      (λ i q. (let z = news d (inl refl) i q in (z.0, within z.0 z.1, z.2))),
      order-news n early (earlier ++ d ∷ []) ds (λ c h. in-append_left c earlier (d ∷ [])
          (within c h)) (λ c h. news c (inr h)),
    )
in_sending_order-append n earlier (c ∷ cs) ds h news = (
  h.0,
  in_sending_order-append n (earlier ++ c ∷ []) cs ds h.1
      (λ d k. subst (λ xs. IsSentOnFromSome n xs d) (sym (append-append earlier (c ∷ []) cs)) (news d k)),
)

sent_on_from_some-new_copy : (n : Net) (cs : List Copy) (b c : Copy) → In b cs → SentOnFrom n b c →
    IsSentOnFromSome n cs c
sent_on_from_some-new_copy n cs b c b_in s i q =
    let both : ◌≡◌ {A = Option Interface} (Some s.0) (Some i) = sym s.1 ∙ q in
    let same : s.0 ≡ i = cc in
    (b, b_in, subst (IsSentOn n b c) same s.2)

pub in_sending_order-grows : (n : Net) (f g : Flight) → StepGrows n f g → AreInSendingOrder n [] f.carried →
    AreInSendingOrder n [] g.carried
in_sending_order-grows n f g (inr e) h = subst (AreInSendingOrder n []) (sym e) h
in_sending_order-grows n f g (inl s) h = subst (AreInSendingOrder n []) (sym s.2.1)
    (in_sending_order-append n [] f.carried s.2.0
    h (λ c k. sent_on_from_some-new_copy n f.carried s.0 c s.1 (s.2.2 c k)))

-- of every run, with losses or without
pub is_in_order-of_run : (n : Net) (ps : List Pick) (f : Flight) → AllHeard n f →
    AreInSendingOrder n [] f.carried →
    AreInSendingOrder n [] (run n ps f).carried
is_in_order-of_run n [] f heard h = h
is_in_order-of_run n (Handles i ∷ ps) f heard h = let g =
    grows-step n i f heard in is_in_order-of_run n ps (step n i f)
    g.1 (in_sending_order-grows n f (step n i f) g.0 h)
is_in_order-of_run n (Loses i ∷ ps) f heard h = is_in_order-of_run n ps (without_waiting i f)
    (λ w k. heard w (in-remove w f.waiting i k)) h

pub all_heard-start : (n : Net) (t : ℕ) → AllHeard n (start n t)
all_heard-start n t w h = heard-put n (source_copy n t) (record
    { carried = []; waiting = []; strays = [] }) w h (λ u z. absurd z)

pub in_sending_order-start : (n : Net) (t : ℕ) → AreInSendingOrder n [] (start n t).carried
in_sending_order-start n t =
    ((λ i q. absurd (let z : ◌≡◌ {A = Option Interface} None (Some i) = q in cc)), tt)
