-- In a complete run without loss, clean or not, each LAN that is reached carried a copy, by each path that
-- leads there, and each copy was handled wherever it is heard.
use Rattle.std.proofs.Common.{◌≡◌, ◌≢◌, ℕ, zero, suc, ◌+◌, ◌-◌, ◌<◌, ◌≤◌, ◌⊎◌, inl, inr, Bool}
use Rattle.std.proofs.Common.{true, false, cond, ◌==◌, nat_lt, List, [], ◌∷◌, map, length}
use Rattle.std.proofs.Common.{slice_get, Option, Some, None, refl, ap, sym, ◌∙◌, subst, arith}
use Rattle.std.proofs.Common.{ltb-false}
use Rattle.std.proofs.lemmas.Bool.{eqb-false}
use Rattle.mc_theory.specs.Lists.{In}
use Rattle.mc_theory.specs.Nets.{Net, IsNet, Row, Interface}
use Rattle.mc_theory.specs.Nets.Row.{Exact, Open, NoRow}
use Rattle.mc_theory.specs.Flights.{Copy, Waiting, Flight, is_sender, hearers, waits_at, put, leave}
use Rattle.mc_theory.specs.Flights.{send, sends, handle_by_row, handle, without_waiting}
use Rattle.mc_theory.specs.Flights.{source_copy, start, run}
use Rattle.mc_theory.specs.Flights.{Pick, InRange, IsLossless, IsCompleteRun, step}
use Rattle.mc_theory.specs.Flights.Pick.{Handles, Loses}
use Rattle.mc_theory.specs.Certificates.{lans}
use Rattle.mc_theory.specs.CopyOrigins.{IsSentOn, IsSentOnFromSome}
use Rattle.mc_theory.specs.Paths.{Hop, IsHop, IsPath, PassesHops}
use Rattle.mc_theory.proofs.ListLemmas.{in-append_left, in-append_right, in-append_cases}
use Rattle.mc_theory.proofs.ListLemmas.{in-push, in-push_cases, in-map, in-remove_cases}
use Rattle.mc_theory.proofs.RunInvariant.{in_hearers, is_sender-true, is_sender-from_equal}
use Rattle.mc_theory.proofs.StepInvariant.{slice_get-none}
use Rattle.mc_theory.proofs.CopyOrigins.{StepGrows, all_heard-start}
use Rattle.mc_theory.proofs.Paths.{run-preserves}
use Rattle.mc_theory.proofs.CameByHops.{starts_with_source_copy-run, lan_equal-from_some}
use Rattle.mc_theory.proofs.CameByHops.{row_equal-from_exact}

-- ---- each interface of a carrying LAN but the sender waits, or its copy was handled

-- interface (r, k) sent a copy onto LAN l, with one less than TTL t
abbrev pub SentOnto : List Copy → (r k l t : ℕ) → Type 0
SentOnto cs r k l t =
    (d : Copy) × In d cs × (d.lan ≡ l) × (d.ttl + 1 ≡ t) × (d.sender ≡ Some (r, k))

-- What comes of a copy with TTL t at (r, v), whose row takes from v, is among the carried copies or the
-- strays; and a row that isn't followed made a stray.
pub record IsHandled (n : Net) (f : Flight) (r v t : ℕ) : Type 0 where
  pub carried : (pairs : List (ℕ × ℕ)) (k h l : ℕ) → n.row r ≡ Exact v pairs → In (k, h) pairs → h < t →
      n.placed r k ≡ Some l → SentOnto f.carried r k l t
  pub strayed : (pairs : List (ℕ × ℕ)) (k h : ℕ) → n.row r ≡ Exact v pairs → In (k, h) pairs → h < t →
      n.placed r k ≡ None → In (r, k) f.strays
  pub unfollowed : n.row r ≡ Open → In (r, v) f.strays

-- the copies and strays of the first flight are those of the second, too
pub record IsWithin (f g : Flight) : Type 0 where
  pub copies : (d : Copy) → In d f.carried → In d g.carried
  pub strays : (i : Interface) → In i f.strays → In i g.strays

is_within-same : (f : Flight) → IsWithin f f
is_within-same f = record { copies = λ d h. h; strays = λ i h. h }

is_within-next : (f g h : Flight) → IsWithin f g → IsWithin g h → IsWithin f h
is_within-next f g h a b = record {
  copies = λ d k. b.copies d (a.copies d k);
  strays = λ i k. b.strays i (a.strays i k);
}

pub is_within-leave : (n : Net) (t : ℕ) (i : Interface) (o : Option ℕ) (f : Flight) →
    IsWithin f (leave n t i o f)
is_within-leave n t i None f = record {
  copies = λ d h. h;
  strays = λ j h. in-append_left j f.strays (i ∷ []) h;
}
is_within-leave n t i (Some l) f = record {
  copies = λ d h. in-append_left d f.carried (record { lan = l; ttl = t; sender = Some i } ∷ []) h;
  strays = λ j h. h;
}

is_within-cond : (test : Bool) (f g : Flight) → IsWithin f g → IsWithin f (cond test g f)
is_within-cond true f g h = h
is_within-cond false f g h = is_within-same f

pub is_within-send : (n : Net) (r t : ℕ) (p : ℕ × ℕ) (f : Flight) → IsWithin f (send n r t p f)
is_within-send n r t p f = is_within-cond (nat_lt p.1 t) f (leave n (t - 1) (r, p.0) (n.placed r p.0) f)
    (is_within-leave n (t - 1) (r, p.0) (n.placed r p.0) f)

is_within-sends : (n : Net) (r t : ℕ) (ps : List (ℕ × ℕ)) (f : Flight) → IsWithin f (sends n r t ps f)
is_within-sends n r t [] f = is_within-same f
is_within-sends n r t (p ∷ ps) f = is_within-next f (send n r t p f) (sends n r t ps (send n r t p f))
    (is_within-send n r t p f) (is_within-sends n r t ps (send n r t p f))

is_handled-more : (n : Net) (f g : Flight) (r v t : ℕ) → IsWithin f g → IsHandled n f r v t →
    IsHandled n g r v t
is_handled-more n f g r v t more done = record {
  carried = λ pairs k h l row pair lt on. (let d = done.carried pairs k h l row pair lt on in
      (d.0, more.copies d.0 d.1, d.2, d.3, d.4));
  strayed = λ pairs k h row pair lt off. more.strays (r, k) (done.strayed pairs k h row pair lt off);
  unfollowed = λ row. more.strays (r, v) (done.unfollowed row);
}

-- the copy that waits, or that was taken away and is about to be handled
abbrev IsWaitingOr : Waiting → Flight → Waiting → Type 0
IsWaitingOr w f u = In u f.waiting ⊎ (w ≡ u)

-- each copy waits wherever it is heard, or was handled there
abbrev HearersWaitOrHandled : Net → (Flight → Waiting → Type 0) → Flight → Type 0
HearersWaitOrHandled n Waits f = (c : Copy) (r v : ℕ) → In c f.carried → n.placed r v ≡ Some c.lan →
    c.sender ≢ Some (r, v) → Waits f (waits_at c.ttl (r, v)) ⊎ IsHandled n f r v c.ttl

abbrev pub IsWaiting : Flight → Waiting → Type 0
IsWaiting f u = In u f.waiting

wait_or_handled-put : (n : Net) (w : Waiting) (c : Copy) (f : Flight) → IsNet n →
    HearersWaitOrHandled n (IsWaitingOr w) f →
    HearersWaitOrHandled n (IsWaitingOr w) (put n c f)
wait_or_handled-put n w c f net all d r v d_in on other = elim (in-push_cases d f.carried c d_in) [
  | inl k ↦ elim (all d r v k on other) [
    | inl (inl z) ↦ inl (inl (in-append_left (waits_at d.ttl (r, v)) f.waiting
        (map (waits_at c.ttl) (hearers n c)) z))
    | inl (inr q) ↦ inl (inr q)
    | inr done ↦ inr (is_handled-more n f (put n c f) r v d.ttl (record {
      copies = λ x h. in-append_left x f.carried (c ∷ []) h;
      strays = λ i h. h;
    }) done)
  ]
  | inr q ↦ inl (inl (subst (λ (x : Copy). In (waits_at x.ttl (r, v)) (put n c f).waiting) q
      (in-append_right (waits_at c.ttl (r, v)) f.waiting (map (waits_at c.ttl) (hearers n c))
      (in-map (waits_at c.ttl) (r, v) (hearers n c) (in_hearers n c r v net
      (on ∙ ap (λ (x : Copy). Some x.lan) (sym q))
      (λ e. other (ap (λ (x : Copy). x.sender) (sym q) ∙ e)))))))
]

wait_or_handled-leave : (n : Net) (w : Waiting) (t : ℕ) (i : Interface) (o : Option ℕ) (f : Flight) →
    IsNet n → HearersWaitOrHandled n (IsWaitingOr w) f →
    HearersWaitOrHandled n (IsWaitingOr w) (leave n t i o f)
wait_or_handled-leave n w t i None f net all = λ d r v d_in on other. elim (all d r v d_in on other) [
  | inl z ↦ inl z
  | inr done ↦ inr (is_handled-more n f (leave n t i None f) r v d.ttl (is_within-leave n t i None f) done)
]
wait_or_handled-leave n w t i (Some l) f net all = wait_or_handled-put n w
    (record { lan = l; ttl = t; sender = Some i }) f net all

wait_or_handled-cond : (n : Net) (w : Waiting) (test : Bool) (f g : Flight) →
    HearersWaitOrHandled n (IsWaitingOr w) f →
    HearersWaitOrHandled n (IsWaitingOr w) g → HearersWaitOrHandled n (IsWaitingOr w) (cond test f g)
wait_or_handled-cond n w true f g all more = all
wait_or_handled-cond n w false f g all more = more

wait_or_handled-sends : (n : Net) (w : Waiting) (r t : ℕ) (ps : List (ℕ × ℕ)) (f : Flight) → IsNet n →
    HearersWaitOrHandled n (IsWaitingOr w) f → HearersWaitOrHandled n (IsWaitingOr w) (sends n r t ps f)
wait_or_handled-sends n w r t [] f net all = all
wait_or_handled-sends n w r t (p ∷ ps) f net all = wait_or_handled-sends n w r t ps (send n r t p f) net
    (wait_or_handled-cond n w (nat_lt p.1 t) (leave n (t - 1) (r, p.0) (n.placed r p.0) f) f
    (wait_or_handled-leave n w (t - 1) (r, p.0) (n.placed r p.0) f net all) all)

-- ---- what a handling sends stays

-- what comes of one pair: a copy on the LAN of its vif, or a stray
record IsSentByPair (n : Net) (f : Flight) (r t : ℕ) (p : ℕ × ℕ) : Type 0 where
  carried : (l : ℕ) → n.placed r p.0 ≡ Some l → SentOnto f.carried r p.0 l t
  strayed : n.placed r p.0 ≡ None → In (r, p.0) f.strays

is_sent_by_pair-leave : (n : Net) (r t : ℕ) (p : ℕ × ℕ) (o : Option ℕ) (f : Flight) → n.placed r p.0 ≡ o →
    0 < t → IsSentByPair n (leave n (t - 1) (r, p.0) o f) r t p
is_sent_by_pair-leave n r t p None f e lt = record {
  carried = λ l on. absurd (let both : ◌≡◌ {A = Option ℕ} None (Some l) = sym e ∙ on in cc);
  strayed = λ off. in-push f.strays (r, p.0);
}
is_sent_by_pair-leave n r t p (Some q) f e lt = record {
  carried = λ l on. (let both : ◌≡◌ {A = Option ℕ} (Some q) (Some l) = sym e ∙ on in (
    record { lan = q; ttl = t - 1; sender = Some (r, p.0) },
    in-push f.carried (record { lan = q; ttl = t - 1; sender = Some (r, p.0) }),
    cc,
    omega (arith, lt),
    refl,
  ));
  strayed = λ off. absurd (let both : ◌≡◌ {A = Option ℕ} (Some q) None = sym e ∙ off in cc);
}

is_sent_by_pair-cond : (n : Net) (r t : ℕ) (p : ℕ × ℕ) (test : Bool) (f : Flight) →
    nat_lt p.1 t ≡ test → p.1 < t →
    IsSentByPair n (cond test (leave n (t - 1) (r, p.0) (n.placed r p.0) f) f) r t p
is_sent_by_pair-cond n r t p true f q lt =
    is_sent_by_pair-leave n r t p (n.placed r p.0) f refl (omega (arith, lt))
is_sent_by_pair-cond n r t p false f q lt = absurd (let z = ltb-false p.1 t q in omega (arith, z, lt))

is_sent_by_pair-more : (n : Net) (f g : Flight) (r t : ℕ) (p : ℕ × ℕ) → IsWithin f g →
    IsSentByPair n f r t p → IsSentByPair n g r t p
is_sent_by_pair-more n f g r t p more sent = record {
  carried = λ l on. (let d = sent.carried l on in (d.0, more.copies d.0 d.1, d.2, d.3, d.4));
  strayed = λ off. more.strays (r, p.0) (sent.strayed off);
}

is_sent_by_pair-sends : (n : Net) (r t : ℕ) (p : ℕ × ℕ) (ps : List (ℕ × ℕ)) (f : Flight) → In p ps →
    p.1 < t → IsSentByPair n (sends n r t ps f) r t p
is_sent_by_pair-sends n r t p [] f pair lt = absurd pair
is_sent_by_pair-sends n r t p (q ∷ ps) f (inl e) lt = is_sent_by_pair-more n (send n r t q f)
    (sends n r t ps (send n r t q f)) r t p (is_within-sends n r t ps (send n r t q f))
    (subst (λ (x : ℕ × ℕ). IsSentByPair n (send n r t x f) r t p) (sym e)
    (is_sent_by_pair-cond n r t p (nat_lt p.1 t) f refl lt))
is_sent_by_pair-sends n r t p (q ∷ ps) f (inr z) lt =
    is_sent_by_pair-sends n r t p ps (send n r t q f) z lt

-- ---- a step

-- once w's copy was handled, every hearer waits or was handled
wait_or_handled-after_handling : (n : Net) (w : Waiting) (f : Flight) →
    HearersWaitOrHandled n (IsWaitingOr w) f →
    IsHandled n f w.router w.vif w.ttl → HearersWaitOrHandled n IsWaiting f
wait_or_handled-after_handling n w f all done c r v c_in on other = elim (all c r v c_in on other) [
  | inl (inl z) ↦ inl z
  | inl (inr q) ↦ inr (subst (λ (x : Waiting). IsHandled n f x.router x.vif x.ttl) q done)
  | inr d ↦ inr d
]

-- a copy that the row doesn't take is handled at once
is_handled-not_taken : (n : Net) (w : Waiting) (f : Flight) → ((pairs : List (ℕ × ℕ)) →
    n.row w.router ≢ Exact w.vif pairs) → n.row w.router ≢ Open → IsHandled n f w.router w.vif w.ttl
is_handled-not_taken n w f other followed = record {
  carried = λ pairs k h l row pair lt on. absurd (other pairs row);
  strayed = λ pairs k h row pair lt off. absurd (other pairs row);
  unfollowed = λ row. absurd (followed row);
}

-- and one that it takes by what its pairs send
is_handled-sends : (n : Net) (w : Waiting) (incoming : ℕ) (all : List (ℕ × ℕ)) (f : Flight) →
    n.row w.router ≡ Exact incoming all →
    IsHandled n (sends n w.router w.ttl all f) w.router w.vif w.ttl
is_handled-sends n w incoming all f row = record {
  carried = λ pairs k h l row' pair lt on. (let same = row_equal-from_exact (n.row w.router) w.vif incoming
      pairs all row' row in
      let listed = subst (λ ps. In (k, h) ps) same.1 pair in
      (is_sent_by_pair-sends n w.router w.ttl (k, h) all f listed lt).carried l on);
  strayed = λ pairs k h row' pair lt off. (let same = row_equal-from_exact (n.row w.router) w.vif incoming
      pairs all row' row in
      let listed = subst (λ ps. In (k, h) ps) same.1 pair in
      (is_sent_by_pair-sends n w.router w.ttl (k, h) all f listed lt).strayed off);
  unfollowed = λ row'. absurd (let both : Exact incoming all ≡ Open = sym row ∙ row' in cc);
}

wait_or_handled-exact_row : (n : Net) (w : Waiting) (incoming : ℕ) (all : List (ℕ × ℕ)) (test : Bool)
    (f : Flight) → (incoming == w.vif) ≡ test → IsNet n → n.row w.router ≡ Exact incoming all →
    HearersWaitOrHandled n (IsWaitingOr w) f →
    HearersWaitOrHandled n IsWaiting (cond test (sends n w.router w.ttl all f) f)
wait_or_handled-exact_row n w incoming all true f q net row a = wait_or_handled-after_handling n w
    (sends n w.router w.ttl all f) (wait_or_handled-sends n w w.router w.ttl all f net a)
    (is_handled-sends n w incoming all f row)
wait_or_handled-exact_row n w incoming all false f q net row a = wait_or_handled-after_handling n w f a
    (is_handled-not_taken n w f (λ pairs row'. eqb-false incoming w.vif q
    (sym (row_equal-from_exact (n.row w.router) w.vif incoming pairs all row' row).0))
    (λ row'. let both : Exact incoming all ≡ Open = sym row ∙ row' in cc))

wait_or_handled-row : (n : Net) (w : Waiting) (row : Row) (f : Flight) → n.row w.router ≡ row → IsNet n →
    HearersWaitOrHandled n (IsWaitingOr w) f → HearersWaitOrHandled n IsWaiting (handle_by_row n w row f)
wait_or_handled-row n w (Exact incoming all) f e net a = wait_or_handled-exact_row n w incoming all
    (incoming == w.vif) f refl net e a
wait_or_handled-row n w Open f e net a =
    let i : Interface = (w.router, w.vif) in
    wait_or_handled-after_handling n w (leave n 0 i None f) (wait_or_handled-leave n w 0 i None f net a)
    (record {
      carried = λ pairs k h l row pair lt on. absurd (let z : Open ≡ Exact w.vif pairs = sym e ∙ row in cc);
      strayed = λ pairs k h row pair lt off. absurd (let z : Open ≡ Exact w.vif pairs = sym e ∙ row in cc);
      unfollowed = λ row. in-push f.strays i;
    })
wait_or_handled-row n w NoRow f e net a = wait_or_handled-after_handling n w f a (is_handled-not_taken n w f
    (λ pairs row. let z : NoRow ≡ Exact w.vif pairs = sym e ∙ row in cc)
    (λ row. let z : NoRow ≡ Open = sym e ∙ row in cc))

wait_or_handled-without : (n : Net) (f : Flight) (i : ℕ) (w : Waiting) → slice_get f.waiting i ≡ Some w →
    HearersWaitOrHandled n IsWaiting f → HearersWaitOrHandled n (IsWaitingOr w) (without_waiting i f)
wait_or_handled-without n f i w e all c r v c_in on other = elim (all c r v c_in on other) [
  | inl z ↦ inl (in-remove_cases (waits_at c.ttl (r, v)) f.waiting i w e z)
  | inr d ↦ inr (is_handled-more n f (without_waiting i f) r v c.ttl
      (record { copies = λ x h. h; strays = λ j h. h }) d)
]

wait_or_handled-handle : (n : Net) (f : Flight) (i : ℕ) (o : Option Waiting) → slice_get f.waiting i ≡ o →
    i < length f.waiting → IsNet n → HearersWaitOrHandled n IsWaiting f →
    HearersWaitOrHandled n IsWaiting (handle n o (without_waiting i f))
wait_or_handled-handle n f i None e lt net all = absurd (slice_get-none f.waiting i lt e)
wait_or_handled-handle n f i (Some w) e lt net all =
    wait_or_handled-row n w (n.row w.router) (without_waiting i f) refl
    net (wait_or_handled-without n f i w e all)

wait_or_handled-run : (n : Net) (ps : List Pick) (f : Flight) → IsNet n → InRange n ps f →
    IsLossless ps → HearersWaitOrHandled n IsWaiting f → HearersWaitOrHandled n IsWaiting (run n ps f)
wait_or_handled-run n [] f net range whole all = all
wait_or_handled-run n (Handles i ∷ ps) f net range whole all =
    wait_or_handled-run n ps (step n i f) net range.1
    whole (wait_or_handled-handle n f i (slice_get f.waiting i) refl range.0 net all)
wait_or_handled-run n (Loses i ∷ ps) f net range whole all = absurd whole

wait_or_handled-start : (n : Net) (t : ℕ) → IsNet n → HearersWaitOrHandled n IsWaiting (start n t)
wait_or_handled-start n t net c r v c_in on other = elim c_in [
  | inl q ↦ inl (subst (λ (x : Copy). In (waits_at x.ttl (r, v)) (start n t).waiting) q
      (in-map (waits_at t) (r, v) (hearers n (source_copy n t)) (in_hearers n (source_copy n t) r v net
      (on ∙ ap (λ (x : Copy). Some x.lan) (sym q))
      (λ e. other (ap (λ (x : Copy). x.sender) (sym q) ∙ e)))))
  | inr z ↦ absurd z
]

-- ---- along a path

-- each copy was sent on from another one, and has at most TTL t
pub record HaveOrigins (n : Net) (t : ℕ) (cs : List Copy) : Type 0 where
  pub base : (c : Copy) → In c cs → IsSentOnFromSome n cs c
  pub low : (c : Copy) → In c cs → c.ttl ≤ t

have_origins-grows : (n : Net) (t : ℕ) (f g : Flight) → StepGrows n f g → HaveOrigins n t f.carried →
    HaveOrigins n t g.carried
have_origins-grows n t f g (inr e) s = subst (HaveOrigins n t) (sym e) s
have_origins-grows n t f g (inl s) b = subst (HaveOrigins n t) (sym s.2.1) (record {
  base = λ c h i q. elim (in-append_cases c f.carried s.2.0 h) [
    | inl k ↦ (let d = b.base c k i q in (d.0, in-append_left d.0 f.carried s.2.0 d.1, d.2))
    | inr k ↦ (let z = s.2.2 c k in
        let both : ◌≡◌ {A = Option Interface} (Some z.0) (Some i) = sym z.1 ∙ q in
        let same : z.0 ≡ i = cc in (
          s.0,
          in-append_left s.0 f.carried s.2.0 s.1,
          subst (IsSentOn n s.0 c) same z.2,
        ))
  ];
  low = λ c h. elim (in-append_cases c f.carried s.2.0 h) [
    | inl k ↦ b.low c k
    | inr k ↦ (let z = s.2.2 c k in let ttl = z.2.ttl in let low =
        b.low s.0 s.1 in omega (arith, ttl, low))
  ];
})

have_origins-run : (n : Net) (t : ℕ) (ps : List Pick) → HaveOrigins n t (run n ps (start n t)).carried
have_origins-run n t ps =
    run-preserves n (HaveOrigins n t) (have_origins-grows n t) ps (start n t) (all_heard-start n t)
    (record {
      base = λ c h i q. elim h [
        | inl e ↦ absurd (let z : ◌≡◌ {A = Option Interface} None (Some i) =
            ap (λ (x : Copy). x.sender) e ∙ q in cc)
        | inr z ↦ absurd z
      ];
      low = λ c h. elim h [ inl e ↦ omega (arith, ap (λ (x : Copy). x.ttl) e) | inr z ↦ absurd z ];
    })

-- A copy on LAN l with at least TTL t that the interface (r, v) hears.
abbrev HeardBy : List Copy → ℕ → ℕ → ℕ → ℕ → Type 0
HeardBy cs l t r v = (b : Copy) × In b cs × (b.lan ≡ l) × (t ≤ b.ttl) × (b.sender ≢ Some (r, v))

-- where (r, v) sent the copy itself, it heard one before
heard_by-step : (n : Net) (t : ℕ) (cs : List Copy) (c : Copy) (r v : ℕ) (pairs : List (ℕ × ℕ))
    (test : Bool) → is_sender c.sender (r, v) ≡ test → HaveOrigins n t cs → In c cs →
    n.row r ≡ Exact v pairs → n.placed r v ≡ Some c.lan →
    ((b : Copy) → In b cs → b.lan ≡ c.lan → b.ttl ≡ c.ttl + 1 → HeardBy cs c.lan b.ttl r v) →
    HeardBy cs c.lan c.ttl r v
heard_by-step n t cs c r v pairs false q s c_in row on up = (
  c,
  c_in,
  refl,
  omega arith,
  λ e. (let z = is_sender-from_equal c.sender (r, v) e in absurd cc),
)
heard_by-step n t cs c r v pairs true q s c_in row on up =
    let b = s.base c c_in (r, v) (is_sender-true c.sender (r, v) q) in
    let same = row_equal-from_exact (n.row r) b.2.incoming v b.2.pairs pairs b.2.row row in
    let lan = lan_equal-from_some (n.placed r v) b.0.lan c.lan (ap (n.placed r) (sym same.0) ∙ b.2.from) on in
    let ttl = b.2.ttl in
    let d = up b.0 b.1 lan (sym ttl) in
    (d.0, d.1, d.2, let le = d.3 in omega (arith, le, ttl), d.4)

heard_by-some_copy : (n : Net) (t k : ℕ) (cs : List Copy) (c : Copy) (r v : ℕ) (pairs : List (ℕ × ℕ)) →
    t ≡ c.ttl + k → HaveOrigins n t cs → In c cs → n.row r ≡ Exact v pairs →
    n.placed r v ≡ Some c.lan → HeardBy cs c.lan c.ttl r v
heard_by-some_copy n t zero cs c r v pairs e s c_in row on = heard_by-step n t cs c r v pairs
    (is_sender c.sender (r, v)) refl s c_in row on
    (λ b b_in lan q. absurd (let low = s.low b b_in in omega (arith, low, q, e)))
heard_by-some_copy n t (suc k) cs c r v pairs e s c_in row on = heard_by-step n t cs c r v pairs
    (is_sender c.sender (r, v)) refl s c_in row on
    (λ b b_in lan q. subst (λ l. HeardBy cs l b.ttl r v) lan
    (heard_by-some_copy n t k cs b r v pairs (omega (arith, q, e)) s b_in row (on ∙ ap Some (sym lan))))

-- the sender of what came by these hops; the source has none
abbrev pub last_sender : List Hop → Option Interface
last_sender [] = None
last_sender (h ∷ hs) = Some (h.router, h.vif)

-- a copy on LAN l of the last hop's sender that lost no more TTL than there are hops
abbrev pub CarriedByPath : List Copy → (t : ℕ) → List Hop → (l : ℕ) → Type 0
CarriedByPath cs t hs l =
    (c : Copy) × In c cs × (c.lan ≡ l) × (t ≤ c.ttl + length hs) × (c.sender ≡ last_sender hs)

-- Wherever a copy of the flight is heard, it was handled; and each was sent on from another.
pub record AreAllHandled (n : Net) (t : ℕ) (f : Flight) : Type 0 where
  pub origins : HaveOrigins n t f.carried
  pub first : In (source_copy n t) f.carried
  pub handled : (c : Copy) (r v : ℕ) → In c f.carried → n.placed r v ≡ Some c.lan →
      c.sender ≢ Some (r, v) → IsHandled n f r v c.ttl

-- a router with an exact row handled a copy of the LAN that it takes from
handled-by_exact_row : (n : Net) (t : ℕ) (f : Flight) (c : Copy) (r v : ℕ) (pairs : List (ℕ × ℕ)) →
    AreAllHandled n t f → In c f.carried → n.row r ≡ Exact v pairs → n.placed r v ≡ Some c.lan →
    (b : ℕ) × (c.ttl ≤ b) × IsHandled n f r v b
handled-by_exact_row n t f c r v pairs all c_in row on =
    let low = all.origins.low c c_in in
    let b = heard_by-some_copy n t (t - c.ttl) f.carried c r v pairs (omega (arith, low)) all.origins c_in row
    on in
    (b.0.ttl, b.3, all.handled b.0 r v b.1 (on ∙ ap Some (sym b.2)) b.4)

carried_by_path-hop : (n : Net) (t : ℕ) (f : Flight) (h : Hop) (hs : List Hop) → AreAllHandled n t f →
    IsHop n h → length hs + h.threshold < t → CarriedByPath f.carried t hs h.from →
    CarriedByPath f.carried t (h ∷ hs) h.onto
carried_by_path-hop n t f h hs all hop lt c =
    let b = handled-by_exact_row n t f c.0 h.router hop.incoming hop.pairs all c.1 hop.row
    (hop.takes ∙ ap Some (sym c.2)) in
    let le = c.3 in
    let more = b.1 in
    let d = b.2.carried hop.pairs h.vif h.threshold h.onto hop.row hop.pair (omega (arith, lt, le, more))
    hop.sends in
    (d.0, d.1, d.2, (let ttl = d.3 in omega (arith, ttl, le, more)), d.4)

pub carried_by_path-all_handled : (n : Net) (t : ℕ) (f : Flight) (hs : List Hop) (l : ℕ) →
    AreAllHandled n t f → IsPath n n.source hs l → PassesHops t hs → CarriedByPath f.carried t hs l
carried_by_path-all_handled n t f [] l all path p = (source_copy n t, all.first, path, omega arith, refl)
carried_by_path-all_handled n t f (h ∷ hs) l all path p =
    subst (CarriedByPath f.carried t (h ∷ hs)) path.0
    (carried_by_path-hop n t f h hs all path.1 p.0
    (carried_by_path-all_handled n t f hs h.from all path.2 p.1))

-- ---- a complete run

pub are_all_handled-complete_run : (n : Net) (t : ℕ) (ps : List Pick) → IsNet n → IsCompleteRun n t ps →
    AreAllHandled n t (run n ps (start n t))
are_all_handled-complete_run n t ps net complete =
    let f = run n ps (start n t) in
    let all = wait_or_handled-run n ps (start n t) net complete.in_range complete.lossless
    (wait_or_handled-start n t net) in
    let head = (starts_with_source_copy-run n t ps).head in
    record {
      origins = have_origins-run n t ps;
      first = subst (λ cs. In (source_copy n t) cs) (sym head) (inl refl);
      handled = λ c r v c_in on other. elim (all c r v c_in on other) [
        | inl z ↦ absurd (subst (λ ws. In (waits_at c.ttl (r, v)) ws) complete.none_waits z)
        | inr d ↦ d
      ];
    }

pub carried-from_path : (n : Net) (t : ℕ) (ps : List Pick) (hs : List Hop) (l : ℕ) → IsNet n →
    InRange n ps (start n t) → IsLossless ps → (run n ps (start n t)).waiting ≡ [] →
    IsPath n n.source hs l → PassesHops t hs → In l (lans (run n ps (start n t)).carried)
carried-from_path n t ps hs l net range whole ended path p =
    let f = run n ps (start n t) in
    let all = are_all_handled-complete_run n t ps net
    (record { in_range = range; lossless = whole; none_waits = ended }) in
    let c = carried_by_path-all_handled n t f hs l all path p in
    subst (λ k. In k (lans f.carried)) c.2 (in-map (λ (c : Copy). c.lan) c.0 f.carried c.1)

-- ---- strays

-- a pair behind a path sends copies out of the domain that pass its threshold,
pub strayed-by_pair : (n : Net) (t : ℕ) (f : Flight) (hs : List Hop) (l r v h incoming : ℕ)
    (pairs : List (ℕ × ℕ)) → AreAllHandled n t f → IsPath n n.source hs l → PassesHops t hs →
    n.row r ≡ Exact incoming pairs → n.placed r incoming ≡ Some l → In (v, h) pairs →
    length hs + h < t → n.placed r v ≡ None → In (r, v) f.strays
strayed-by_pair n t f hs l r v h incoming pairs all path p row takes pair lt off =
    let c = carried_by_path-all_handled n t f hs l all path p in
    let b = handled-by_exact_row n t f c.0 r incoming pairs all c.1 row (takes ∙ ap Some (sym c.2)) in
    let le = c.3 in
    let more = b.1 in
    b.2.strayed pairs v h row pair (omega (arith, lt, le, more)) off

-- and a row that isn't followed makes a stray of each copy
pub strayed-at_open_row : (n : Net) (t : ℕ) (f : Flight) (hs : List Hop) (l r v : ℕ) →
    AreAllHandled n t f → IsPath n n.source hs l → PassesHops t hs → n.row r ≡ Open →
    n.placed r v ≡ Some l → In (r, v) f.strays
strayed-at_open_row n t f hs l r v all path p row on =
    let c = carried_by_path-all_handled n t f hs l all path p in
    let other : c.0.sender ≢ Some (r, v) = λ e. (let b = all.origins.base c.0 c.1 (r, v) e in
    let both : Open ≡ Exact b.2.incoming b.2.pairs = sym row ∙ b.2.row in cc) in
    (all.handled c.0 r v c.1 (on ∙ ap Some (sym c.2)) other).unfollowed row
