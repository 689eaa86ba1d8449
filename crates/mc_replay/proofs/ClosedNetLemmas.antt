-- A domain from which nothing leads out: its runs have the same copies, and no strays.
use Rattle.std.proofs.Common.{◌≡◌, ℕ, zero, suc, ◌-◌, Bool, true, false, cond, ◌==◌, ◌||◌, nat_lt}
use Rattle.std.proofs.Common.{List, [], ◌∷◌, filter, map, Option, Some, None, is_some, refl, ap}
use Rattle.std.proofs.Common.{sym, ◌∙◌, subst, slice_get, inl, inr}
use Rattle.mc_theory.specs.Lists.{In, Distinct}
use Rattle.mc_theory.specs.Nets.{Net, IsNet, Row, Interface, interfaces}
use Rattle.mc_theory.specs.Nets.Row.{Exact, Open, NoRow}
use Rattle.mc_theory.specs.Flights.{Copy, Waiting, Flight, Pick, start, step, run, leave, send, sends, handle}
use Rattle.mc_theory.specs.Flights.{handle_by_row, without_waiting, apply_pick, InRange}
use Rattle.mc_theory.specs.Flights.{IsCompleteRun}
use Rattle.mc_theory.specs.Flights.Pick.{Handles, Loses}
use Rattle.mc_theory.specs.Findings.{from_lan, taken_from, walk_visits, is_lan_or, sender_on, IsWalkBack}
use Rattle.mc_theory.specs.Paths.{Hop, IsHop, CameByHops, CameFromLan, IsSentByHop}

-- ---- the closed domain

-- a row without the pairs of vifs that are placed on no LAN; one that isn't followed is none
abbrev pub closed_row : (ℕ → Option ℕ) → Row → Row
closed_row placed (Exact incoming pairs) = Exact incoming (filter (λ p. is_some (placed p.0)) pairs)
closed_row placed Open = NoRow
closed_row placed NoRow = NoRow

-- the domain in which each row is closed: no copy strays, and no row is open
abbrev pub closed : Net → Net
closed n = record {
  routers = n.routers;
  placed = n.placed;
  row = λ r. closed_row (n.placed r) (n.row r);
  wants = n.wants;
  source = n.source;
  ttl = n.ttl;
}

-- a flight without its strays
abbrev pub without_strays : Flight → Flight
without_strays f = record { carried = f.carried; waiting = f.waiting; strays = [] }

-- ---- it is a domain

-- what is in a filtered list is in the list
pub in_filter-in_list : {A : Type 0} (p : A → Bool) (x : A) (xs : List A) → In x (filter p xs) → In x xs
in_filter-in_list p x [] h = h
in_filter-in_list p x (y ∷ ys) h = by (p y) (in_filter-in_list p x ys) h
  where
    by : (b : Bool) → (In x (filter p ys) → In x ys) → In x (cond b (y ∷ filter p ys) (filter p ys))
        → In x (y ∷ ys)
    by true rest (inl e) = inl e
    by true rest (inr k) = inr (rest k)
    by false rest k = inr (rest k)

-- a vif of a filtered list of pairs is one of the list
in_map-filter : (p : ℕ × ℕ → Bool) (v : ℕ) (xs : List (ℕ × ℕ)) → In v (map (λ (q : ℕ × ℕ). q.0) (filter p xs))
    → In v (map (λ (q : ℕ × ℕ). q.0) xs)
in_map-filter p v [] h = h
in_map-filter p v (y ∷ ys) h = by (p y) (in_map-filter p v ys) h
  where
    by : (b : Bool)
        → (In v (map (λ (q : ℕ × ℕ). q.0) (filter p ys)) → In v (map (λ (q : ℕ × ℕ). q.0) ys))
        → In v (map (λ (q : ℕ × ℕ). q.0) (cond b (y ∷ filter p ys) (filter p ys)))
        → In v (map (λ (q : ℕ × ℕ). q.0) (y ∷ ys))
    by true rest (inl e) = inl e
    by true rest (inr k) = inr (rest k)
    by false rest k = inr (rest k)

-- so a filtered list of pairs with different vifs has different vifs
distinct-filter : (p : ℕ × ℕ → Bool) (xs : List (ℕ × ℕ)) → Distinct (map (λ (q : ℕ × ℕ). q.0) xs)
    → Distinct (map (λ (q : ℕ × ℕ). q.0) (filter p xs))
distinct-filter p [] h = h
distinct-filter p (y ∷ ys) h = by (p y) (distinct-filter p ys h.1)
  where
    by : (b : Bool) → Distinct (map (λ (q : ℕ × ℕ). q.0) (filter p ys))
        → Distinct (map (λ (q : ℕ × ℕ). q.0) (cond b (y ∷ filter p ys) (filter p ys)))
    by true rest = ((λ k. h.0 (in_map-filter p y.0 ys k)), rest)
    by false rest = rest

-- an exact row of the closed domain is one of the domain, with these pairs and others
exact-of_closed_row : (placed : ℕ → Option ℕ) (row : Row) (v : ℕ) (pairs : List (ℕ × ℕ))
    → closed_row placed row ≡ Exact v pairs
    → (all : List (ℕ × ℕ)) × (row ≡ Exact v all) × (pairs ≡ filter (λ p. is_some (placed p.0)) all)
exact-of_closed_row placed (Exact incoming all) v pairs e =
    let vif : incoming ≡ v = cc in
    let same : filter (λ p. is_some (placed p.0)) all ≡ pairs = cc in
    (all, ap (λ (k : ℕ). Exact k all) vif, sym same)
exact-of_closed_row placed Open v pairs e = absurd cc
exact-of_closed_row placed NoRow v pairs e = absurd cc

-- the closed domain keeps the rules of a domain
pub is_net-closed : (n : Net) → IsNet n → IsNet (closed n)
is_net-closed n net = record {
  router = net.router;
  vif = net.vif;
  vifs = λ r v pairs e.
      let x = exact-of_closed_row (n.placed r) (n.row r) v pairs e in
      subst (λ ps. Distinct (map (λ (q : ℕ × ℕ). q.0) ps)) (sym x.2)
      (distinct-filter (λ p. is_some (n.placed r p.0)) x.0 (net.vifs r v x.0 x.1));
}

-- ---- its runs

-- a copy that leaves onto a LAN does so in the closed domain
without_strays-leave : (n : Net) (t : ℕ) (i : Interface) (o : Option ℕ) (f : Flight)
    → is_some o ≡ true → without_strays (leave n t i o f) ≡ leave (closed n) t i o (without_strays f)
unfolding interfaces
without_strays-leave n t i (Some l) f placed = refl
without_strays-leave n t i None f placed = absurd cc

-- a pair that sends onto a LAN
without_strays-send : (n : Net) (r t : ℕ) (p : ℕ × ℕ) (f : Flight) → is_some (n.placed r p.0) ≡ true
    → without_strays (send n r t p f) ≡ send (closed n) r t p (without_strays f)
without_strays-send n r t p f placed = by (nat_lt p.1 t)
  where
    by : (b : Bool) → without_strays (cond b (leave n (t - 1) (r, p.0) (n.placed r p.0) f) f)
        ≡ cond b (leave (closed n) (t - 1) (r, p.0) (n.placed r p.0) (without_strays f)) (without_strays f)
    by true = without_strays-leave n (t - 1) (r, p.0) (n.placed r p.0) f placed
    by false = refl

-- one that sends out of the domain
without_strays-lost : (n : Net) (r t : ℕ) (p : ℕ × ℕ) (f : Flight) → is_some (n.placed r p.0) ≡ false
    → without_strays (send n r t p f) ≡ without_strays f
without_strays-lost n r t p f unplaced = by (nat_lt p.1 t)
  where
    gone : (o : Option ℕ) → is_some o ≡ false
        → without_strays (leave n (t - 1) (r, p.0) o f) ≡ without_strays f
    gone None e = refl
    gone (Some l) e = absurd cc

    by : (b : Bool) → without_strays (cond b (leave n (t - 1) (r, p.0) (n.placed r p.0) f) f)
        ≡ without_strays f
    by true = gone (n.placed r p.0) unplaced
    by false = refl

-- a router sends the same copies onto LANs, by the pairs that are left
without_strays-sends : (n : Net) (r t : ℕ) (ps : List (ℕ × ℕ)) (f : Flight)
    → without_strays (sends n r t ps f)
    ≡ sends (closed n) r t (filter (λ p. is_some (n.placed r p.0)) ps) (without_strays f)
without_strays-sends n r t [] f = refl
without_strays-sends n r t (p ∷ ps) f =
    without_strays-sends n r t ps (send n r t p f) ∙ by (is_some (n.placed r p.0)) refl
  where
    kept : List (ℕ × ℕ)
    kept = filter (λ (q : ℕ × ℕ). is_some (n.placed r q.0)) ps

    by : (b : Bool) → is_some (n.placed r p.0) ≡ b
        → sends (closed n) r t (filter (λ (q : ℕ × ℕ). is_some (n.placed r q.0)) ps)
        (without_strays (send n r t p f))
        ≡ sends (closed n) r t (cond b (p ∷ filter (λ (q : ℕ × ℕ). is_some (n.placed r q.0)) ps)
        (filter (λ (q : ℕ × ℕ). is_some (n.placed r q.0)) ps)) (without_strays f)
    by true e = ap (sends (closed n) r t (filter (λ (q : ℕ × ℕ). is_some (n.placed r q.0)) ps))
        (without_strays-send n r t p f e)
    by false e = ap (sends (closed n) r t (filter (λ (q : ℕ × ℕ). is_some (n.placed r q.0)) ps))
        (without_strays-lost n r t p f e)

-- a copy is handled by a closed row as by the row, but for strays
without_strays-row : (n : Net) (w : Waiting) (row : Row) (f : Flight)
    → without_strays (handle_by_row n w row f)
    ≡ handle_by_row (closed n) w (closed_row (n.placed w.router) row) (without_strays f)
without_strays-row n w (Exact incoming pairs) f = by (incoming == w.vif)
  where
    by : (b : Bool) → without_strays (cond b (sends n w.router w.ttl pairs f) f)
        ≡ cond b (sends (closed n) w.router w.ttl (filter (λ p. is_some (n.placed w.router p.0)) pairs)
        (without_strays f)) (without_strays f)
    by true = without_strays-sends n w.router w.ttl pairs f
    by false = refl
without_strays-row n w Open f = refl
without_strays-row n w NoRow f = refl

-- so it is by the router, if there is a waiting copy
without_strays-handle : (n : Net) (o : Option Waiting) (f : Flight)
    → without_strays (handle n o f) ≡ handle (closed n) o (without_strays f)
without_strays-handle n None f = refl
without_strays-handle n (Some w) f = without_strays-row n w (n.row w.router) f

-- a step in the closed domain does what it does in the domain, but for strays
pub without_strays-step : (n : Net) (i : ℕ) (f : Flight)
    → without_strays (step n i f) ≡ step (closed n) i (without_strays f)
without_strays-step n i f = without_strays-handle n (slice_get f.waiting i) (without_waiting i f)

-- and by each pick
without_strays-pick : (n : Net) (p : Pick) (f : Flight)
    → without_strays (apply_pick n p f) ≡ apply_pick (closed n) p (without_strays f)
without_strays-pick n (Handles i) f = without_strays-step n i f
without_strays-pick n (Loses i) f = refl

-- so does a run
pub without_strays-run : (n : Net) (ps : List Pick) (f : Flight)
    → without_strays (run n ps f) ≡ run (closed n) ps (without_strays f)
without_strays-run n [] f = refl
without_strays-run n (p ∷ ps) f = without_strays-run n ps (apply_pick n p f)
    ∙ ap (run (closed n) ps) (without_strays-pick n p f)

-- a flight starts in the closed domain as it does in the domain
pub without_strays-start : (n : Net) (t : ℕ) → without_strays (start n t) ≡ start (closed n) t
unfolding interfaces
without_strays-start n t = refl

-- the picks are in range in the closed domain too, since the same copies wait
in_range-closed : (n : Net) (ps : List Pick) (f : Flight) → InRange n ps f
    → InRange (closed n) ps (without_strays f)
in_range-closed n [] f h = tt
in_range-closed n (p ∷ ps) f h = (
  h.0,
  subst (InRange (closed n) ps) (without_strays-pick n p f)
      (in_range-closed n ps (apply_pick n p f) h.1),
)

-- a complete run of the domain is one of the closed domain
pub is_complete_run-closed : (n : Net) (t : ℕ) (ps : List Pick) → IsCompleteRun n t ps
    → IsCompleteRun (closed n) t ps
is_complete_run-closed n t ps complete = record {
  in_range = subst (InRange (closed n) ps) (without_strays-start n t)
      (in_range-closed n ps (start n t) complete.in_range);
  lossless = complete.lossless;
  none_waits = sym (ap (λ (f : Flight). f.waiting) (without_strays-run n ps (start n t)
      ∙ ap (run (closed n) ps) (without_strays-start n t))) ∙ complete.none_waits;
}

-- ---- where its copies came from

-- a closed row takes from the same LAN
taken_from-closed_row : (n : Net) (r : ℕ) (row : Row)
    → taken_from (closed n) r (closed_row (n.placed r) row) ≡ taken_from n r row
taken_from-closed_row n r (Exact incoming pairs) = refl
taken_from-closed_row n r Open = refl
taken_from-closed_row n r NoRow = refl

-- so a sender took its copy from the same LAN
from_lan-closed : (n : Net) (x : Option Interface) → from_lan (closed n) x ≡ from_lan n x
from_lan-closed n None = refl
from_lan-closed n (Some i) = taken_from-closed_row n i.0 (n.row i.0)

-- walks back are the same in the closed domain
pub walk_visits-closed : (n : Net) (cs : List Copy) (l k : ℕ) (x : Option Interface)
    → walk_visits (closed n) cs l k x ≡ walk_visits n cs l k x
walk_visits-closed n cs l zero x = refl
walk_visits-closed n cs l (suc k) x =
    ap (is_lan_or l (λ p. walk_visits (closed n) cs l k (sender_on cs p))) (from_lan-closed n x)
    ∙ by (from_lan n x) (λ p. walk_visits-closed n cs l k (sender_on cs p))
  where
    by : (o : Option ℕ)
        → ((p : ℕ) → walk_visits (closed n) cs l k (sender_on cs p) ≡ walk_visits n cs l k (sender_on cs p))
        → is_lan_or l (λ p. walk_visits (closed n) cs l k (sender_on cs p)) o
        ≡ is_lan_or l (λ p. walk_visits n cs l k (sender_on cs p)) o
    by None rest = refl
    by (Some p) rest = ap (λ b. (p == l) || b) (rest p)

-- a walk back in the closed domain is one in the domain
pub is_walk_back-of_closed : (n : Net) (cs : List Copy) (c : Copy) (ds : List Copy)
    → IsWalkBack (closed n) cs c ds → IsWalkBack n cs c ds
is_walk_back-of_closed n cs c [] h = h
is_walk_back-of_closed n cs c (d ∷ ds) h =
    (sym (from_lan-closed n c.sender) ∙ h.0, h.1, is_walk_back-of_closed n cs d ds h.2)

-- a hop in the closed domain is one in the domain
is_hop-of_closed : (n : Net) (h : Hop) → IsHop (closed n) h → IsHop n h
is_hop-of_closed n h is =
    let x = exact-of_closed_row (n.placed h.router) (n.row h.router) is.incoming is.pairs is.row in
    record {
      incoming = is.incoming;
      pairs = x.0;
      row = x.1;
      takes = is.takes;
      pair = in_filter-in_list (λ (p : ℕ × ℕ). is_some (n.placed h.router p.0)) (h.vif, h.threshold) x.0
          (subst (In (h.vif, h.threshold)) x.2 is.pair);
      sends = is.sends;
    }

-- a copy came by the hops by which it came in the closed domain
pub came_by_hops-of_closed : (n : Net) (cs : List Copy) (c : Copy) (hs : List Hop)
    → CameByHops (closed n) cs c hs → CameByHops n cs c hs
came_by_hops-of_closed n cs c [] by = by
came_by_hops-of_closed n cs c (h ∷ hs) by =
    let b = by.3 in
    (by.0, by.1, is_hop-of_closed n h by.2, (b.0, b.1, came_by_hops-of_closed n cs b.0 hs b.2))

-- and a copy that was sent by it there was sent by it here
is_sent_by_hop-of_closed : (n : Net) (c : Copy) (h : Hop) → IsSentByHop (closed n) c h → IsSentByHop n c h
is_sent_by_hop-of_closed n c h sent = (sent.0, sent.1, is_hop-of_closed n h sent.2)

-- so it is for the hops by which a copy came from a LAN
pub came_from_lan-of_closed : (n : Net) (cs : List Copy) (l : ℕ) (c : Copy) (hs : List Hop)
    → CameFromLan (closed n) cs l c hs → CameFromLan n cs l c hs
came_from_lan-of_closed n cs l c [] from = from
came_from_lan-of_closed n cs l c (h ∷ []) from = (is_sent_by_hop-of_closed n c h from.0, from.1)
came_from_lan-of_closed n cs l c (h ∷ g ∷ hs) from =
    let b = from.2 in (
      is_sent_by_hop-of_closed n c h from.0,
      from.1,
      (b.0, b.1, came_from_lan-of_closed n cs l b.0 (g ∷ hs) b.2),
    )
