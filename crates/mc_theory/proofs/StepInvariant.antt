-- A step whose flight is clean keeps the invariant.
use Rattle.std.proofs.Common.{◌≡◌, ◌≢◌, ℕ, zero, suc, ◌+◌, ◌-◌, ◌<◌, inl, inr, Bool, true, false}
use Rattle.std.proofs.Common.{cond, ◌==◌, nat_lt, List, [], ◌∷◌, ◌++◌, map, length, slice_get}
use Rattle.std.proofs.Common.{Option, Some, None, refl, ap, sym, ◌∙◌, subst, arith, eqb-true}
use Rattle.std.proofs.Common.{ltb-true, ltb-false}
use Rattle.std.proofs.lemmas.Bool.{eqb-false}
use Rattle.mc_theory.specs.Lists.{In, Distinct}
use Rattle.mc_theory.specs.Nets.{Net, IsNet, Row, Interface}
use Rattle.mc_theory.specs.Nets.Row.{Exact, Open, NoRow}
use Rattle.mc_theory.specs.Flights.{Copy, Waiting, Flight, hearers, put, leave, send, sends}
use Rattle.mc_theory.specs.Flights.{handle_by_row, handle, without_waiting, step, source_copy, start, Pick}
use Rattle.mc_theory.specs.Flights.{IsLossless, apply_pick, run, InRange}
use Rattle.mc_theory.specs.Flights.Pick.{Handles, Loses}
use Rattle.mc_theory.specs.Certificates.{lans, IsClean}
use Rattle.mc_theory.proofs.ListLemmas.{in-append_left, in-push_cases, in-push, in-map, distinct-append_left}
use Rattle.mc_theory.proofs.ListLemmas.{distinct_append-disjoint, slice_get-in, in-remove, in-remove_cases}
use Rattle.mc_theory.proofs.ListLemmas.{map-remove, slice_get-map_some, distinct-remove}
use Rattle.mc_theory.proofs.ListLemmas.{distinct-not_in_remove, equal-from_same_image}
use Rattle.mc_theory.proofs.RunInvariant.{interface_of_waiting, waiting_interfaces}
use Rattle.mc_theory.proofs.RunInvariant.{SentByInterface, Sends, Handled, RunInvariant}
use Rattle.mc_theory.proofs.RunInvariant.{in_hearers}
use Rattle.mc_theory.proofs.RunInvariant.{distinct-hearers, map_interface-waits_at, lans-put}
use Rattle.mc_theory.proofs.RunInvariant.{heard-put, run_invariant-put}
use Rattle.mc_theory.proofs.RunInvariant.{sent_by_interface-in_other_flight, not_waiting-put}

-- a list with one more isn't empty
append-not_nil : {A : Type 0} (xs : List A) (x : A) → xs ++ x ∷ [] ≡ [] → ⊥
append-not_nil [] x e = absurd cc
append-not_nil (y ∷ xs) x e = absurd cc

-- equal interfaces have equal vifs
vif_equal-from_exact : (r q v k : ℕ) → ◌≡◌ {A = Option Interface} (Some (r, v)) (Some (q, k)) → v ≡ k
vif_equal-from_exact r q v k e = let z : ◌≡◌ {A = Interface} (r, v) (q, k) =
    cc in ap (λ (x : Interface). x.1) z

-- no place within a list is empty
pub slice_get-none : {A : Type 0} (xs : List A) (i : ℕ) → i < length xs → slice_get xs i ≡ None → ⊥
slice_get-none [] i lt e = omega arith
slice_get-none (x ∷ xs) zero lt e = absurd cc
slice_get-none (x ∷ xs) (suc i) lt e = slice_get-none xs i (omega arith) e

-- ---- the start

-- it holds at the start
pub run_invariant-start : (n : Net) (t : ℕ) → IsNet n → RunInvariant n t [] (start n t)
run_invariant-start n t net = record {
  first = inl refl;
  only = λ c h e. elim h [ inl q ↦ sym q | inr z ↦ absurd z ];
  once = subst Distinct (sym (map_interface-waits_at t (hearers n (source_copy n t))))
      (distinct-hearers n (source_copy n t));
  heard = λ w h. heard-put n (source_copy n t) (record { carried = []; waiting = []; strays = [] }) w
      h (λ u z. absurd z);
  sent = λ c r v h e. elim h [
    | inl q ↦ absurd (let z : None ≡ c.sender =
        ap (λ (x : Copy). x.sender) q in cc)
    | inr z ↦ absurd z
  ];
  all = λ c r v h on other. elim h [
    | inl q ↦ inr (inl (subst (λ is. In (r, v) is) (sym
        (map_interface-waits_at t (hearers n (source_copy n t)))) (in_hearers n (source_copy n t) r v net
        (on ∙ ap (λ (x : Copy). Some x.lan) (sym q)) (λ e. other
        (ap (λ (x : Copy). x.sender) (sym q) ∙ e)))))
    | inr z ↦ absurd z
  ];
  low = λ c h. elim h [ inl q ↦ omega (arith, ap (λ (x : Copy). x.ttl) q) | inr z ↦ absurd z ];
  clean = record { once = ((λ h. h), tt); none_stray = refl };
}

-- ---- a waiting copy is taken away

-- nothing waits at its interface any more
pub not_waiting-without : (n : Net) (t : ℕ) (out : List Interface) (f : Flight) (i : ℕ) (w : Waiting) →
    RunInvariant n t out f → slice_get f.waiting i ≡ Some w →
    In (interface_of_waiting w) (waiting_interfaces (without_waiting i f)) → ⊥
not_waiting-without n t out f i w v e h =
    distinct-not_in_remove (waiting_interfaces f) i (interface_of_waiting w) v.once
    (slice_get-map_some interface_of_waiting f.waiting i w e) (subst (λ is. In (interface_of_waiting w) is)
    (map-remove interface_of_waiting f.waiting i) h)

-- what waits still waited before
length-without : (f : Flight) (i : ℕ) (p : Interface) → In p (waiting_interfaces (without_waiting i f)) →
    In p (waiting_interfaces f)
length-without f i p h = in-remove p (waiting_interfaces f) i (subst (λ is. In p is)
    (map-remove interface_of_waiting f.waiting i) h)

-- the invariant without it
pub run_invariant-without : (n : Net) (t : ℕ) (out : List Interface) (f : Flight) (i : ℕ) (w : Waiting) →
    RunInvariant n t out f → slice_get f.waiting i ≡ Some w →
    RunInvariant n t (interface_of_waiting w ∷ out) (without_waiting i f)
run_invariant-without n t out f i w v e = record {
  first = v.first;
  only = v.only;
  once = subst Distinct (sym (map-remove interface_of_waiting f.waiting i))
      (distinct-remove (waiting_interfaces f) i v.once);
  heard = λ u h. v.heard u (in-remove u f.waiting i h);
  sent = λ c r k h q. (let s = v.sent c r k h q in
      sent_by_interface-in_other_flight n f (without_waiting i f) c r k s s.base_in
      (λ z. s.gone (length-without f i (r, s.incoming) z)));
  all = λ c r k h on other. elim (v.all c r k h on other) [
    | inl z ↦ inl (inr z)
    | inr (inl z) ↦ elim (in-remove_cases (r, k) (waiting_interfaces f) i (interface_of_waiting w)
        (slice_get-map_some interface_of_waiting f.waiting i w e) z) [
          | inl y ↦ inr (inl (subst (λ is. In (r, k) is) (sym (map-remove interface_of_waiting f.waiting i))
              y))
          | inr q ↦ inl (inl q)
        ]
    | inr (inr z) ↦ inr (inr z)
  ];
  low = v.low;
  clean = record { once = v.clean.once; none_stray = v.clean.none_stray };
}

-- what was taken away is handled
handled-after_sending : (n : Net) (s : ℕ) (f : Flight) (b c : Copy) (p q : Interface) → IsClean f →
    In b f.carried → n.placed p.0 p.1 ≡ Some b.lan → b.ttl ≡ s → Handled n f.carried p.0 p.1 s →
    In c f.carried → n.placed q.0 q.1 ≡ Some c.lan → p ≡ q → Handled n f.carried q.0 q.1 c.ttl
handled-after_sending n s f b c p q clean b_in on ttl h c_in c_on same =
    let lan : Some b.lan ≡ Some c.lan = sym on ∙ (ap (λ (x : Interface). n.placed x.0 x.1) same ∙
    c_on) in
    let copy : b ≡ c = equal-from_same_image (λ (x : Copy). x.lan) b c f.carried clean.once b_in c_in cc in
    let time : s ≡ c.ttl = sym ttl ∙ ap (λ (x : Copy). x.ttl) copy in
    subst (λ (x : ℕ). Handled n f.carried q.0 q.1 x) time
    (subst (λ (x : Interface). Handled n f.carried x.0 x.1 s) same h)

-- so the invariant holds with it
pub run_invariant-handled : (n : Net) (t : ℕ) (out : List Interface) (r v s : ℕ) (f : Flight) (b : Copy) →
    RunInvariant n t ((r, v) ∷ out) f → In b f.carried → n.placed r v ≡ Some b.lan → b.ttl ≡ s →
    Handled n f.carried r v s → RunInvariant n t out f
run_invariant-handled n t out r v s f b i b_in on ttl h = record {
  first = i.first;
  only = i.only;
  once = i.once;
  heard = i.heard;
  sent = i.sent;
  all = λ c q k c_in c_on other. elim (i.all c q k c_in c_on other) [
    | inl (inl e) ↦ inr (inr (handled-after_sending n s f b c (r, v) (q, k) i.clean b_in on ttl h c_in c_on
        e))
    | inl (inr z) ↦ inl z
    | inr z ↦ inr z
  ];
  low = i.low;
  clean = i.clean;
}

-- ---- the sends of one handling

pub record SendingInvariant (n : Net) (t : ℕ) (out : List Interface) (r v s : ℕ)
    (all : List (ℕ × ℕ)) (b : Copy)
    (ps : List (ℕ × ℕ)) (f : Flight) : Type 0 where
  pub inv : RunInvariant n t ((r, v) ∷ out) f
  pub row : n.row r ≡ Exact v all
  pub base_in : In b f.carried
  pub from : n.placed r v ≡ Some b.lan
  pub ttl : b.ttl ≡ s
  pub other : b.sender ≢ Some (r, v)
  pub gone : In (r, v) (waiting_interfaces f) → ⊥
  pub within : (p : ℕ × ℕ) → In p ps → In p all
  pub vifs : Distinct (map (λ (p : ℕ × ℕ). p.0) ps)
  pub fresh : (c : Copy) (k : ℕ) → In c f.carried → c.sender ≡ Some (r, k) →
      In k (map (λ (p : ℕ × ℕ). p.0) ps) → ⊥

-- a pair that sends nothing
pub sending_invariant-skip_pair : (n : Net) (t : ℕ) (out : List Interface) (r v s : ℕ)
    (all : List (ℕ × ℕ)) (b : Copy)
    (p : ℕ × ℕ) (ps : List (ℕ × ℕ)) (f : Flight) → SendingInvariant n t out r v s all b (p ∷ ps) f →
    SendingInvariant n t out r v s all b ps f
sending_invariant-skip_pair n t out r v s all b p ps f m = record {
  inv = m.inv;
  row = m.row;
  base_in = m.base_in;
  from = m.from;
  ttl = m.ttl;
  other = m.other;
  gone = m.gone;
  within = λ q h. m.within q (inr h);
  vifs = m.vifs.1;
  fresh = λ c k h e z. m.fresh c k h e (inr z);
}

-- the copy that a pair sends onto a LAN
abbrev pub copy_sent_by : ℕ → ℕ → ℕ × ℕ → ℕ → Copy
copy_sent_by s r p l = record { lan = l; ttl = s - 1; sender = Some (r, p.0) }

-- a pair that sends onto a LAN that carried nothing
pub sending_invariant-put : (n : Net) (t : ℕ) (out : List Interface) (r v s : ℕ)
    (all : List (ℕ × ℕ)) (b : Copy)
    (p : ℕ × ℕ) (ps : List (ℕ × ℕ)) (f : Flight) (l : ℕ) → IsNet n →
    SendingInvariant n t out r v s all b (p ∷ ps) f → p.1 < s → n.placed r p.0 ≡ Some l →
    (In l (lans f.carried) → ⊥) → SendingInvariant n t out r v s all b ps (put n (copy_sent_by s r p l) f)
sending_invariant-put n t out r v s all b p ps f l net m lt on new =
    let c : Copy = copy_sent_by s r p l in
    let hot : p.1 < b.ttl = omega (arith, m.ttl) in
    let time : s - 1 + 1 ≡ b.ttl = omega (arith, m.ttl) in
    let by : SentByInterface n f c r p.0 = record {
      base = b;
      base_in = m.base_in;
      incoming = v;
      pairs = all;
      threshold = p.1;
      row = m.row;
      from = m.from;
      other = m.other;
      pair = m.within p (inl refl);
      hot = hot;
      ttl = time;
      onto = on;
      gone = m.gone;
    } in
    record {
      inv = run_invariant-put n t ((r, v) ∷ out) f c r p.0 net m.inv refl by new;
      row = m.row;
      base_in = in-append_left b f.carried (c ∷ []) m.base_in;
      from = m.from;
      ttl = m.ttl;
      other = m.other;
      gone = not_waiting-put n c f b r v m.base_in new m.from m.gone;
      within = λ q h. m.within q (inr h);
      vifs = m.vifs.1;
      fresh = λ d k h e z. elim (in-push_cases d f.carried c h) [
        | inl y ↦ m.fresh d k y e (inr z)
        | inr q ↦ m.vifs.0 (let w : ◌≡◌ {A = Option Interface} (Some (r, p.0)) (Some (r, k)) =
            ap (λ (x : Copy). x.sender) q ∙ e in
            let u : p.0 ≡ k = vif_equal-from_exact r r p.0 k w in
            subst (λ (x : ℕ). In x (map (λ (p : ℕ × ℕ). p.0) ps)) (sym u) z)
      ];
    }

-- ---- clean flights

-- before a copy was put on a LAN, which carried none
clean-put : (n : Net) (c : Copy) (f : Flight) → IsClean (put n c f) →
    IsClean f × (In c.lan (lans f.carried) → ⊥)
clean-put n c f h = (
  record {
    once = distinct-append_left (lans f.carried) (c.lan ∷ [])
        (subst Distinct (lans-put n c f) h.once);
    none_stray = h.none_stray;
  },
  λ z. distinct_append-disjoint (lans f.carried) (c.lan ∷ []) (subst Distinct (lans-put n c f) h.once) c.lan z
      (inl refl),
)

-- before one was sent by a vif
clean-leave : (n : Net) (s : ℕ) (i : Interface) (o : Option ℕ) (f : Flight) →
    IsClean (leave n s i o f) → IsClean f
clean-leave n s i None f h = absurd (append-not_nil f.strays i h.none_stray)
clean-leave n s i (Some l) f h = (clean-put n (record { lan = l; ttl = s; sender = Some i }) f h).0

-- before one of two flights
clean-cond : (b : Bool) (f g : Flight) → (IsClean f → IsClean g) → IsClean (cond b f g) → IsClean g
clean-cond true f g h c = h c
clean-cond false f g h c = c

-- before one pair sent
pub clean-send : (n : Net) (r s : ℕ) (p : ℕ × ℕ) (f : Flight) → IsClean (send n r s p f) → IsClean f
clean-send n r s p f h = clean-cond (nat_lt p.1 s) (leave n (s - 1) (r, p.0) (n.placed r p.0) f) f
    (clean-leave n (s - 1) (r, p.0) (n.placed r p.0) f) h

-- before all pairs sent
pub clean-sends : (n : Net) (r s : ℕ) (ps : List (ℕ × ℕ)) (f : Flight) →
    IsClean (sends n r s ps f) → IsClean f
clean-sends n r s [] f h = h
clean-sends n r s (p ∷ ps) f h = clean-send n r s p f (clean-sends n r s ps (send n r s p f) h)

-- ---- what sending leaves

-- the copies only grow
in_carried-leave : (n : Net) (s : ℕ) (i : Interface) (o : Option ℕ) (f : Flight) (d : Copy) →
    In d f.carried → In d (leave n s i o f).carried
in_carried-leave n s i None f d h = h
in_carried-leave n s i (Some l) f d h = in-append_left d f.carried
    (record { lan = l; ttl = s; sender = Some i } ∷ []) h

-- in one of two flights
in_carried-cond : (b : Bool) (f g : Flight) (d : Copy) → (In d g.carried → In d f.carried) →
    In d g.carried → In d (cond b f g).carried
in_carried-cond true f g d h z = h z
in_carried-cond false f g d h z = z

-- after one pair sent
pub in_carried-send : (n : Net) (r s : ℕ) (p : ℕ × ℕ) (f : Flight) (d : Copy) → In d f.carried →
    In d (send n r s p f).carried
in_carried-send n r s p f d h =
    in_carried-cond (nat_lt p.1 s) (leave n (s - 1) (r, p.0) (n.placed r p.0) f) f d
    (in_carried-leave n (s - 1) (r, p.0) (n.placed r p.0) f d) h

-- after all pairs sent
pub in_carried-sends : (n : Net) (r s : ℕ) (ps : List (ℕ × ℕ)) (f : Flight) (d : Copy) → In d f.carried →
    In d (sends n r s ps f).carried
in_carried-sends n r s [] f d h = h
in_carried-sends n r s (p ∷ ps) f d h =
    in_carried-sends n r s ps (send n r s p f) d (in_carried-send n r s p f d h)

-- one pair, in a clean flight: the rest may go on, and what it sends stays carried
run_invariant-leave : (n : Net) (t : ℕ) (out : List Interface) (r v s : ℕ) (all : List (ℕ × ℕ)) (b : Copy)
    (p : ℕ × ℕ) (ps : List (ℕ × ℕ)) (f : Flight) (o : Option ℕ) → IsNet n →
    SendingInvariant n t out r v s all b (p ∷ ps) f → p.1 < s → n.placed r p.0 ≡ o →
    IsClean (leave n (s - 1) (r, p.0) o f)
    → SendingInvariant n t out r v s all b ps (leave n (s - 1) (r, p.0) o f) × Sends n
    (leave n (s - 1) (r, p.0) o f).carried r s p.0
run_invariant-leave n t out r v s all b p ps f None net m lt on clean =
    absurd (append-not_nil f.strays (r, p.0) clean.none_stray)
run_invariant-leave n t out r v s all b p ps f (Some l) net m lt on clean = (
  sending_invariant-put n t out r v s all b p ps f l net m lt on
      (clean-put n (copy_sent_by s r p l) f clean).1,
  (copy_sent_by s r p l, in-push f.carried (copy_sent_by s r p l), on, refl, time s p.1 lt),
)
  where
    time : (s h : ℕ) → h < s → s - 1 + 1 ≡ s
    time s h lt = omega arith

-- by whether the TTL is greater than the threshold
run_invariant-cond : (n : Net) (t : ℕ) (out : List Interface) (r v s : ℕ) (all : List (ℕ × ℕ)) (b : Copy)
    (p : ℕ × ℕ) (ps : List (ℕ × ℕ)) (f : Flight) (test : Bool) → nat_lt p.1 s ≡ test → IsNet n →
    SendingInvariant n t out r v s all b (p ∷ ps) f → IsClean (cond test
    (leave n (s - 1) (r, p.0) (n.placed r p.0) f) f)
    → SendingInvariant n t out r v s all b ps (cond test (leave n (s - 1) (r, p.0) (n.placed r p.0) f) f) ×
    (p.1 < s → Sends n (cond test (leave n (s - 1) (r, p.0) (n.placed r p.0) f) f).carried r s
    p.0)
run_invariant-cond n t out r v s all b p ps f true e net m clean =
    let k = run_invariant-leave n t out r v s all b p ps f (n.placed r p.0) net m (ltb-true p.1 s e) refl
    clean in
    (k.0, λ lt. k.1)
run_invariant-cond n t out r v s all b p ps f false e net m clean = (
  sending_invariant-skip_pair n t out r v s all b p ps f m,
  λ lt. absurd (let z = ltb-false p.1 s e in omega arith),
)

-- so it is for each pair
pub run_invariant-send : (n : Net) (t : ℕ) (out : List Interface) (r v s : ℕ) (all : List (ℕ × ℕ)) (b : Copy)
    (p : ℕ × ℕ) (ps : List (ℕ × ℕ)) (f : Flight) → IsNet n → SendingInvariant n t out r v s all b (p ∷ ps) f →
    IsClean (send n r s p f)
    → SendingInvariant n t out r v s all b ps (send n r s p f) × (p.1 < s →
    Sends n (send n r s p f).carried r s p.0)
run_invariant-send n t out r v s all b p ps f net m clean = run_invariant-cond n t out r v s all b p ps f
    (nat_lt p.1 s) refl net m clean

-- what is carried is carried among more copies
pub sends-more : (n : Net) (cs ds : List Copy) (r s k : ℕ) → ((d : Copy) → In d cs → In d ds) →
    Sends n cs r s k → Sends n ds r s k
sends-more n cs ds r s k more z = (z.0, more z.0 z.1, z.2, z.3, z.4)

-- after all pairs sent, the invariant holds, and what they send is carried
pub run_invariant-sends : (n : Net) (t : ℕ) (out : List Interface) (r v s : ℕ) (all : List (ℕ × ℕ))
    (b : Copy) (ps : List (ℕ × ℕ)) (f : Flight) → IsNet n → SendingInvariant n t out r v s all b ps f →
    IsClean (sends n r s ps f)
    → RunInvariant n t ((r, v) ∷ out) (sends n r s ps f) × ((k h : ℕ) → In (k, h) ps → h < s →
    Sends n (sends n r s ps f).carried r s k)
run_invariant-sends n t out r v s all b [] f net m clean = (m.inv, λ k h z lt. absurd z)
run_invariant-sends n t out r v s all b (p ∷ ps) f net m clean =
    let one = run_invariant-send n t out r v s all b p ps f net m
    (clean-sends n r s ps (send n r s p f) clean) in
    let rest = run_invariant-sends n t out r v s all b ps (send n r s p f) net one.0 clean in (
      rest.0,
      λ k h z lt. elim z [
        | inl q ↦ sends-more n (send n r s p f).carried (sends n r s ps (send n r s p f)).carried r
            s k (in_carried-sends n r s ps (send n r s p f)) (subst
            (λ (x : ℕ × ℕ). x.1 < s → Sends n (send n r s p f).carried r s x.0) q one.1 lt)
        | inr y ↦ rest.1 k h y lt
      ],
    )

-- ---- a whole step

-- what is handled may begin to send
pub sending_invariant-start : (n : Net) (t : ℕ) (out : List Interface) (f : Flight) (i : ℕ) (w : Waiting)
    (all : List (ℕ × ℕ)) → IsNet n → RunInvariant n t out f → slice_get f.waiting i ≡ Some w →
    n.row w.router ≡ Exact w.vif all
    → (b : Copy) × SendingInvariant n t out w.router w.vif w.ttl all b all (without_waiting i f)
sending_invariant-start n t out f i w all net v e row =
    let heard = v.heard w (slice_get-in f.waiting i w e) in (
      heard.0,
      record {
        inv = run_invariant-without n t out f i w v e;
        row = row;
        base_in = heard.1;
        from = heard.2;
        ttl = heard.3;
        other = heard.4;
        gone = not_waiting-without n t out f i w v e;
        within = λ p h. h;
        vifs = net.vifs w.router w.vif all row;
        fresh = λ c k h q z. (let s = v.sent c w.router k h q in
            let same : Exact s.incoming s.pairs ≡ Exact w.vif all = sym s.row ∙ row in
            let vif : w.vif ≡ s.incoming = cc in
            s.gone (subst (λ (x : ℕ). In (w.router, x) (waiting_interfaces f)) vif
            (in-map interface_of_waiting w f.waiting (slice_get-in f.waiting i w e))));
      },
    )

-- the one that waited first at w's interface
handled-step : (n : Net) (t : ℕ) (out : List Interface) (f g : Flight) (i : ℕ) (w : Waiting) →
    RunInvariant n t out f → slice_get f.waiting i ≡ Some w →
    RunInvariant n t (interface_of_waiting w ∷ out) g →
    ((d : Copy) → In d f.carried → In d g.carried) → Handled n g.carried w.router w.vif w.ttl →
    RunInvariant n t out g
handled-step n t out f g i w v e u more h =
    let heard = v.heard w (slice_get-in f.waiting i w e) in
    run_invariant-handled n t out w.router w.vif w.ttl g heard.0 u (more heard.0 heard.1) heard.2 heard.3 h

-- by whether the copy came by the expected vif
run_invariant-exact_row : (n : Net) (t : ℕ) (out : List Interface) (f : Flight) (i : ℕ) (w : Waiting)
    (incoming : ℕ) (all : List (ℕ × ℕ)) (test : Bool) → (incoming == w.vif) ≡ test → IsNet n →
    RunInvariant n t out f → slice_get f.waiting i ≡ Some w → n.row w.router ≡ Exact incoming all →
    IsClean (cond test (sends n w.router w.ttl all (without_waiting i f)) (without_waiting i f)) →
    RunInvariant n t out (cond test (sends n w.router w.ttl all (without_waiting i f)) (without_waiting i f))
run_invariant-exact_row n t out f i w incoming all true q net v e row clean =
    let vif : incoming ≡ w.vif = eqb-true incoming w.vif q in
    let row' : n.row w.router ≡ Exact w.vif all = row ∙ ap (λ (x : ℕ). Exact x all) vif in
    let m = sending_invariant-start n t out f i w all net v e row' in
    let k = run_invariant-sends n t out w.router w.vif w.ttl all m.0 all (without_waiting i f) net
    m.1 clean in
    handled-step n t out f (sends n w.router w.ttl all (without_waiting i f)) i w v e k.0
    (λ d h. in_carried-sends n w.router w.ttl all (without_waiting i f) d h) (record {
      not_open = λ o. absurd (let z : Open ≡ Exact w.vif all = sym o ∙ row' in cc);
      sent = λ pairs p h r' z lt. k.1 p h (let same : Exact w.vif pairs ≡ Exact w.vif all = sym r' ∙
          row' in let y : pairs ≡ all = cc in subst (λ ps. In (p, h) ps) y z) lt;
    })
run_invariant-exact_row n t out f i w incoming all false q net v e row clean =
    handled-step n t out f (without_waiting i f) i w v e (run_invariant-without n t out f i w v e) (λ d h. h)
    (record {
      not_open = λ o. absurd (let z : Open ≡ Exact incoming all = sym o ∙ row in cc);
      sent = λ pairs p h r' z lt. absurd (eqb-false incoming w.vif q
          (let same : Exact w.vif pairs ≡ Exact incoming all = sym r' ∙ row in cc));
    })

-- by the router's row
run_invariant-row : (n : Net) (t : ℕ) (out : List Interface) (f : Flight) (i : ℕ) (w : Waiting) (row : Row) →
    n.row w.router ≡ row → IsNet n → RunInvariant n t out f → slice_get f.waiting i ≡ Some w →
    IsClean (handle_by_row n w row (without_waiting i f)) →
    RunInvariant n t out (handle_by_row n w row (without_waiting i f))
run_invariant-row n t out f i w (Exact incoming all) q net v e clean =
    run_invariant-exact_row n t out f i w incoming all (incoming == w.vif) refl net v e q clean
run_invariant-row n t out f i w Open q net v e clean = absurd (append-not_nil f.strays (w.router, w.vif)
    clean.none_stray)
run_invariant-row n t out f i w NoRow q net v e clean = handled-step n t out f (without_waiting i f) i w v e
    (run_invariant-without n t out f i w v e) (λ d h. h) (record {
      not_open = λ o. absurd (let z : Open ≡ NoRow = sym o ∙ q in cc);
      sent = λ pairs p h r' z lt. absurd (let y : Exact w.vif pairs ≡ NoRow = sym r' ∙ q in cc);
    })

-- by the copy at the place
run_invariant-handle : (n : Net) (t : ℕ) (out : List Interface) (f : Flight) (i : ℕ) (o : Option Waiting) →
    slice_get f.waiting i ≡ o → i < length f.waiting → IsNet n → RunInvariant n t out f →
    IsClean (handle n o (without_waiting i f)) → RunInvariant n t out (handle n o (without_waiting i f))
run_invariant-handle n t out f i None e lt net v clean = absurd (slice_get-none f.waiting i lt e)
run_invariant-handle n t out f i (Some w) e lt net v clean =
    run_invariant-row n t out f i w (n.row w.router) refl net v
    e clean

-- a step in range whose flight is clean keeps the invariant
pub run_invariant-step : (n : Net) (t : ℕ) (out : List Interface) (f : Flight) (i : ℕ) → IsNet n →
    i < length f.waiting → RunInvariant n t out f → IsClean (step n i f) → RunInvariant n t out (step n i f)
run_invariant-step n t out f i net lt v clean =
    run_invariant-handle n t out f i (slice_get f.waiting i) refl lt net v
    clean

-- ---- an earlier flight of a clean one is clean

-- before a row was used
clean-row : (n : Net) (w : Waiting) (row : Row) (f : Flight) → IsClean (handle_by_row n w row f) →
    IsClean f
clean-row n w (Exact incoming pairs) f h = clean-cond (incoming == w.vif)
    (sends n w.router w.ttl pairs f) f (clean-sends n w.router w.ttl pairs f) h
clean-row n w Open f h = absurd (append-not_nil f.strays (w.router, w.vif) h.none_stray)
clean-row n w NoRow f h = h

-- before a copy was handled
clean-handle : (n : Net) (o : Option Waiting) (f : Flight) → IsClean (handle n o f) → IsClean f
clean-handle n None f h = h
clean-handle n (Some w) f h = clean-row n w (n.row w.router) f h

-- before a step
pub clean-step : (n : Net) (i : ℕ) (f : Flight) → IsClean (step n i f) → IsClean f
clean-step n i f h = let z = clean-handle n (slice_get f.waiting i) (without_waiting i f) h in record
    { once = z.once; none_stray = z.none_stray }

-- before a pick
pub clean-happens : (n : Net) (p : Pick) (f : Flight) → IsClean (apply_pick n p f) → IsClean f
clean-happens n (Handles i) f h = clean-step n i f h
clean-happens n (Loses i) f h = record { once = h.once; none_stray = h.none_stray }

-- before a run
pub clean-run : (n : Net) (ps : List Pick) (f : Flight) → IsClean (run n ps f) → IsClean f
clean-run n [] f h = h
clean-run n (p ∷ ps) f h = clean-happens n p f (clean-run n ps (apply_pick n p f) h)

-- the invariant after picks, with nothing more taken away where none was lost
abbrev pub InvariantAfter : Net → ℕ → List Pick → List Interface → Flight → Type 0
InvariantAfter n t ps out f = (lost : List Interface) × RunInvariant n t lost f × (IsLossless ps → lost ≡ out)

-- a copy is lost
pub run_invariant-loss : (n : Net) (t : ℕ) (out : List Interface) (f : Flight) (i : ℕ) →
    i < length f.waiting → RunInvariant n t out f →
    (lost : List Interface) × RunInvariant n t lost (without_waiting i f)
run_invariant-loss n t out f i lt v = by n t out f i lt v (slice_get f.waiting i) refl
  where
    by : (n : Net) (t : ℕ) (out : List Interface) (f : Flight) (i : ℕ) → i < length f.waiting →
        RunInvariant n t out f → (o : Option Waiting) → slice_get f.waiting i ≡ o →
        (lost : List Interface) × RunInvariant n t lost (without_waiting i f)
    by n t out f i lt v None e = absurd (slice_get-none f.waiting i lt e)
    by n t out f i lt v (Some w) e = (interface_of_waiting w ∷ out, run_invariant-without n t out f i w v e)

-- every clean run keeps the invariant
pub run_invariant-run : (n : Net) (t : ℕ) (out : List Interface) (ps : List Pick) (f : Flight) → IsNet n →
    InRange n ps f → RunInvariant n t out f → IsClean (run n ps f) → InvariantAfter n t ps out (run n ps f)
run_invariant-run n t out [] f net range v h = (out, v, λ _. refl)
run_invariant-run n t out (Handles i ∷ ps) f net range v h =
    run_invariant-run n t out ps (step n i f) net range.1
    (run_invariant-step n t out f i net range.0 v (clean-run n ps (step n i f) h)) h
run_invariant-run n t out (Loses i ∷ ps) f net range v h =
    let l = run_invariant-loss n t out f i range.0 v in
    let r = run_invariant-run n t l.0 ps (without_waiting i f) net range.1 l.1 h in
    (r.0, r.1, λ z. absurd z)
