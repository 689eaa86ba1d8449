-- What every clean run keeps, whichever the domain: each interface of a carrying LAN waits or was
-- handled.
use Rattle.std.proofs.Common.{◌≡◌, ◌≢◌, ℕ, ◌+◌, ◌<◌, ◌≤◌, ◌⊎◌, inl, inr, true, not, ◌==◌, List, []}
use Rattle.std.proofs.Common.{◌∷◌, ◌++◌, map, Option, Some, None, refl, ap, sym, ◌∙◌, ap₂, subst}
use Rattle.std.proofs.Common.{arith, eqb-true, eq-eqb}
use Rattle.std.proofs.lemmas.Bool.{and_parts, and_from, not-true, false_from_ne_true}
use Rattle.std.proofs.lemmas.Bool.{not_from_false}
use Rattle.mc_theory.specs.Lists.{In, Distinct}
use Rattle.mc_theory.specs.Nets.{Net, IsNet, Interface, interfaces}
use Rattle.mc_theory.specs.Nets.Row.{Exact, Open}
use Rattle.mc_theory.specs.Flights.{Copy, Waiting, Flight, is_sender, hearers, waits_at, put}
use Rattle.mc_theory.specs.Flights.{source_copy}
use Rattle.mc_theory.specs.Certificates.{lans, IsClean}
use Rattle.mc_theory.proofs.ListLemmas.{in-append_left, in-append_right, in-append_cases}
use Rattle.mc_theory.proofs.ListLemmas.{in-push_cases, in-push, in-map, in-map_cases, in-filter}
use Rattle.mc_theory.proofs.ListLemmas.{in-filter_cases, distinct-append, distinct-filter}
use Rattle.mc_theory.proofs.PlacedInterfaces.{in-interfaces, placed-member_of_interfaces, distinct-interfaces}

abbrev pub interface_of_waiting : Waiting → Interface
interface_of_waiting w = (w.router, w.vif)

abbrev pub waiting_interfaces : Flight → List Interface
waiting_interfaces f = map interface_of_waiting f.waiting

-- w waits since its LAN carried a copy
abbrev pub Heard : Net → Flight → Waiting → Type 0
Heard n f w = (c : Copy) × In c f.carried × (n.placed w.router w.vif ≡ Some c.lan) ×
    (c.ttl ≡ w.ttl) × (c.sender ≢ Some (w.router, w.vif))

-- c was sent by interface (r, v), when r handled what waited at its incoming vif
pub record SentByInterface (n : Net) (f : Flight) (c : Copy) (r v : ℕ) : Type 0 where
  pub base : Copy
  pub base_in : In base f.carried
  pub incoming : ℕ
  pub pairs : List (ℕ × ℕ)
  pub threshold : ℕ
  pub row : n.row r ≡ Exact incoming pairs
  pub from : n.placed r incoming ≡ Some base.lan
  pub other : base.sender ≢ Some (r, incoming)
  pub pair : In (v, threshold) pairs
  pub hot : threshold < base.ttl
  pub ttl : c.ttl + 1 ≡ base.ttl
  pub onto : n.placed r v ≡ Some c.lan
  pub gone : In (r, incoming) (waiting_interfaces f) → ⊥

-- what the pair (k, h) of r sends for TTL t is among the carried copies
abbrev pub Sends : Net → List Copy → ℕ → ℕ → ℕ → Type 0
Sends n cs r t k = (d : Copy) × In d cs × (n.placed r k ≡ Some d.lan) × (d.sender ≡ Some (r, k)) ×
    (d.ttl + 1 ≡ t)

-- a copy with TTL t that waited at (r, v) was handled
pub record Handled (n : Net) (cs : List Copy) (r v t : ℕ) : Type 0 where
  pub not_open : n.row r ≢ Open
  pub sent : (pairs : List (ℕ × ℕ)) (k h : ℕ) → n.row r ≡ Exact v pairs → In (k, h) pairs → h < t →
      Sends n cs r t k

-- `out` are the interfaces whose copies were taken away: lost, or about to be handled
pub record RunInvariant (n : Net) (t : ℕ) (out : List Interface) (f : Flight) : Type 0 where
  pub first : In (source_copy n t) f.carried
  pub only : (c : Copy) → In c f.carried → c.sender ≡ None → c ≡ source_copy n t
  pub once : Distinct (waiting_interfaces f)
  pub heard : (w : Waiting) → In w f.waiting → Heard n f w
  pub sent : (c : Copy) (r v : ℕ) → In c f.carried → c.sender ≡ Some (r, v) → SentByInterface n f c r v
  pub all : (c : Copy) (r v : ℕ) → In c f.carried → n.placed r v ≡ Some c.lan →
      c.sender ≢ Some (r, v) → In (r, v) out ⊎ (In (r, v) (waiting_interfaces f) ⊎ Handled n f.carried r v
      c.ttl)
  pub low : (c : Copy) → In c f.carried → c.ttl ≤ t
  pub clean : IsClean f

-- ---- who hears a copy

-- interfaces with the same parts are equal
pub interface_equal-from_parts : (i j : Interface) → i.0 ≡ j.0 → i.1 ≡ j.1 → i ≡ j
interface_equal-from_parts i j p q = let pair : ℕ → ℕ → Interface = λ a b. (a, b) in ap₂ pair p q

pub is_sender-true : (x : Option Interface) (i : Interface) → is_sender x i ≡ true → x ≡ Some i
is_sender-true None i e = absurd cc
is_sender-true (Some j) i e =
    let p = and_parts (j.0 == i.0) (j.1 == i.1) e in
    let a : j.0 ≡ i.0 = eqb-true j.0 i.0 p.0 in
    let b : j.1 ≡ i.1 = eqb-true j.1 i.1 p.1 in
    ap Some (interface_equal-from_parts j i a b)

pub is_sender-from_equal : (x : Option Interface) (i : Interface) → x ≡ Some i → is_sender x i ≡ true
is_sender-from_equal None i e = absurd cc
is_sender-from_equal (Some j) i e = let q : j ≡ i = cc in and_from (j.0 == i.0) (j.1 == i.1)
    (eq-eqb j.0 i.0 (ap (λ (x : Interface). x.0) q)) (eq-eqb j.1 i.1
    (ap (λ (x : Interface). x.1) q))

pub in_hearers : (n : Net) (c : Copy) (r v : ℕ) → IsNet n → n.placed r v ≡ Some c.lan →
    c.sender ≢ Some (r, v) → In (r, v) (hearers n c)
in_hearers n c r v net on other = in-filter (λ (i : Interface). not (is_sender c.sender i)) (r, v)
    (interfaces n c.lan) (in-interfaces n r v c.lan net on)
    (not_from_false (is_sender c.sender (r, v)) (false_from_ne_true (is_sender c.sender (r, v))
    (λ e. other (is_sender-true c.sender (r, v) e))))

pub placed-hearer : (n : Net) (c : Copy) (i : Interface) → In i (hearers n c) →
    n.placed i.0 i.1 ≡ Some c.lan
placed-hearer n c i h = placed-member_of_interfaces n i c.lan (in-filter_cases
    (λ (i : Interface). not (is_sender c.sender i)) i (interfaces n c.lan) h).0

pub hearer-not_the_sender : (n : Net) (c : Copy) (i : Interface) → In i (hearers n c) → c.sender ≢ Some i
hearer-not_the_sender n c i h e =
    let p = (in-filter_cases (λ (i : Interface). not (is_sender c.sender i)) i (interfaces n c.lan)
    h).1 in
    let q = not-true (is_sender c.sender i) p in
    let s = is_sender-from_equal c.sender i e in
    absurd cc

pub distinct-hearers : (n : Net) (c : Copy) → Distinct (hearers n c)
distinct-hearers n c = distinct-filter (λ (i : Interface). not (is_sender c.sender i))
    (interfaces n c.lan) (distinct-interfaces n c.lan)

pub map_interface-waits_at : (t : ℕ) (is : List Interface) →
    map interface_of_waiting (map (waits_at t) is) ≡ is
map_interface-waits_at t [] = refl
map_interface-waits_at t (i ∷ is) = ap (λ js. i ∷ js) (map_interface-waits_at t is)

pub map-append' : {A B : Type 0} (f : A → B) (xs ys : List A) →
    map f (xs ++ ys) ≡ map f xs ++ map f ys
map-append' f [] ys = refl
map-append' f (x ∷ xs) ys = ap (λ zs. f x ∷ zs) (map-append' f xs ys)

-- ---- putting a copy

pub waiting_interfaces-put : (n : Net) (c : Copy) (f : Flight) →
    waiting_interfaces (put n c f) ≡ waiting_interfaces f ++ hearers n c
waiting_interfaces-put n c f =
    map-append' interface_of_waiting f.waiting (map (waits_at c.ttl) (hearers n c)) ∙
    ap (λ is. waiting_interfaces f ++ is) (map_interface-waits_at c.ttl (hearers n c))

pub lans-put : (n : Net) (c : Copy) (f : Flight) → lans (put n c f).carried ≡ lans f.carried ++
    c.lan ∷ []
lans-put n c f = map-append' (λ (c : Copy). c.lan) f.carried (c ∷ [])

some_injective : (a b : ℕ) → Some a ≡ Some b → a ≡ b
some_injective a b e = cc

-- an interface that waits after the put waited before, or is on the new copy's LAN
waiting_interfaces-put_cases : (n : Net) (c : Copy) (f : Flight) (i : Interface) →
    In i (waiting_interfaces (put n c f)) →
    In i (waiting_interfaces f) ⊎ (n.placed i.0 i.1 ≡ Some c.lan)
waiting_interfaces-put_cases n c f i h = elim (in-append_cases i (waiting_interfaces f) (hearers n c)
    (subst (λ is. In i is) (waiting_interfaces-put n c f) h)) [
      | inl k ↦ inl k
      | inr k ↦ inr
          (placed-hearer n c i k)
    ]

waiting_interfaces-put_old : (n : Net) (c : Copy) (f : Flight) (i : Interface) → In i (waiting_interfaces f) →
    In i (waiting_interfaces (put n c f))
waiting_interfaces-put_old n c f i h = subst (λ is. In i is) (sym (waiting_interfaces-put n c f))
    (in-append_left i (waiting_interfaces f) (hearers n c) h)

waiting_interfaces-put_new : (n : Net) (c : Copy) (f : Flight) (i : Interface) → In i (hearers n c) →
    In i (waiting_interfaces (put n c f))
waiting_interfaces-put_new n c f i h = subst (λ is. In i is) (sym (waiting_interfaces-put n c f))
    (in-append_right i (waiting_interfaces f) (hearers n c) h)

-- the incoming interface of what a copy was sent on from is on another LAN than a new copy
pub not_waiting-put : (n : Net) (c : Copy) (f : Flight) (b : Copy) (r v : ℕ) → In b f.carried →
    (In c.lan (lans f.carried) → ⊥) → n.placed r v ≡ Some b.lan → (In (r, v) (waiting_interfaces f) → ⊥) →
    In (r, v) (waiting_interfaces (put n c f)) → ⊥
not_waiting-put n c f b r v b_in new on gone h = elim (waiting_interfaces-put_cases n c f (r, v) h) [
  | inl k ↦ gone k
  | inr e ↦ new (subst (λ l. In l (lans f.carried)) (some_injective b.lan c.lan (sym on ∙ e))
      (in-map (λ (c : Copy). c.lan) b f.carried b_in))
]

-- what was sent in one flight was sent in another, too, that has what it was sent on from and in which
-- nothing waits there
pub sent_by_interface-in_other_flight : (n : Net) (f g : Flight) (c : Copy) (r v : ℕ) →
    (s : SentByInterface n f c r v) →
    In s.base g.carried → (In (r, s.incoming) (waiting_interfaces g) → ⊥) → SentByInterface n g c r v
sent_by_interface-in_other_flight n f g c r v s base_in gone = record {
  base = s.base;
  base_in = base_in;
  incoming = s.incoming;
  pairs = s.pairs;
  threshold = s.threshold;
  row = s.row;
  from = s.from;
  other = s.other;
  pair = s.pair;
  hot = s.hot;
  ttl = s.ttl;
  onto = s.onto;
  gone = gone;
}

sent_by_interface-put : (n : Net) (c : Copy) (f : Flight) (d : Copy) (r v : ℕ) →
    (In c.lan (lans f.carried) → ⊥) → SentByInterface n f d r v → SentByInterface n (put n c f) d r v
sent_by_interface-put n c f d r v new s = sent_by_interface-in_other_flight n f (put n c f) d r v s
    (in-append_left s.base f.carried (c ∷ []) s.base_in)
    (not_waiting-put n c f s.base r s.incoming s.base_in new s.from s.gone)

pub handled-more : (n : Net) (cs ds : List Copy) (r v t : ℕ) → ((d : Copy) → In d cs → In d ds) →
    Handled n cs r v t → Handled n ds r v t
handled-more n cs ds r v t more h = record {
  not_open = h.not_open;
  sent = λ pairs k j row i lt. (let s = h.sent pairs k j row i
      lt in (s.0, more s.0 s.1, s.2, s.3, s.4));
}

pub heard-put : (n : Net) (c : Copy) (f : Flight) (w : Waiting) → In w (put n c f).waiting →
    ((w : Waiting) → In w f.waiting → Heard n f w) → Heard n (put n c f) w
heard-put n c f w h old = elim (in-append_cases w f.waiting
    (map (waits_at c.ttl) (hearers n c)) h) [
      | inl k ↦ (let o = old w k in (o.0, in-append_left o.0 f.carried (c ∷ []) o.1, o.2, o.3, o.4))
      | inr k ↦ (let m = in-map_cases (waits_at c.ttl) w (hearers n c) k in (
        c,
        in-push f.carried c,
        ap (λ (u : Waiting). n.placed u.router u.vif) (sym m.2) ∙
            placed-hearer n c m.0 m.1,
        ap (λ (u : Waiting). u.ttl) m.2,
        λ e. hearer-not_the_sender n c m.0 m.1 (e ∙ ap (λ (u : Waiting). Some (u.router, u.vif))
            (sym m.2)),
      ))
    ]

pub run_invariant-put : (n : Net) (t : ℕ) (out : List Interface) (f : Flight) (c : Copy) (r v : ℕ) →
    IsNet n → RunInvariant n t out f → c.sender ≡ Some (r, v) → SentByInterface n f c r v →
    (In c.lan (lans f.carried) → ⊥) → RunInvariant n t out (put n c f)
run_invariant-put n t out f c r v net i from sent new = record {
  first = in-append_left (source_copy n t) f.carried (c ∷ []) i.first;
  only = λ d h e. elim (in-push_cases d f.carried c h) [
    | inl k ↦ i.only d k e
    | inr q ↦ absurd
        (let z : c.sender ≡ d.sender = ap (λ (x : Copy). x.sender) q in cc)
  ];
  once = subst Distinct (sym (waiting_interfaces-put n c f))
      (distinct-append (waiting_interfaces f) (hearers n c) i.once
      (distinct-hearers n c) (λ p h k.
      let w = in-map_cases interface_of_waiting p f.waiting h in
      let o = i.heard w.0 w.1 in
      let e : n.placed p.0 p.1 ≡ Some o.0.lan = ap (λ (x : Interface). n.placed x.0 x.1) (sym w.2) ∙
      o.2 in
      new (subst (λ l. In l (lans f.carried)) (some_injective o.0.lan c.lan
      (sym e ∙ placed-hearer n c p k)) (in-map (λ (c : Copy). c.lan) o.0 f.carried o.1))));
  heard = λ w h. heard-put n c f w h i.heard;
  sent = λ d q u h e. elim (in-push_cases d f.carried c h) [
    | inl k ↦ sent_by_interface-put n c f d q u new (i.sent d q u k e)
    | inr z ↦ (let both : ◌≡◌ {A = Option Interface} (Some (r, v)) (Some (q, u)) = sym from ∙
        (ap (λ (x : Copy). x.sender) z ∙ e) in
        let interface_of_waiting : ◌≡◌ {A = Interface} (r, v) (q, u) = cc in
        subst (λ (p : Interface). SentByInterface n (put n c f) d p.0 p.1) interface_of_waiting
        (subst (λ (x : Copy). SentByInterface n (put n c f) x r v) z
        (sent_by_interface-put n c f c r v new sent)))
  ];
  all = λ d q u h on other. elim (in-push_cases d f.carried c h) [
    | inl k ↦ elim (i.all d q u k on other) [
      | inl b ↦ inl b
      | inr (inl w) ↦ inr (inl (waiting_interfaces-put_old n c f (q, u) w))
      | inr (inr a) ↦ inr (inr (handled-more n f.carried (put n c f).carried q u d.ttl
          (λ x y. in-append_left x f.carried (c ∷ []) y) a))
    ]
    | inr z ↦ inr (inl (waiting_interfaces-put_new n c f (q, u) (in_hearers n c q u net
        (on ∙ ap (λ (x : Copy). Some x.lan) (sym z)) (λ e. other
        (ap (λ (x : Copy). x.sender) (sym z) ∙ e)))))
  ];
  low = λ d h. elim (in-push_cases d f.carried c h) [
    | inl k ↦ i.low d k
    | inr q ↦ subst (λ (x : Copy). x.ttl ≤ t) q (let b =
        i.low sent.base sent.base_in in omega (arith, b, sent.ttl))
  ];
  clean = record {
    once = subst Distinct (sym (lans-put n c f)) (distinct-append (lans f.carried) (c.lan ∷ [])
        i.clean.once ((λ h. h), tt) (λ l h k. elim k [
          | inl e ↦ new
              (subst (λ x. In x (lans f.carried)) (sym e) h)
          | inr z ↦ z
        ]));
    none_stray = i.clean.none_stray;
  };
}
