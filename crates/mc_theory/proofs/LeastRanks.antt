-- In a travel that handles the first waiting copy each time a LAN's first copy came by a shortest path.
use Rattle.std.proofs.Common.{◌≡◌, ℕ, ◌+◌, ◌-◌, ◌<◌, ◌≤◌, ◌⊎◌, inl, inr, Bool, true}
use Rattle.std.proofs.Common.{false, cond, ◌==◌, nat_lt, List, [], ◌∷◌, ◌++◌, map, length, remove}
use Rattle.std.proofs.Common.{slice_get, Option, Some, None, refl, ap, sym, ◌∙◌, subst, arith}
use Rattle.std.specs.Prelude.{⊤}
use Rattle.std.proofs.Common.{ltb-true}
use Rattle.mc_theory.specs.Lists.{In}
use Rattle.mc_theory.specs.Nets.{Net, IsNet, Row, Interface}
use Rattle.mc_theory.specs.Nets.Row.{Exact, Open, NoRow}
use Rattle.mc_theory.specs.Flights.{Copy, Waiting, Flight, hearers, waits_at, put, leave, send}
use Rattle.mc_theory.specs.Flights.{sends, handle_by_row, handle, without_waiting, step, start}
use Rattle.mc_theory.specs.Flights.{run, source_copy}
use Rattle.mc_theory.specs.Certificates.{IsClean}
use Rattle.mc_theory.specs.Findings.{Finding, first_copy_on, choice, numbers_left, IsTravel, handles}
use Rattle.mc_theory.specs.Paths.{Hop, IsPath, PassesHops}
use Rattle.mc_theory.proofs.ListLemmas.{in-append_cases, in-push_cases, in-map_cases, in-remove}
use Rattle.mc_theory.proofs.ListLemmas.{slice_get-in, equal-from_same_image}
use Rattle.mc_theory.proofs.RunInvariant.{interface_of_waiting, waiting_interfaces, RunInvariant}
use Rattle.mc_theory.proofs.StepInvariant.{run_invariant-start, run_invariant-step}
use Rattle.mc_theory.proofs.CopyOrigins.{StepGrows, grows-step}
use Rattle.mc_theory.proofs.ReachedLans.{sender-not_the_incoming_vif}
use Rattle.mc_theory.proofs.CertificateOfRun.{first_copy_on-of_member}
use Rattle.mc_theory.proofs.Travels.{finding-none, choice-below_waiting}
use Rattle.mc_theory.proofs.WalkBack.{in-first_copy_on, first_copy_on-append}
use Rattle.mc_theory.proofs.CameByHops.{copy_equal-from_some, lan_equal-from_some}

-- ---- what each step of a travel keeps

-- what a step keeps: P, of the numbers that are left and of the flight
abbrev pub IsKeptByStep : Net → ℕ → Bool → (List ℕ → Flight → Type 0) → Type 0
IsKeptByStep n t last P = (numbers : List ℕ) (f : Flight) (i : ℕ) →
    i ≡ choice (length f.waiting) numbers last → i < length f.waiting → RunInvariant n t [] f →
    P numbers f → P (numbers_left numbers) (step n i f)

-- a travel that goes on keeps what each step keeps
kept_by_travel-step : (n : Net) (count t : ℕ) (last : Bool) (P : List ℕ → Flight → Type 0) → IsNet n →
    IsKeptByStep n t last P → (numbers : List ℕ) (is : List ℕ) (f : Flight) (x : Finding) →
    (IsClean f → RunInvariant n t [] f) → P numbers f → IsTravel n count numbers last is f x →
    (left : List ℕ) × P left (run n (handles is) f)
kept_by_travel-step n count t last P net keep numbers [] f x inv p travel = (numbers, p)
kept_by_travel-step n count t last P net keep numbers (i ∷ is) f x inv p travel =
    let some = finding-none n count f travel.0 in
    let lt : i < length f.waiting = subst (λ k. k < length f.waiting) (sym travel.1)
    (choice-below_waiting (length f.waiting) numbers last some.1) in
    let v = inv some.0 in
    kept_by_travel-step n count t last P net keep (numbers_left numbers) is (step n i f) x
    (run_invariant-step n t [] f i net lt v) (keep numbers f i travel.1 lt v p) travel.2

-- so it is for a travel from the start
pub kept_by_travel : (n : Net) (count t : ℕ) (numbers : List ℕ) (last : Bool) (is : List ℕ)
    (x : Finding) (P : List ℕ → Flight → Type 0) → IsNet n → IsKeptByStep n t last P →
    P numbers (start n t) → IsTravel n count numbers last is (start n t) x →
    (left : List ℕ) × P left (run n (handles is) (start n t))
kept_by_travel n count t numbers last is x P net keep p travel = kept_by_travel-step n count t last P net
    keep numbers is (start n t) x (λ _. run_invariant-start n t net) p travel

-- ---- what waits, first in and first out

-- in descending TTL
abbrev pub Descending : List Waiting → Type 0
Descending [] = ⊤
Descending (w ∷ ws) = ((u : Waiting) → In u ws → u.ttl ≤ w.ttl) × Descending ws

-- more of one TTL at the end, which is no greater
descending-append : (ws us : List Waiting) (t : ℕ) → Descending ws →
    ((w : Waiting) → In w ws → t ≤ w.ttl) → ((u : Waiting) → In u us → u.ttl ≡ t) →
    Descending (ws ++ us)
descending-append [] [] t d low new = tt
descending-append [] (u ∷ us) t d low new = (
  (λ v h. let first = new u (inl refl) in let other = new v (inr h) in omega (arith, first, other)),
  descending-append [] us t tt low (λ v h. new v (inr h)),
)
descending-append (w ∷ ws) us t d low new = (
  (λ u h. elim (in-append_cases u ws us h) [
    | inl k ↦ d.0 u k
    | inr k ↦ (let least = low w (inl refl) in let same = new u k in omega (arith, least, same))
  ]),
  descending-append ws us t d.1 (λ u h. low u (inr h)) new,
)

-- without the first
descending-remove : (ws : List Waiting) → Descending ws → Descending (remove ws 0)
descending-remove [] d = tt
descending-remove (w ∷ ws) d = d.1

-- none has a greater TTL than the first
ttl-at_most_first : (ws : List Waiting) (w u : Waiting) → Descending ws →
    slice_get ws 0 ≡ Some w → In u ws → u.ttl ≤ w.ttl
ttl-at_most_first [] w u d e h = absurd h
ttl-at_most_first (v ∷ ws) w u d e (inl q) =
    let same : v ≡ w = cc in
    let ttl = ap (λ (x : Waiting). x.ttl) (sym q ∙ same) in
    omega (arith, ttl)
ttl-at_most_first (v ∷ ws) w u d e (inr h) = let same : v ≡ w = cc in subst
    (λ (x : Waiting). u.ttl ≤ x.ttl) same (d.0 u h)

-- without a first one none waits
no_first-none_waits : (ws : List Waiting) (u : Waiting) → slice_get ws 0 ≡ None → In u ws → ⊥
no_first-none_waits [] u e h = h
no_first-none_waits (w ∷ ws) u e h = absurd cc

-- What waits has TTL s or one less, in descending order, and each carried copy has no less.
pub record HasTtlLevel (s : ℕ) (f : Flight) : Type 0 where
  pub descending : Descending f.waiting
  pub high : (w : Waiting) → In w f.waiting → w.ttl ≤ s
  pub near : (w : Waiting) → In w f.waiting → s ≤ w.ttl + 1
  pub behind : (c : Copy) → In c f.carried → s ≤ c.ttl + 1

-- a copy with one TTL less is put on a LAN
ttl_level-put : (n : Net) (s : ℕ) (c : Copy) (f : Flight) → c.ttl + 1 ≡ s → HasTtlLevel s f →
    HasTtlLevel s (put n c f)
ttl_level-put n s c f e v =
    let new : (w : Waiting) → In w (map (waits_at c.ttl) (hearers n c)) → w.ttl ≡ c.ttl = λ w h. (
    let i = in-map_cases (waits_at c.ttl) w (hearers n c) h in
    ap (λ (x : Waiting). x.ttl) (sym i.2)) in
    record {
      descending = descending-append f.waiting (map (waits_at c.ttl) (hearers n c)) c.ttl
          v.descending (λ w h. let near = v.near w h in omega (arith, near, e)) new;
      high = λ w h. elim (in-append_cases w f.waiting (map (waits_at c.ttl) (hearers n c)) h) [
        | inl k ↦ v.high w k
        | inr k ↦ (let same = new w k in omega (arith, same, e))
      ];
      near = λ w h. elim (in-append_cases w f.waiting (map (waits_at c.ttl) (hearers n c)) h) [
        | inl k ↦ v.near w k
        | inr k ↦ (let same = new w k in omega (arith, same, e))
      ];
      behind = λ d h. elim (in-push_cases d f.carried c h) [
        | inl k ↦ v.behind d k
        | inr q ↦ (let same = ap (λ (x : Copy). x.ttl) q in omega (arith, same, e))
      ];
    }

-- one is sent by a vif
ttl_level-leave : (n : Net) (s : ℕ) (i : Interface) (o : Option ℕ) (f : Flight) → 0 < s → HasTtlLevel s f →
    HasTtlLevel s (leave n (s - 1) i o f)
ttl_level-leave n s i None f lt v = record {
  descending = v.descending;
  high = v.high;
  near = v.near;
  behind = v.behind;
}
ttl_level-leave n s i (Some l) f lt v = ttl_level-put n s
    (record { lan = l; ttl = s - 1; sender = Some i }) f (omega (arith, lt)) v

-- if its TTL is greater than the threshold
ttl_level-cond : (n : Net) (s : ℕ) (i : Interface) (h : ℕ) (o : Option ℕ) (test : Bool) (f : Flight) →
    nat_lt h s ≡ test → HasTtlLevel s f → HasTtlLevel s (cond test (leave n (s - 1) i o f) f)
ttl_level-cond n s i h o true f e v = let lt = ltb-true h s e in ttl_level-leave n s i o f
    (omega (arith, lt)) v
ttl_level-cond n s i h o false f e v = v

-- copies are sent by several vifs
ttl_level-sends : (n : Net) (r s : ℕ) (ps : List (ℕ × ℕ)) (f : Flight) → HasTtlLevel s f →
    HasTtlLevel s (sends n r s ps f)
ttl_level-sends n r s [] f v = v
ttl_level-sends n r s (p ∷ ps) f v = ttl_level-sends n r s ps (send n r s p f)
    (ttl_level-cond n s (r, p.0) p.1 (n.placed r p.0) (nat_lt p.1 s) f refl v)

-- one of two flights
ttl_level-cond_of_two : (s : ℕ) (f g : Flight) (test : Bool) → HasTtlLevel s f → HasTtlLevel s g →
    HasTtlLevel s (cond test f g)
ttl_level-cond_of_two s f g true v w = v
ttl_level-cond_of_two s f g false v w = w

-- the first is handled by a row
ttl_level-row : (n : Net) (w : Waiting) (row : Row) (f : Flight) → HasTtlLevel w.ttl f →
    HasTtlLevel w.ttl (handle_by_row n w row f)
ttl_level-row n w (Exact incoming pairs) f v = ttl_level-cond_of_two w.ttl (sends n w.router w.ttl pairs f) f
    (incoming == w.vif) (ttl_level-sends n w.router w.ttl pairs f v) v
ttl_level-row n w Open f v = record {
  descending = v.descending;
  high = v.high;
  near = v.near;
  behind = v.behind;
}
ttl_level-row n w NoRow f v = v

-- the first is taken away
ttl_level-lowered_to_first : (f : Flight) (s : ℕ) (w : Waiting) → slice_get f.waiting 0 ≡ Some w →
    HasTtlLevel s f →
    HasTtlLevel w.ttl (without_waiting 0 f)
ttl_level-lowered_to_first f s w e v =
    let high = v.high w (slice_get-in f.waiting 0 w e) in
    record {
      descending = descending-remove f.waiting v.descending;
      high = λ u h. ttl-at_most_first f.waiting w u v.descending e (in-remove u f.waiting 0 h);
      near = λ u h. let near = v.near u (in-remove u f.waiting 0 h) in omega (arith, high, near);
      behind = λ c h. let behind = v.behind c h in omega (arith, high, behind);
    }

-- the flight after the first was handled; what waited had at most TTL s
abbrev pub HasTtlLevelAfterStep : Net → Flight → Type 0
HasTtlLevelAfterStep n f = (s : ℕ) × HasTtlLevel s (step n 0 f) × ((w : Waiting) → In w f.waiting → w.ttl ≤ s)

-- and handled, if there was one
ttl_level-after_handling : (n : Net) (f : Flight) (s : ℕ) (o : Option Waiting) → slice_get f.waiting 0 ≡ o →
    HasTtlLevel s f → (k : ℕ) × HasTtlLevel k (handle n o (without_waiting 0 f)) ×
    ((w : Waiting) → In w f.waiting → w.ttl ≤ k)
ttl_level-after_handling n f s None e v = (
  s,
  record {
    descending = descending-remove f.waiting v.descending;
    high = λ w h. v.high w (in-remove w f.waiting 0 h);
    near = λ w h. v.near w (in-remove w f.waiting 0 h);
    behind = v.behind;
  },
  λ w h. absurd (no_first-none_waits f.waiting w e h),
)
ttl_level-after_handling n f s (Some w) e v = (
  w.ttl,
  ttl_level-row n w (n.row w.router) (without_waiting 0 f) (ttl_level-lowered_to_first f s w e v),
  λ u h. ttl-at_most_first f.waiting w u v.descending e h,
)

-- so it is after a step
ttl_level-step : (n : Net) (f : Flight) (s : ℕ) → HasTtlLevel s f → HasTtlLevelAfterStep n f
ttl_level-step n f s v = ttl_level-after_handling n f s (slice_get f.waiting 0) refl v

-- and at the start
ttl_level-start : (n : Net) (t : ℕ) → HasTtlLevel t (start n t)
ttl_level-start n t =
    let new : (w : Waiting) → In w (start n t).waiting → w.ttl ≡ t = λ w h. (
    let i = in-map_cases (waits_at t) w (hearers n (source_copy n t)) h in
    ap (λ (x : Waiting). x.ttl) (sym i.2)) in
    record {
      descending = descending-append [] (map (waits_at t) (hearers n (source_copy n t))) t tt
          (λ w h. absurd h) new;
      high = λ w h. let same = new w h in omega (arith, same);
      near = λ w h. let same = new w h in omega (arith, same);
      behind = λ c h. elim h [
        | inl q ↦ (let same = ap (λ (x : Copy). x.ttl) q in omega (arith, same))
        | inr z ↦ absurd z
      ];
    }

-- ---- along a path

-- a LAN at the end of these hops carried a copy that lost no more TTL, or one waits that lost less
abbrev IsCarriedOrComing : ℕ → Flight → ℕ → ℕ → Type 0
IsCarriedOrComing t f l k = ((c : Copy) × In c f.carried × (c.lan ≡ l) × (t ≤ c.ttl + k)) ⊎
    ((w : Waiting) × In w f.waiting × (t < w.ttl + k))

-- a copy that waits on c's LAN has the TTL of c
ttl-of_waiting_hearer : (n : Net) (t : ℕ) (f : Flight) (c : Copy) (r v : ℕ) → RunInvariant n t [] f →
    In c f.carried →
    n.placed r v ≡ Some c.lan → In (r, v) (waiting_interfaces f) →
    (w : Waiting) × In w f.waiting × (w.ttl ≡ c.ttl)
ttl-of_waiting_hearer n t f c r v inv c_in on h =
    let w = in-map_cases interface_of_waiting (r, v) f.waiting h in
    let d = inv.heard w.0 w.1 in
    let on' : n.placed r v ≡ Some d.0.lan = ap (λ (x : Interface). n.placed x.0 x.1) (sym w.2) ∙
    d.2 in
    let lan = lan_equal-from_some (n.placed r v) d.0.lan c.lan on' on in
    let same : d.0 ≡ c = equal-from_same_image (λ (x : Copy). x.lan) d.0 c f.carried inv.clean.once d.1 c_in
    lan in
    (w.0, w.1, sym d.3 ∙ ap (λ (x : Copy). x.ttl) same)

-- one hop more
carried_or_coming-hop : (n : Net) (t : ℕ) (f : Flight) (h : Hop) (hs : List Hop) (c : Copy) →
    RunInvariant n t [] f →
    IsPath n n.source (h ∷ hs) h.onto → length hs + h.threshold < t → In c f.carried →
    c.lan ≡ h.from → t ≤ c.ttl + length hs → IsCarriedOrComing t f h.onto (length (h ∷ hs))
carried_or_coming-hop n t f h hs c inv path lt c_in lan le =
    let hop = path.1 in
    let on : n.placed h.router hop.incoming ≡ Some c.lan = hop.takes ∙ ap Some (sym lan) in
    let other = sender-not_the_incoming_vif n t [] f c h.router hop.incoming hop.pairs inv c_in hop.row on in
    elim (inv.all c h.router hop.incoming c_in on other) [
      | inl z ↦ absurd z
      | inr (inl k) ↦ (let w = ttl-of_waiting_hearer n t f c h.router hop.incoming inv c_in on k in
          inr (w.0, w.1, omega (arith, le, w.2)))
      | inr (inr a) ↦ (let d = a.sent hop.pairs h.vif h.threshold hop.row hop.pair
          (omega (arith, lt, le)) in
          let onto = lan_equal-from_some (n.placed h.router h.vif) d.0.lan h.onto d.2 hop.sends in
          inl (d.0, d.1, onto, omega (arith, le, d.4)))
    ]

-- so it is for each path that a packet gets through
carried_or_coming-path : (n : Net) (t : ℕ) (f : Flight) (hs : List Hop) (l : ℕ) → RunInvariant n t [] f →
    IsPath n n.source hs l → PassesHops t hs → IsCarriedOrComing t f l (length hs)
carried_or_coming-path n t f [] l inv path p = inl (source_copy n t, inv.first, path, omega arith)
carried_or_coming-path n t f (h ∷ hs) l inv path p =
    elim (carried_or_coming-path n t f hs h.from inv path.2 p.1) [
      | inl c ↦ subst (λ x. IsCarriedOrComing t f x (length (h ∷ hs))) path.0
          (carried_or_coming-hop n t f h hs c.0 inv
          (refl, path.1, path.2) p.0 c.1 c.2 c.3)
      | inr w ↦ inr (w.0, w.1, let lt = w.2 in omega (arith, lt))
    ]

-- ---- the least ranks

-- a LAN's first copy lost no more than a packet loses on any path that gets there
abbrev pub HaveLeastRanks : Net → ℕ → Flight → Type 0
HaveLeastRanks n t f = (l : ℕ) (c : Copy) (hs : List Hop) → first_copy_on f.carried l ≡ Some c →
    IsPath n n.source hs l → PassesHops t hs → t ≤ c.ttl + length hs

-- the only copy of a LAN in a clean flight stays its first copy
first_copy_on-after_growth : (f g : Flight) (n : Net) (b : Copy) (l : ℕ) → IsClean f → StepGrows n f g →
    In b f.carried → b.lan ≡ l → first_copy_on g.carried l ≡ Some b
first_copy_on-after_growth f g n b l clean grows b_in lan =
    let found : first_copy_on f.carried l ≡ Some b = subst (λ x. first_copy_on f.carried x ≡ Some b) lan
    (first_copy_on-of_member b f.carried clean.once b_in) in
    elim grows [
      | inl s ↦ subst (λ cs. first_copy_on cs l ≡ Some b) (sym s.2.1)
          (first_copy_on-append f.carried s.2.0 l b found)
      | inr e ↦ subst (λ cs. first_copy_on cs l ≡ Some b) (sym e) found
    ]

-- a step keeps this
have_least_ranks-step : (n : Net) (t : ℕ) (f : Flight) → RunInvariant n t [] f → HasTtlLevelAfterStep n f →
    HaveLeastRanks n t (step n 0 f)
have_least_ranks-step n t f inv level l c hs on path p = elim (carried_or_coming-path n t f hs l inv path p) [
  | inl b ↦ (let stays = first_copy_on-after_growth f (step n 0 f) n b.0 l inv.clean
      (grows-step n 0 f inv.heard).0 b.1 b.2 in
      let same = copy_equal-from_some (first_copy_on (step n 0 f).carried l) b.0 c stays on in
      subst (λ (x : Copy). t ≤ x.ttl + length hs) same b.3)
  | inr w ↦ (let lt = w.2 in
      let high = level.2 w.0 w.1 in
      let behind = level.1.behind c (in-first_copy_on (step n 0 f).carried l c on) in
      omega (arith, lt, high, behind))
]

-- what a travel keeps that handles the first waiting copy each time
abbrev FifoInvariant : Net → ℕ → List ℕ → Flight → Type 0
FifoInvariant n t numbers f = (numbers ≡ []) × ((s : ℕ) × HasTtlLevel s f) × HaveLeastRanks n t f

-- each step keeps it
fifo_invariant-step : (n : Net) (t : ℕ) → IsKeptByStep n t false (FifoInvariant n t)
fifo_invariant-step n t numbers f i e lt inv p =
    let first : i ≡ 0 = e ∙ ap (λ xs. choice (length f.waiting) xs false) p.0 in
    let level = ttl_level-step n f p.1.0 p.1.1 in
    let after : FifoInvariant n t [] (step n 0 f) =
    (refl, (level.0, level.1), have_least_ranks-step n t f inv level) in
    subst (λ xs. FifoInvariant n t xs (step n i f)) (ap numbers_left (sym p.0))
    (subst (λ k. FifoInvariant n t [] (step n k f)) (sym first) after)

-- it holds at the start
fifo_invariant-start : (n : Net) (t : ℕ) → FifoInvariant n t [] (start n t)
fifo_invariant-start n t = (
  refl,
  (t, ttl_level-start n t),
  λ l c hs on path p. elim (in-first_copy_on (start n t).carried l c on) [
    | inl q ↦ (let same = ap (λ (x : Copy). x.ttl) q in omega (arith, same))
    | inr z ↦ absurd z
  ],
)

-- so a LAN's first copy lost no more than on any other path
pub first_copy-has_least_rank : (n : Net) (count t : ℕ) (is : List ℕ) (x : Finding) (l : ℕ) (c : Copy)
    (hs : List Hop) → IsNet n → IsTravel n count [] false is (start n t) x →
    first_copy_on (run n (handles is) (start n t)).carried l ≡ Some c → IsPath n n.source hs l →
    PassesHops t hs → t ≤ c.ttl + length hs
first_copy-has_least_rank n count t is x l c hs net travel on path p =
    (kept_by_travel n count t [] false is x (FifoInvariant n t) net (fifo_invariant-step n t)
    (fifo_invariant-start n t)
    travel).1.2 l c hs on path p
