-- Why the sender of a second copy can be spared.
use Rattle.std.proofs.Common.{◌≡◌, ◌≢◌, ℕ, ◌-◌, ◌≤◌, inl, inr, Bool, true, false, cond}
use Rattle.std.proofs.Common.{not, ◌==◌, nat_lt, List, [], ◌∷◌, ◌++◌, map, filter, length}
use Rattle.std.proofs.Common.{slice_get, Option, Some, None, refl, ap, sym, ◌∙◌, subst, arith}
use Rattle.std.proofs.Common.{eqb-true}
use Rattle.std.specs.Prelude.{⊤}
use Rattle.std.proofs.lemmas.Bool.{not_from_false, false_from_ne_true}
use Rattle.mc_theory.specs.Lists.{In, Distinct}
use Rattle.mc_theory.specs.Nets.{Net, IsNet, Row, Interface}
use Rattle.mc_theory.specs.Nets.Row.{Exact, Open, NoRow}
use Rattle.mc_theory.specs.Flights.{Copy, Waiting, Flight, is_sender, leave, send, sends}
use Rattle.mc_theory.specs.Flights.{handle_by_row, handle, without_waiting, source_copy, start, run}
use Rattle.mc_theory.specs.Certificates.{lans}
use Rattle.mc_theory.specs.Findings.{Finding, first_copy_on, IsTravel, handles}
use Rattle.mc_theory.specs.FindingMeaning.{IsFirstDouble}
use Rattle.mc_theory.specs.Paths.{Hop, IsHop, IsPath, PassesHops, need}
use Rattle.mc_theory.specs.Paths.{CameByHops, row_without_vif, take_out, IsSpareInterface}
use Rattle.mc_theory.proofs.ListLemmas.{in-append_right, in-push_cases, in-map, in-map_cases}
use Rattle.mc_theory.proofs.ListLemmas.{in-filter, in-filter_cases, distinct-append, distinct_append-disjoint}
use Rattle.mc_theory.proofs.RunInvariant.{RunInvariant, interface_equal-from_parts, is_sender-true}
use Rattle.mc_theory.proofs.RunInvariant.{is_sender-from_equal, map-append'}
use Rattle.mc_theory.proofs.StepInvariant.{sending_invariant-start}
use Rattle.mc_theory.proofs.CertificateOfRun.{first_copy_on-of_member}
use Rattle.mc_theory.proofs.WalkBack.{in-first_copy_on, first_copy_on-append}
use Rattle.mc_theory.proofs.Paths.{need_at_most-from_passes, passes_hops-from_need, need-at_least_one}
use Rattle.mc_theory.proofs.CameByHops.{StartsWithSourceCopy, starts_with_source_copy-run}
use Rattle.mc_theory.proofs.CameByHops.{copy_equal-from_some, lan_equal-from_some}
use Rattle.mc_theory.proofs.CameByHops.{lan-first_copy_on, in-first_double}
use Rattle.mc_theory.proofs.CameByHops.{is_rooted-from_travel, came_by_hops, is_path-from_travel}
use Rattle.mc_theory.proofs.LeastRanks.{IsKeptByStep, kept_by_travel, first_copy-has_least_rank}

-- ---- no interface sent two of a travel's copies

abbrev pub senders : List Copy → List (Option Interface)
senders cs = map (λ c. c.sender) cs

abbrev vifs : List (ℕ × ℕ) → List ℕ
vifs ps = map (λ p. p.0) ps

-- no interface sent two copies, and none of these pairs of router r has sent one
record HasNotSentByPairs (r : ℕ) (ps : List (ℕ × ℕ)) (f : Flight) : Type 0 where
  once : Distinct (senders f.carried)
  apart : Distinct (vifs ps)
  fresh : (c : Copy) (v : ℕ) → In c f.carried → c.sender ≡ Some (r, v) → In v (vifs ps) → ⊥

not_sent_by_pairs-rest : (r : ℕ) (p : ℕ × ℕ) (ps : List (ℕ × ℕ)) (f : Flight) →
    HasNotSentByPairs r (p ∷ ps) f →
    HasNotSentByPairs r ps f
not_sent_by_pairs-rest r p ps f s = record {
  once = s.once;
  apart = s.apart.1;
  fresh = λ c v h e k. s.fresh c v h e (inr k);
}

not_sent_by_pairs-leave : (n : Net) (r t : ℕ) (p : ℕ × ℕ) (ps : List (ℕ × ℕ)) (o : Option ℕ) (f : Flight) →
    HasNotSentByPairs r (p ∷ ps) f → HasNotSentByPairs r ps (leave n t (r, p.0) o f)
not_sent_by_pairs-leave n r t p ps None f s = record {
  once = s.once;
  apart = s.apart.1;
  fresh = λ c v h e k. s.fresh c v h e (inr k);
}
not_sent_by_pairs-leave n r t p ps (Some l) f s =
    let c : Copy = record { lan = l; ttl = t; sender = Some (r, p.0) } in
    record {
      once = subst Distinct (sym (map-append' (λ (c : Copy). c.sender) f.carried (c ∷ [])))
          (distinct-append (senders f.carried) (c.sender ∷ []) s.once ((λ h. h), tt)
          (λ x h k. elim k [
            | inl e ↦ (let d = in-map_cases (λ (c : Copy). c.sender) x f.carried h in
                s.fresh d.0 p.0 d.1 (d.2 ∙ sym e) (inl refl))
            | inr z ↦ z
          ]));
      apart = s.apart.1;
      fresh = λ d v h e k. elim (in-push_cases d f.carried c h) [
        | inl z ↦ s.fresh d v z e (inr k)
        | inr q ↦ (let both : ◌≡◌ {A = Option Interface} (Some (r, p.0)) (Some (r, v)) =
            ap (λ (x : Copy). x.sender) q ∙ e in
            let place : ◌≡◌ {A = Interface} (r, p.0) (r, v) = cc in
            s.apart.0 (subst (λ x. In x (vifs ps)) (sym (ap (λ (x : Interface). x.1) place)) k))
      ];
    }

not_sent_by_pairs-cond : (n : Net) (r t : ℕ) (p : ℕ × ℕ) (ps : List (ℕ × ℕ)) (o : Option ℕ) (test : Bool)
    (f : Flight) → HasNotSentByPairs r (p ∷ ps) f →
    HasNotSentByPairs r ps (cond test (leave n t (r, p.0) o f) f)
not_sent_by_pairs-cond n r t p ps o true f s = not_sent_by_pairs-leave n r t p ps o f s
not_sent_by_pairs-cond n r t p ps o false f s = not_sent_by_pairs-rest r p ps f s

distinct_senders-sends : (n : Net) (r t : ℕ) (ps : List (ℕ × ℕ)) (f : Flight) → HasNotSentByPairs r ps f →
    Distinct (senders (sends n r t ps f).carried)
distinct_senders-sends n r t [] f s = s.once
distinct_senders-sends n r t (p ∷ ps) f s = distinct_senders-sends n r t ps (send n r t p f)
    (not_sent_by_pairs-cond n r (t - 1) p ps (n.placed r p.0) (nat_lt p.1 t) f s)

distinct_senders-exact_row : (n : Net) (t : ℕ) (f : Flight) (i : ℕ) (w : Waiting) (incoming : ℕ)
    (all : List (ℕ × ℕ)) (test : Bool) → (incoming == w.vif) ≡ test → IsNet n → RunInvariant n t [] f →
    slice_get f.waiting i ≡ Some w → n.row w.router ≡ Exact incoming all →
    Distinct (senders f.carried) → Distinct (senders
    (cond test (sends n w.router w.ttl all (without_waiting i f)) (without_waiting i f)).carried)
distinct_senders-exact_row n t f i w incoming all true q net v e row once =
    let m = (sending_invariant-start n t [] f i w all net v e (row ∙ ap (λ (x : ℕ). Exact x all)
    (eqb-true incoming w.vif q))).1 in
    distinct_senders-sends n w.router w.ttl all (without_waiting i f)
    (record { once = once; apart = m.vifs; fresh = m.fresh })
distinct_senders-exact_row n t f i w incoming all false q net v e row once = once

distinct_senders-row : (n : Net) (t : ℕ) (f : Flight) (i : ℕ) (w : Waiting) (row : Row) →
    n.row w.router ≡ row → IsNet n → RunInvariant n t [] f → slice_get f.waiting i ≡ Some w →
    Distinct (senders f.carried) → Distinct (senders (handle_by_row n w row (without_waiting i f)).carried)
distinct_senders-row n t f i w (Exact incoming all) q net v e once =
    distinct_senders-exact_row n t f i w incoming all
    (incoming == w.vif) refl net v e q once
distinct_senders-row n t f i w Open q net v e once = once
distinct_senders-row n t f i w NoRow q net v e once = once

distinct_senders-handle : (n : Net) (t : ℕ) (f : Flight) (i : ℕ) (o : Option Waiting) →
    slice_get f.waiting i ≡ o → IsNet n → RunInvariant n t [] f → Distinct (senders f.carried) →
    Distinct (senders (handle n o (without_waiting i f)).carried)
distinct_senders-handle n t f i None e net v once = once
distinct_senders-handle n t f i (Some w) e net v once =
    distinct_senders-row n t f i w (n.row w.router) refl net v e
    once

pub distinct_senders-travel : (n : Net) (count t : ℕ) (numbers : List ℕ) (last : Bool) (is : List ℕ)
    (x : Finding) → IsNet n → IsTravel n count numbers last is (start n t) x →
    Distinct (senders (run n (handles is) (start n t)).carried)
distinct_senders-travel n count t numbers last is x net travel =
    let keep : IsKeptByStep n t last (λ _ f. Distinct (senders f.carried)) = λ numbers f i e lt v once.
    distinct_senders-handle n t f i (slice_get f.waiting i) refl net v once in
    (kept_by_travel n count t numbers last is x (λ _ f. Distinct (senders f.carried)) net keep
    ((λ h. h), tt) travel).1

-- ---- the first double copy, and the first copy of its LAN

pub earlier_copy-of_first_double : (cs : List Copy) (c : Copy) → (d : IsFirstDouble cs c) →
    (a : Copy) × (first_copy_on cs c.lan ≡ Some a) × In a d.earlier
earlier_copy-of_first_double cs c d =
    let a = in-map_cases (λ (c : Copy). c.lan) c.lan d.earlier d.again in
    let found = first_copy_on-of_member a.0 d.earlier d.once a.1 in
    let stays = first_copy_on-append d.earlier (c ∷ d.later) a.0.lan a.0 found in
    let here = subst (λ xs. first_copy_on xs a.0.lan ≡ Some a.0) (sym d.split) stays in
    (a.0, subst (λ l. first_copy_on cs l ≡ Some a.0) a.2 here, a.1)

-- their senders differ
pub first_and_double-other_senders : (cs : List Copy) (c a : Copy) → Distinct (senders cs) →
    IsFirstDouble cs c →
    first_copy_on cs c.lan ≡ Some a → a.sender ≢ c.sender
first_and_double-other_senders cs c a once d on e =
    let b = earlier_copy-of_first_double cs c d in
    let same : b.0 ≡ a = copy_equal-from_some (first_copy_on cs c.lan) b.0 a b.1 on in
    let a_in = subst (λ x. In x d.earlier) same b.2 in
    let early = in-map (λ (c : Copy). c.sender) a d.earlier a_in in
    let split = ap senders d.split ∙ map-append' (λ (c : Copy). c.sender) d.earlier (c ∷ d.later) in
    distinct_append-disjoint (senders d.earlier) (c.sender ∷ senders d.later) (subst Distinct split once)
    a.sender early (inl (sym e))

first_double-not_at_head : (earlier later others : List Copy) (c e : Copy) → In c.lan (lans earlier) →
    earlier ++ c ∷ later ≡ e ∷ others → In c others
first_double-not_at_head [] later others c e again split = absurd again
first_double-not_at_head (d ∷ ds) later others c e again split =
    let same : ds ++ c ∷ later ≡ others = cc in
    subst (λ xs. In c xs) same (in-append_right c ds (c ∷ later) (inl refl))

some-from_not_none : (o : Option Interface) → o ≢ None → (i : Interface) × (o ≡ Some i)
some-from_not_none None h = absurd (h refl)
some-from_not_none (Some i) h = (i, refl)

-- an interface sent the double copy
first_double-has_sender : (n : Net) (t : ℕ) (cs : List Copy) (c : Copy) → StartsWithSourceCopy n t cs →
    IsFirstDouble cs c → (i : Interface) × (c.sender ≡ Some i)
first_double-has_sender n t cs c h d =
    some-from_not_none c.sender (h.sent c (first_double-not_at_head d.earlier d.later h.others
    c (source_copy n t) d.again (sym d.split ∙ h.head)))

pub is_spare_interface-exists : (n : Net) (count t : ℕ) (numbers : List ℕ) (last : Bool) (is : List ℕ)
    (x : Finding)
    (c : Copy) → IsTravel n count numbers last is (start n t) x →
    IsFirstDouble (run n (handles is) (start n t)).carried c
    → (i : Interface) × (hs : List Hop) × IsSpareInterface n (run n (handles is) (start n t)) c i hs
is_spare_interface-exists n count t numbers last is x c travel d =
    let cs = (run n (handles is) (start n t)).carried in
    let i = first_double-has_sender n t cs c (starts_with_source_copy-run n t (handles is)) d in
    let a = earlier_copy-of_first_double cs c d in
    let path = came_by_hops n count t numbers last is x a.0 travel (in-first_copy_on cs c.lan a.0 a.1) in (
      i.0,
      path.0,
      record {
        first_double = d;
        sender = i.1;
        first = a.0;
        first_on = a.1;
        came_by_hops = path.1;
      },
    )

-- ---- hops that are left without the interface

row_without_vif-keeps_pair : (i : Interface) (r v h incoming : ℕ) (pairs : List (ℕ × ℕ)) (row : Row)
    (test : Bool) →
    (r == i.0) ≡ test → ◌≢◌ {A = Interface} (r, v) i → row ≡ Exact incoming pairs →
    In (v, h) pairs
    → (left : List (ℕ × ℕ)) × (cond test (row_without_vif i.1 row) row ≡ Exact incoming left) ×
    In (v, h) left
row_without_vif-keeps_pair i r v h incoming pairs row true q other e pair =
    let stays : (v == i.1) ≡ true → ⊥ = λ z. other (interface_equal-from_parts (r, v) i
    (eqb-true r i.0 q) (eqb-true v i.1 z)) in (
      filter (λ p. not (p.0 == i.1)) pairs,
      ap (row_without_vif i.1) e,
      in-filter (λ (p : ℕ × ℕ). not (p.0 == i.1)) (v, h) pairs pair
          (not_from_false (v == i.1) (false_from_ne_true (v == i.1) stays)),
    )
row_without_vif-keeps_pair i r v h incoming pairs row false q other e pair = (pairs, e, pair)

is_hop-take_out : (n : Net) (i : Interface) (h : Hop) → ◌≢◌ {A = Interface} (h.router, h.vif) i →
    IsHop n h → IsHop (take_out i n) h
is_hop-take_out n i h other hop =
    let left = row_without_vif-keeps_pair i h.router h.vif h.threshold hop.incoming hop.pairs (n.row h.router)
    (h.router == i.0) refl other hop.row hop.pair in
    record {
      incoming = hop.incoming;
      pairs = left.0;
      row = left.1;
      takes = hop.takes;
      pair = left.2;
      sends = hop.sends;
    }

-- A first copy's path is left, where interface i is placed on LAN l, whose first copy a it didn't send.
is_path-take_out : (n : Net) (i : Interface) (l m : ℕ) (cs : List Copy) (a b : Copy) (hs : List Hop) →
    n.placed i.0 i.1 ≡ Some l → first_copy_on cs l ≡ Some a → a.sender ≢ Some i →
    first_copy_on cs b.lan ≡ Some b → CameByHops n cs b hs → IsPath n n.source hs m →
    IsPath (take_out i n) n.source hs m
is_path-take_out n i l m cs a b [] on first other b_on came_by_hops path = path
is_path-take_out n i l m cs a b (h ∷ hs) on first other b_on came_by_hops path =
    let d = came_by_hops.3 in
    let mine : ◌≢◌ {A = Interface} (h.router, h.vif) i = λ e. (
    let onto : n.placed i.0 i.1 ≡ Some h.onto = ap (λ (x : Interface). n.placed x.0 x.1) (sym e) ∙
    came_by_hops.2.sends in
    let lan : b.lan ≡ l = sym came_by_hops.1 ∙ lan_equal-from_some (n.placed i.0 i.1) h.onto l onto on in
    let same : b ≡ a = copy_equal-from_some (first_copy_on cs l) b a
    (subst (λ k. first_copy_on cs k ≡ Some b) lan b_on) first in
    other (ap (λ (x : Copy). x.sender) (sym same) ∙ (came_by_hops.0 ∙ ap Some e))) in
    let d_on = subst (λ k. first_copy_on cs k ≡ Some d.0) (sym (lan-first_copy_on cs h.from d.0 d.1)) d.1 in (
      path.0,
      is_hop-take_out n i h mine path.1,
      is_path-take_out n i l h.from cs a d.0 hs on first other d_on d.2
          path.2,
    )

-- ---- another path

-- js can replace ks, at whose front a hop can be added
abbrev IsClosedUnderHops : (List Hop → List Hop → Type 0) → Type 0
IsClosedUnderHops R = R [] [] × ((k : Hop) (ks js : List Hop) → R ks js → R (k ∷ ks) (k ∷ js))

-- a path without i to LAN m that can replace this one
abbrev pub HasPathWithout : Net → Interface → (List Hop → List Hop → Type 0) → List Hop → ℕ → Type 0
HasPathWithout n i R ks m = (js : List Hop) × IsPath (take_out i n) n.source js m × R ks js

-- a path to LAN l that can replace each other one
abbrev HasBestPathWithout : Net → Interface → (List Hop → List Hop → Type 0) → ℕ → Type 0
HasBestPathWithout n i R l = (n.placed i.0 i.1 ≡ Some l) × ((hs : List Hop) ×
    IsPath (take_out i n) n.source hs l ×
    ((ks : List Hop) → IsPath n n.source ks l → R ks hs))

path_without-hop : (n : Net) (i : Interface) (R : List Hop → List Hop → Type 0) (l : ℕ) (k : Hop)
    (ks : List Hop) (m : ℕ) (test : Bool) → is_sender (Some (k.router, k.vif)) i ≡ test →
    IsClosedUnderHops R → HasBestPathWithout n i R l → IsPath n n.source (k ∷ ks) m →
    HasPathWithout n i R ks k.from →
    HasPathWithout n i R (k ∷ ks) m
path_without-hop n i R l k ks m true q serves best path up =
    let both = is_sender-true (Some (k.router, k.vif)) i q in
    let same : ◌≡◌ {A = Interface} (k.router, k.vif) i = cc in
    let onto : n.placed i.0 i.1 ≡ Some k.onto = ap (λ (x : Interface). n.placed x.0 x.1)
    (sym same) ∙ path.1.sends in
    let lan : l ≡ m = lan_equal-from_some (n.placed i.0 i.1) l k.onto best.0 onto ∙ path.0 in (
      best.1.0,
      subst (IsPath (take_out i n) n.source best.1.0) lan best.1.1,
      best.1.2 (k ∷ ks) (subst (IsPath n n.source (k ∷ ks)) (sym lan) path),
    )
path_without-hop n i R l k ks m false q serves best path up =
    let mine : ◌≢◌ {A = Interface} (k.router, k.vif) i = λ e.
    (let y = is_sender-from_equal (Some (k.router, k.vif)) i (ap Some e) in absurd cc) in
    (k ∷ up.0, (path.0, is_hop-take_out n i k mine path.1, up.1), serves.1 k ks up.0 up.2)

path_without-any : (n : Net) (i : Interface) (R : List Hop → List Hop → Type 0) (l : ℕ) →
    IsClosedUnderHops R →
    HasBestPathWithout n i R l → (ks : List Hop) (m : ℕ) → IsPath n n.source ks m → HasPathWithout n i R ks m
path_without-any n i R l serves best [] m path = ([], path, serves.0)
path_without-any n i R l serves best (k ∷ ks) m path = path_without-hop n i R l k ks m
    (is_sender (Some (k.router, k.vif)) i) refl serves best path
    (path_without-any n i R l serves best ks k.from path.2)

-- ---- the remedy

-- the path of the first copy is left without the double copy's sender
pub is_path-without_spare : (n : Net) (count t : ℕ) (numbers : List ℕ) (last : Bool) (is : List ℕ)
    (x : Finding)
    (c : Copy) (i : Interface) (hs : List Hop) → IsNet n →
    IsTravel n count numbers last is (start n t) x →
    IsSpareInterface n (run n (handles is) (start n t)) c i hs →
    (n.placed i.0 i.1 ≡ Some c.lan) × IsPath (take_out i n) n.source hs c.lan
is_path-without_spare n count t numbers last is x c i hs net travel s =
    let cs = (run n (handles is) (start n t)).carried in
    let r = is_rooted-from_travel n count t numbers last is x travel in
    let on = (r.base c (in-first_double cs c s.first_double) i s.sender).2.onto in
    let lan = lan-first_copy_on cs c.lan s.first s.first_on in
    let first_in = in-first_copy_on cs c.lan s.first s.first_on in
    let path = is_path-from_travel n count t numbers last is x s.first hs net travel first_in
    s.came_by_hops in
    let once = distinct_senders-travel n count t numbers last is x net travel in
    let other : s.first.sender ≢ Some i =
    λ e. first_and_double-other_senders cs c s.first once s.first_double s.first_on
    (e ∙ sym s.sender) in (
      on,
      is_path-take_out n i c.lan c.lan cs s.first s.first hs on s.first_on other
          (subst (λ k. first_copy_on cs k ≡ Some s.first) (sym lan) s.first_on) s.came_by_hops
          (subst (IsPath n n.source hs) lan path.0),
    )

-- instead of each path there is one without the interface
pub path_without-spare : (n : Net) (count t : ℕ) (numbers : List ℕ) (last : Bool) (is : List ℕ)
    (x : Finding) (c : Copy) (i : Interface) (hs : List Hop) → IsNet n →
    IsTravel n count numbers last is (start n t) x →
    IsSpareInterface n (run n (handles is) (start n t)) c i hs → (ks : List Hop) (m : ℕ) →
    IsPath n n.source ks m → HasPathWithout n i (λ _ _. ⊤) ks m
path_without-spare n count t numbers last is x c i hs net travel s =
    let on = is_path-without_spare n count t numbers last is x c i hs net travel s in
    path_without-any n i (λ _ _. ⊤) c.lan (tt, λ k ks js r. tt) (on.0, (hs, on.1, λ ks path. tt))

-- packets sent with TTL t that get through by ks do so by js, which is no longer
abbrev pub IsAsGoodPath : ℕ → List Hop → List Hop → Type 0
IsAsGoodPath t ks js = PassesHops t ks → PassesHops t js × (length js ≤ length ks)

as_good_path-more : (t : ℕ) (k : Hop) (ks js : List Hop) → IsAsGoodPath t ks js →
    IsAsGoodPath t (k ∷ ks) (k ∷ js)
as_good_path-more t k ks js good p =
    let j = good p.1 in
    let le = j.1 in
    let lt = p.0 in
    ((omega (arith, le, lt), j.0), omega (arith, le))

-- the first copy's path is as good as any
as_good_path-of_first_copy : (n : Net) (count high : ℕ) (is : List ℕ) (x : Finding) (c : Copy) (i : Interface)
    (hs : List Hop) (t : ℕ) → IsNet n → IsTravel n count [] false is (start n high) x →
    IsSpareInterface n (run n (handles is) (start n high)) c i hs → need hs ≤ t → t ≤ high →
    (ks : List Hop) → IsPath n n.source ks c.lan → IsAsGoodPath t ks hs
as_good_path-of_first_copy n count high is x c i hs t net travel s least le ks path p =
    let cs = (run n (handles is) (start n high)).carried in
    let first_in = in-first_copy_on cs c.lan s.first s.first_on in
    let ttl = (is_path-from_travel n count high [] false is x s.first hs net travel first_in
    s.came_by_hops).2 in
    let low = need-at_least_one hs in
    let needed = need_at_most-from_passes t ks (omega (arith, low, least)) p in
    let rank = first_copy-has_least_rank n count high is x c.lan s.first ks net travel s.first_on path
    (passes_hops-from_need high ks (omega (arith, needed, le))) in
    (passes_hops-from_need t hs least, omega (arith, ttl, rank))

-- and one that is as good, if the first copy has the least rank, too
pub path_without-as_good : (n : Net) (count high : ℕ) (is : List ℕ) (x : Finding) (c : Copy)
    (i : Interface) (hs : List Hop) (t : ℕ) → IsNet n →
    IsTravel n count [] false is (start n high) x →
    IsSpareInterface n (run n (handles is) (start n high)) c i hs → need hs ≤ t → t ≤ high →
    (ks : List Hop) (m : ℕ) → IsPath n n.source ks m → HasPathWithout n i (IsAsGoodPath t) ks m
path_without-as_good n count high is x c i hs t net travel s least le =
    let on = is_path-without_spare n count high [] false is x c i hs net travel s in
    let good = as_good_path-of_first_copy n count high is x c i hs t net travel s least le in
    path_without-any n i (IsAsGoodPath t) c.lan ((λ p. (tt, omega arith)), as_good_path-more t)
    (on.0, (hs, on.1, good))

-- ---- the domain without it

distinct_vifs-filter_step : (p : ℕ × ℕ → Bool) (q : ℕ × ℕ) (ps : List (ℕ × ℕ)) (test : Bool) →
    (In q.0 (vifs ps) → ⊥) → Distinct (vifs (filter p ps)) →
    Distinct (vifs (cond test (q ∷ filter p ps) (filter p ps)))
distinct_vifs-filter_step p q ps true new d = (
  (λ h. (let x = in-map_cases (λ (p : ℕ × ℕ). p.0) q.0 (filter p ps) h in
      new (subst (λ v. In v (vifs ps)) x.2 (in-map (λ (p : ℕ × ℕ). p.0) x.0 ps
      (in-filter_cases p x.0 ps x.1).0)))),
  d,
)
distinct_vifs-filter_step p q ps false new d = d

distinct_vifs-filter : (p : ℕ × ℕ → Bool) (ps : List (ℕ × ℕ)) → Distinct (vifs ps) →
    Distinct (vifs (filter p ps))
distinct_vifs-filter p [] d = tt
distinct_vifs-filter p (q ∷ ps) d = distinct_vifs-filter_step p q ps (p q) d.0 (distinct_vifs-filter p ps d.1)

distinct_vifs-row_without_vif : (w v : ℕ) (row : Row) (pairs : List (ℕ × ℕ)) (test : Bool) →
    ((ps : List (ℕ × ℕ)) → row ≡ Exact v ps → Distinct (vifs ps)) →
    cond test (row_without_vif w row) row ≡ Exact v pairs → Distinct (vifs pairs)
distinct_vifs-row_without_vif w v row pairs false d e = d pairs e
distinct_vifs-row_without_vif w v (Exact incoming ps) pairs true d e =
    let vif : incoming ≡ v = cc in
    let same : filter (λ p. not (p.0 == w)) ps ≡ pairs = cc in
    subst (λ qs. Distinct (vifs qs)) same (distinct_vifs-filter (λ p. not (p.0 == w)) ps
    (d ps (ap (λ (x : ℕ). Exact x ps) vif)))
distinct_vifs-row_without_vif w v Open pairs true d e = absurd cc
distinct_vifs-row_without_vif w v NoRow pairs true d e = absurd cc

pub is_net-take_out : (n : Net) (i : Interface) → IsNet n → IsNet (take_out i n)
is_net-take_out n i net = record {
  router = net.router;
  vif = net.vif;
  vifs = λ r v pairs e. distinct_vifs-row_without_vif i.1 v (n.row r) pairs (r == i.0) (net.vifs r v) e;
}
