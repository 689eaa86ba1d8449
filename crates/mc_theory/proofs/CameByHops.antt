-- In a travel's last flight each copy came by a path.
use Rattle.std.proofs.Common.{◌≡◌, ◌≢◌, ℕ, ◌+◌, inl, inr, Bool, true, false, List, [], ◌∷◌, ◌++◌}
use Rattle.std.proofs.Common.{map, cond, ◌==◌, length, Option, Some, None, refl, ap, sym, ◌∙◌, ap₂}
use Rattle.std.proofs.Common.{subst, arith, eqb-true}
use Rattle.mc_theory.specs.Lists.{In, Distinct}
use Rattle.mc_theory.specs.Nets.{Net, IsNet, Row, Interface}
use Rattle.mc_theory.specs.Nets.Row.{Exact}
use Rattle.mc_theory.specs.Flights.{Copy, Flight, Pick, start, run, source_copy}
use Rattle.mc_theory.specs.Certificates.{lans}
use Rattle.mc_theory.specs.Findings.{Finding, first_copy_on, from_lan, taken_from, IsWalkBack, IsTravel}
use Rattle.mc_theory.specs.Findings.{handles}
use Rattle.mc_theory.specs.CopyOrigins.{IsSentOn}
use Rattle.mc_theory.specs.FindingMeaning.{IsFirstDouble}
use Rattle.mc_theory.specs.Paths.{Hop, IsHop, IsPath, PassesHops, CameByHops}
use Rattle.mc_theory.proofs.ListLemmas.{in-append_cases, in-append_right, equal-from_same_image}
use Rattle.mc_theory.proofs.ListLemmas.{distinct_append-disjoint}
use Rattle.mc_theory.proofs.AppendSplits.{append_split-cases}
use Rattle.mc_theory.proofs.RunInvariant.{map-append'}
use Rattle.mc_theory.proofs.CopyOrigins.{StepGrows, all_heard-start}
use Rattle.mc_theory.proofs.WalkBack.{IsRooted, is_rooted-run_of_travel, is_rooted-start}
use Rattle.mc_theory.proofs.WalkBack.{in-first_copy_on, walk_ends-travel}
use Rattle.mc_theory.proofs.Paths.{hop_of_sent_on, is_hop-of_sent_on, run-preserves}

-- ---- the source's copy is the first, and each other one was sent on

pub record StartsWithSourceCopy (n : Net) (t : ℕ) (cs : List Copy) : Type 0 where
  pub others : List Copy
  pub head : cs ≡ source_copy n t ∷ others
  pub sent : (c : Copy) → In c others → c.sender ≢ None

starts_with_source_copy-grows : (n : Net) (t : ℕ) (f g : Flight) → StepGrows n f g →
    StartsWithSourceCopy n t f.carried →
    StartsWithSourceCopy n t g.carried
starts_with_source_copy-grows n t f g (inr e) h = subst (StartsWithSourceCopy n t) (sym e) h
starts_with_source_copy-grows n t f g (inl s) h = record {
  others = h.others ++ s.2.0;
  head = s.2.1 ∙ ap (λ cs. cs ++ s.2.0) h.head;
  sent = λ c k e. elim (in-append_cases c h.others s.2.0 k) [
    | inl z ↦ h.sent c z e
    | inr z ↦ (let i = s.2.2 c z in
        let both : ◌≡◌ {A = Option Interface} (Some i.0) None = sym i.1 ∙ e in
        absurd cc)
  ];
}

pub starts_with_source_copy-run : (n : Net) (t : ℕ) (ps : List Pick) →
    StartsWithSourceCopy n t (run n ps (start n t)).carried
starts_with_source_copy-run n t ps = run-preserves n (StartsWithSourceCopy n t)
    (starts_with_source_copy-grows n t) ps (start n t) (all_heard-start n t)
    (record { others = []; head = refl; sent = λ c h e. absurd h })

-- a copy that nobody sent is the source's
source_copy-from_no_sender : (n : Net) (t : ℕ) (cs : List Copy) (c : Copy) →
    StartsWithSourceCopy n t cs → In c cs →
    c.sender ≡ None → source_copy n t ≡ c
source_copy-from_no_sender n t cs c h c_in e = elim (subst (λ xs. In c xs) h.head c_in) [
  | inl q ↦ q
  | inr k ↦ absurd (h.sent c k e)
]

-- ---- copies came by paths

pub copy_equal-from_some : (o : Option Copy) (b d : Copy) → o ≡ Some b → o ≡ Some d → b ≡ d
copy_equal-from_some o b d p q = let both : Some b ≡ Some d = sym p ∙ q in cc

pub lan_equal-from_some : (o : Option ℕ) (k l : ℕ) → o ≡ Some k → o ≡ Some l → k ≡ l
lan_equal-from_some o k l p q = let both : Some k ≡ Some l = sym p ∙ q in cc

-- a copy came by the hops of its walk back
abbrev pub CameByHopsOfWalk : Net → List Copy → Copy → List Copy → Type 0
CameByHopsOfWalk n cs c ds = (hs : List Hop) × CameByHops n cs c hs × (map (λ h. h.from) hs ≡ lans ds)

came_by_hops-walk_step : (n : Net) (t : ℕ) (cs : List Copy) (c d : Copy) (ds : List Copy)
    (o : Option Interface) → c.sender ≡ o → IsRooted n t cs → In c cs →
    from_lan n o ≡ Some d.lan → first_copy_on cs d.lan ≡ Some d → CameByHopsOfWalk n cs d ds →
    CameByHopsOfWalk n cs c (d ∷ ds)
came_by_hops-walk_step n t cs c d ds None q r c_in from on up = absurd cc
came_by_hops-walk_step n t cs c d ds (Some i) q r c_in from on up =
    let b = r.base c c_in i q in
    let lan = lan_equal-from_some (from_lan n (Some i)) b.0.lan d.lan (ap (taken_from n i.0) b.2.row ∙
    b.2.from) from in
    let on' : first_copy_on cs b.0.lan ≡ Some d = ap (first_copy_on cs) lan ∙ on in (
      hop_of_sent_on b.0 c i b.2.threshold ∷ up.0,
      (q, refl, is_hop-of_sent_on n b.0 c i b.2, (d, on', up.1)),
      ap₂ (λ (l : ℕ) (ls : List ℕ). l ∷ ls) lan up.2,
    )

pub came_by_hops-from_walk : (n : Net) (t : ℕ) (cs : List Copy) (c : Copy) (ds : List Copy) →
    IsRooted n t cs →
    In c cs → IsWalkBack n cs c ds → CameByHopsOfWalk n cs c ds
came_by_hops-from_walk n t cs c [] r c_in back = ([], back, refl)
came_by_hops-from_walk n t cs c (d ∷ ds) r c_in back =
    came_by_hops-walk_step n t cs c d ds c.sender refl r c_in back.0
    back.1 (came_by_hops-from_walk n t cs d ds r (in-first_copy_on cs d.lan d back.1) back.2)

pub row_equal-from_exact : (row : Row) (v w : ℕ) (ps qs : List (ℕ × ℕ)) → row ≡ Exact v ps →
    row ≡ Exact w qs →
    (v ≡ w) × (ps ≡ qs)
row_equal-from_exact row v w ps qs p q = let both : Exact v ps ≡ Exact w qs = sym p ∙ q in (cc, cc)

-- the hop of a copy's sender has the LAN that the copy was sent on from, and a threshold that it passed
hop_fields-from_sent_on : (n : Net) (b c : Copy) (h : Hop) → IsNet n → IsHop n h →
    (s : IsSentOn n b c (h.router, h.vif)) → (h.from ≡ b.lan) × (h.threshold ≡ s.threshold)
hop_fields-from_sent_on n b c h net hop s =
    let same = row_equal-from_exact (n.row h.router) hop.incoming s.incoming hop.pairs s.pairs
    hop.row s.row in
    let takes = ap (n.placed h.router) (sym same.0) ∙ hop.takes in
    let pair = subst (λ ps. In (h.vif, h.threshold) ps) same.1 hop.pair in
    let one = equal-from_same_image (λ (p : ℕ × ℕ). p.0) (h.vif, h.threshold) (h.vif, s.threshold) s.pairs
    (net.vifs h.router s.incoming s.pairs s.row) pair s.pair refl in (
      lan_equal-from_some (n.placed h.router s.incoming) h.from b.lan takes s.from,
      ap (λ (p : ℕ × ℕ). p.1) one,
    )

-- the hops by which a copy came are a path, and it has the TTL that they leave
pub is_path-from_came_by_hops : (n : Net) (t : ℕ) (cs : List Copy) (hs : List Hop) (c : Copy) → IsNet n →
    IsRooted n t cs → StartsWithSourceCopy n t cs → In c cs → CameByHops n cs c hs
    → IsPath n n.source hs c.lan × PassesHops t hs × (c.ttl + length hs ≡ t)
is_path-from_came_by_hops n t cs [] c net r head c_in came_by_hops =
    let same = source_copy-from_no_sender n t cs c head c_in came_by_hops in
    (ap (λ (x : Copy). x.lan) same, tt, omega (arith, ap (λ (x : Copy). x.ttl) same))
is_path-from_came_by_hops n t cs (h ∷ hs) c net r head c_in came_by_hops =
    let b = came_by_hops.3 in
    let d = r.base c c_in (h.router, h.vif) came_by_hops.0 in
    let hop = hop_fields-from_sent_on n d.0 c h net came_by_hops.2 d.2 in
    let first = subst (λ l. first_copy_on cs l ≡ Some b.0) hop.0 b.1 in
    let same : b.0 ≡ d.0 = copy_equal-from_some (first_copy_on cs d.0.lan) b.0 d.0 first d.1 in
    let up = is_path-from_came_by_hops n t cs hs b.0 net r head (in-first_copy_on cs h.from b.0 b.1) b.2 in
    let from : b.0.lan ≡ h.from = ap (λ (x : Copy). x.lan) same ∙ sym hop.0 in
    let ttl = ap (λ (x : Copy). x.ttl) same in
    let sent = d.2.ttl in
    let passed = d.2.passed in (
      (came_by_hops.1, came_by_hops.2, subst (IsPath n n.source hs) from up.0),
      (omega (arith, ttl, passed, hop.1, up.2), up.1),
      omega (arith, ttl, sent, up.2),
    )

-- ---- the copies of a travel's flight

pub is_rooted-from_travel : (n : Net) (count t : ℕ) (numbers : List ℕ) (last : Bool) (is : List ℕ)
    (x : Finding) → IsTravel n count numbers last is (start n t) x →
    IsRooted n t (run n (handles is) (start n t)).carried
is_rooted-from_travel n count t numbers last is x travel =
    is_rooted-run_of_travel n count t numbers last is (start n t) x
    (all_heard-start n t) (is_rooted-start n t) travel

pub came_by_hops : (n : Net) (count t : ℕ) (numbers : List ℕ) (last : Bool) (is : List ℕ) (x : Finding)
    (c : Copy) → IsTravel n count numbers last is (start n t) x →
    In c (run n (handles is) (start n t)).carried
    → (hs : List Hop) × CameByHops n (run n (handles is) (start n t)).carried c hs
came_by_hops n count t numbers last is x c travel c_in =
    let w = walk_ends-travel n count t numbers last is x travel c c_in in
    let over = came_by_hops-from_walk n t (run n (handles is) (start n t)).carried c w.walk
    (is_rooted-from_travel n count t numbers last is x travel) c_in w.back in
    (over.0, over.1)

pub is_path-from_travel : (n : Net) (count t : ℕ) (numbers : List ℕ) (last : Bool) (is : List ℕ)
    (x : Finding) (c : Copy) (hs : List Hop) → IsNet n →
    IsTravel n count numbers last is (start n t) x →
    In c (run n (handles is) (start n t)).carried →
    CameByHops n (run n (handles is) (start n t)).carried c hs
    → IsPath n n.source hs c.lan × PassesHops t hs × (c.ttl + length hs ≡ t)
is_path-from_travel n count t numbers last is x c hs net travel c_in by =
    is_path-from_came_by_hops n t (run n (handles is) (start n t)).carried hs c net
    (is_rooted-from_travel n count t numbers last is x travel)
    (starts_with_source_copy-run n t (handles is)) c_in by

-- ---- first copies, and the first double one

lan-first_copy_on_step : (c : Copy) (cs : List Copy) (l : ℕ) (b : Copy) (test : Bool) →
    (c.lan == l) ≡ test → cond test (Some c) (first_copy_on cs l) ≡ Some b →
    (first_copy_on cs l ≡ Some b → b.lan ≡ l) → b.lan ≡ l
lan-first_copy_on_step c cs l b true q e ih =
    let same : c ≡ b = cc in sym (ap (λ (x : Copy). x.lan) same) ∙ eqb-true c.lan l q
lan-first_copy_on_step c cs l b false q e ih = ih e

pub lan-first_copy_on : (cs : List Copy) (l : ℕ) (b : Copy) → first_copy_on cs l ≡ Some b → b.lan ≡ l
lan-first_copy_on [] l b e = absurd cc
lan-first_copy_on (c ∷ cs) l b e =
    lan-first_copy_on_step c cs l b (c.lan == l) refl e (lan-first_copy_on cs l b)

pub in-first_double : (cs : List Copy) (c : Copy) → IsFirstDouble cs c → In c cs
in-first_double cs c d = subst (λ xs. In c xs) (sym d.split) (in-append_right c d.earlier
    (c ∷ d.later) (inl refl))

first_double-not_earlier : (cs ds : List Copy) (d : Copy) (zs : List Copy) → cs ≡ ds ++ d ∷ zs →
    Distinct (lans cs) → In d.lan (lans ds) → ⊥
first_double-not_earlier cs ds d zs e once again =
    let lan : Copy → ℕ = λ c. c.lan in
    let apart = subst Distinct (ap lans e ∙ map-append' lan ds (d ∷ zs)) once in
    distinct_append-disjoint (lans ds) (lans (d ∷ zs)) apart d.lan again (inl refl)

-- a LAN that carried a copy has a first one
pub first_double-unique : (cs : List Copy) (c d : Copy) → IsFirstDouble cs c → IsFirstDouble cs d → c ≡ d
first_double-unique cs c d p q = elim
    (append_split-cases p.earlier c p.later q.earlier d q.later (sym p.split ∙ q.split)) [
      | inl s ↦ s.1
      | inr (inl s) ↦ absurd (first_double-not_earlier p.earlier q.earlier d s.0 s.1 p.once q.again)
      | inr (inr s) ↦ absurd (first_double-not_earlier q.earlier p.earlier c s.0 s.1 q.once p.again)
    ]
