-- The hops by which copies came, one after the other: how they are found, and that they are the
-- only ones.
use Rattle.std.proofs.Common.{◌≡◌, ℕ, ◌+◌, ◌<◌, ◌≤◌, inl, inr, Bool, List, [], ◌∷◌, ◌++◌, map}
use Rattle.std.proofs.Common.{length, Option, Some, None, refl, ap, sym, ◌∙◌, ap₂, subst, arith}
use Rattle.std.proofs.Common.{zero, suc, true, false, cond, ◌==◌, eq-eqb}
use Rattle.std.proofs.lemmas.Bool.{cases_eq, ne_eqb}
use Rattle.mc_theory.specs.Lists.{In}
use Rattle.mc_theory.specs.Nets.{Net, IsNet, Row, Interface}
use Rattle.mc_theory.specs.Flights.{Copy, start, run}
use Rattle.mc_theory.specs.Findings.{Finding, first_copy_on, from_lan, taken_from, IsWalkBack, IsTravel}
use Rattle.mc_theory.specs.Findings.{handles, sender_on}
use Rattle.mc_theory.specs.Findings.Finding.{Loop}
use Rattle.mc_theory.specs.FindingMeaning.{IsFirstDouble, Shows}
use Rattle.mc_theory.specs.CertificateOfCopies.{threshold_of, row_pairs}
use Rattle.mc_theory.specs.Paths.{Hop, IsHop, IsPath, CameByHops, IsSentByHop, CameFromLan}
use Rattle.mc_theory.specs.Hops.{hop_from_lan, hop_by, hop_sent, hop_then, hops_back, hops_until}
use Rattle.mc_theory.specs.Hops.{IsPathPart}
use Rattle.mc_theory.proofs.CertificateOfRun.{threshold_of-of_member}
use Rattle.mc_theory.proofs.WalkBack.{in-first_copy_on, walk_ends-travel, first_sender_on}
use Rattle.mc_theory.proofs.Paths.{hop_of_sent_on, is_hop-of_sent_on}
use Rattle.mc_theory.proofs.CameByHops.{copy_equal-from_some, lan_equal-from_some}
use Rattle.mc_theory.proofs.CameByHops.{lan-first_copy_on, came_by_hops-from_walk}
use Rattle.mc_theory.proofs.CameByHops.{is_rooted-from_travel, came_by_hops}
use Rattle.mc_theory.proofs.CameByHops.{in-first_double, first_double-unique}

-- ---- the hop of a sender

-- the LAN that its router's row takes from
from_lan-is_hop : (n : Net) (h : Hop) → IsHop n h → from_lan n (Some (h.router, h.vif)) ≡ Some h.from
from_lan-is_hop n h hop = ap (taken_from n h.router) hop.row ∙ hop.takes

from_lan-sent_by_hop : (n : Net) (c : Copy) (h : Hop) → IsSentByHop n c h → from_lan n c.sender ≡ Some h.from
from_lan-sent_by_hop n c h sent = ap (from_lan n) sent.0 ∙ from_lan-is_hop n h sent.2

-- a hop is found by its interface, and by the LAN that this is placed on
pub hop_by-is_hop : (n : Net) (h : Hop) → IsNet n → IsHop n h →
    hop_by n (h.router, h.vif) h.onto ≡ Some h
hop_by-is_hop n h net hop =
    let vifs = net.vifs h.router hop.incoming hop.pairs hop.row in
    let threshold : threshold_of h.vif (row_pairs (n.row h.router)) ≡ h.threshold =
    ap (λ (x : Row). threshold_of h.vif (row_pairs x)) hop.row ∙
    threshold_of-of_member h.vif h.threshold hop.pairs vifs hop.pair in
    let above : ℕ → Hop = λ k. record {
      from = h.from;
      router = h.router;
      vif = h.vif;
      threshold = k;
      onto = h.onto;
    } in
    ap (hop_from_lan n (h.router, h.vif) h.onto) (from_lan-is_hop n h hop) ∙
    ap (λ k. Some (above k)) threshold

-- the hop that a copy was sent by is found by its sender, and by its LAN
pub hop_by-sent_by_hop : (n : Net) (c : Copy) (h : Hop) (i : Interface) → IsNet n → IsSentByHop n c h →
    c.sender ≡ Some i → hop_by n i c.lan ≡ Some h
hop_by-sent_by_hop n c h i net sent q =
    let both : ◌≡◌ {A = Option Interface} (Some (h.router, h.vif)) (Some i) = sym sent.0 ∙ q in
    let same : ◌≡◌ {A = Interface} (h.router, h.vif) i = cc in
    ap₂ (hop_by n) (sym same) (sym sent.1) ∙ hop_by-is_hop n h net sent.2

hop_equal-from_some : (o : Option Hop) (h g : Hop) → o ≡ Some h → o ≡ Some g → h ≡ g
hop_equal-from_some o h g p q = let both : Some h ≡ Some g = sym p ∙ q in cc

-- each copy that an interface sent has such a hop
pub sent_by_hop-unique : (n : Net) (c : Copy) (h g : Hop) → IsNet n → IsSentByHop n c h →
    IsSentByHop n c g → h ≡ g
sent_by_hop-unique n c h g net p q = hop_equal-from_some (hop_by n (h.router, h.vif) c.lan) h g
    (hop_by-sent_by_hop n c h (h.router, h.vif) net p p.0)
    (hop_by-sent_by_hop n c g (h.router, h.vif) net q p.0)

pub is_hop-unique : (n : Net) (h g : Hop) → IsNet n → IsHop n h → IsHop n g → h.router ≡ g.router →
    h.vif ≡ g.vif → h ≡ g
is_hop-unique n h g net p q router vif =
    let place : ◌≡◌ {A = Interface} (g.router, g.vif) (h.router, h.vif) =
    ap₂ (λ (r v : ℕ). (r, v)) (sym router) (sym vif) in
    let sends : n.placed h.router h.vif ≡ Some g.onto = ap₂ n.placed router vif ∙ q.sends in
    let onto = lan_equal-from_some (n.placed h.router h.vif) g.onto h.onto sends p.sends in
    hop_equal-from_some (hop_by n (h.router, h.vif) h.onto) h g (hop_by-is_hop n h net p)
    (ap₂ (hop_by n) (sym place) (sym onto) ∙ hop_by-is_hop n g net q)

-- ---- from a LAN on

-- a copy that came by hops from a LAN was sent by the first of them
pub sent_by_hop-from_came_from_lan : (n : Net) (cs : List Copy) (l : ℕ) (c : Copy) (h : Hop) (hs : List Hop) →
    CameFromLan n cs l c (h ∷ hs) → IsSentByHop n c h
sent_by_hop-from_came_from_lan n cs l c h [] x = x.0
sent_by_hop-from_came_from_lan n cs l c h (g ∷ hs) x = x.0

-- and the hops are a path
pub is_path-from_came_from_lan : (n : Net) (cs : List Copy) (l : ℕ) (c : Copy) (hs : List Hop) →
    CameFromLan n cs l c hs → IsPath n l hs c.lan
is_path-from_came_from_lan n cs l c [] x = absurd x
is_path-from_came_from_lan n cs l c (h ∷ []) x = (x.0.1, x.0.2, sym x.1)
is_path-from_came_from_lan n cs l c (h ∷ g ∷ hs) x =
    let b = x.2 in
    let up = is_path-from_came_from_lan n cs l b.0 (g ∷ hs) b.2 in
    (x.0.1, x.0.2, subst (IsPath n l (g ∷ hs)) (lan-first_copy_on cs h.from b.0 b.1) up)

-- A copy whose hops pass a LAN came from that LAN, by no more hops.
pub came_from_lan-from_came_by_hops : (n : Net) (cs : List Copy) (l : ℕ) (c : Copy) (hs : List Hop) →
    CameByHops n cs c hs →
    In l (map (λ (h : Hop). h.from) hs)
    → (h : Hop) × (ks : List Hop) × CameFromLan n cs l c (h ∷ ks) × (length (h ∷ ks) ≤ length hs)
came_from_lan-from_came_by_hops n cs l c [] by k = absurd k
came_from_lan-from_came_by_hops n cs l c (h ∷ hs) by k =
    let b = by.3 in
    let sent : IsSentByHop n c h = (by.0, by.1, by.2) in
    elim (cases_eq h.from l) [
      | inl e ↦ (h, [], (sent, e), omega arith)
      | inr z ↦ (let on = came_from_lan-from_came_by_hops n cs l b.0 hs b.2
          (elim k [ inl e ↦ absurd (z e) | inr j ↦ j ])
          in (h, on.0 ∷ on.1, (sent, z, (b.0, b.1, on.2)), omega (arith, on.3)))
    ]

-- what two hops that a copy was sent by have in common, of any domain: the LAN that they take from
from_lan-same_for_sent_by_hop : (n : Net) (c : Copy) (h g : Hop) → IsSentByHop n c h → IsSentByHop n c g →
    h.from ≡ g.from
from_lan-same_for_sent_by_hop n c h g p q =
    lan_equal-from_some (from_lan n c.sender) h.from g.from (from_lan-sent_by_hop n c h p)
    (from_lan-sent_by_hop n c g q)

-- so the first copy of that LAN is one
first_copy-same_for_sent_by_hop : (n : Net) (cs : List Copy) (c : Copy) (h g : Hop) (b d : Copy) →
    IsSentByHop n c h →
    IsSentByHop n c g → first_copy_on cs h.from ≡ Some b → first_copy_on cs g.from ≡ Some d → b ≡ d
first_copy-same_for_sent_by_hop n cs c h g b d p q on on' =
    copy_equal-from_some (first_copy_on cs h.from) b d on
    (ap (first_copy_on cs) (from_lan-same_for_sent_by_hop n c h g p q) ∙ on')

absurd-sent_without_sender : (n : Net) (c : Copy) (h : Hop) → IsSentByHop n c h → c.sender ≡ None → ⊥
absurd-sent_without_sender n c h sent e =
    let both : ◌≡◌ {A = Option Interface} (Some (h.router, h.vif)) None = sym sent.0 ∙ e in cc

-- The hops by which a copy came from a LAN are no more than all by which it came, and these pass the LAN.
pub hops_from_lan-within_all_hops : (n : Net) (cs : List Copy) (l : ℕ) (c : Copy) (hs ks : List Hop) →
    CameFromLan n cs l c hs → CameByHops n cs c ks
    → (length hs ≤ length ks) × In l (map (λ (h : Hop). h.from) ks)
hops_from_lan-within_all_hops n cs l c [] ks x by = absurd x
hops_from_lan-within_all_hops n cs l c (h ∷ []) [] x by = absurd (absurd-sent_without_sender n c h x.0 by)
hops_from_lan-within_all_hops n cs l c (h ∷ []) (g ∷ ks) x by =
    let sent : IsSentByHop n c g = (by.0, by.1, by.2) in
    (omega arith, inl (sym (from_lan-same_for_sent_by_hop n c h g x.0 sent) ∙ x.1))
hops_from_lan-within_all_hops n cs l c (h ∷ j ∷ hs) [] x by = absurd (absurd-sent_without_sender n c h x.0 by)
hops_from_lan-within_all_hops n cs l c (h ∷ j ∷ hs) (g ∷ ks) x by =
    let sent : IsSentByHop n c g = (by.0, by.1, by.2) in
    let b = x.2 in
    let d = by.3 in
    let same = first_copy-same_for_sent_by_hop n cs c h g b.0 d.0 x.0 sent b.1 d.1 in
    let up = hops_from_lan-within_all_hops n cs l d.0 (j ∷ hs) ks
    (subst (λ y. CameFromLan n cs l y (j ∷ hs)) same b.2) d.2 in
    (omega (arith, up.0), inr up.1)

-- ---- the hops by which a copy came, in all and from a LAN, are unique

pub came_by_hops-unique : (n : Net) (cs : List Copy) (c : Copy) (hs ks : List Hop) → IsNet n →
    CameByHops n cs c hs → CameByHops n cs c ks → hs ≡ ks
came_by_hops-unique n cs c [] [] net x y = refl
came_by_hops-unique n cs c [] (g ∷ ks) net x y = absurd (absurd-sent_without_sender n c g (y.0, y.1, y.2) x)
came_by_hops-unique n cs c (h ∷ hs) [] net x y = absurd (absurd-sent_without_sender n c h (x.0, x.1, x.2) y)
came_by_hops-unique n cs c (h ∷ hs) (g ∷ ks) net x y =
    let p : IsSentByHop n c h = (x.0, x.1, x.2) in
    let q : IsSentByHop n c g = (y.0, y.1, y.2) in
    let b = x.3 in
    let d = y.3 in
    let same = first_copy-same_for_sent_by_hop n cs c h g b.0 d.0 p q b.1 d.1 in
    ap₂ (λ (h : Hop) (hs : List Hop). h ∷ hs) (sent_by_hop-unique n c h g net p q)
    (came_by_hops-unique n cs d.0 hs ks net (subst (λ z. CameByHops n cs z hs) same b.2) d.2)

pub came_from_lan-unique : (n : Net) (cs : List Copy) (l : ℕ) (c : Copy) (hs ks : List Hop) → IsNet n →
    CameFromLan n cs l c hs → CameFromLan n cs l c ks → hs ≡ ks
came_from_lan-unique n cs l c [] ks net x y = absurd x
came_from_lan-unique n cs l c (h ∷ hs) [] net x y = absurd y
came_from_lan-unique n cs l c (h ∷ []) (g ∷ []) net x y = ap (λ (j : Hop). j ∷ [])
    (sent_by_hop-unique n c h g net x.0 y.0)
came_from_lan-unique n cs l c (h ∷ []) (g ∷ k ∷ ks) net x y = absurd
    (y.1 (sym (from_lan-same_for_sent_by_hop n c h g x.0 y.0) ∙ x.1))
came_from_lan-unique n cs l c (h ∷ j ∷ hs) (g ∷ []) net x y = absurd
    (x.1 (from_lan-same_for_sent_by_hop n c h g x.0 y.0 ∙ y.1))
came_from_lan-unique n cs l c (h ∷ j ∷ hs) (g ∷ k ∷ ks) net x y =
    let b = x.2 in
    let d = y.2 in
    let same = first_copy-same_for_sent_by_hop n cs c h g b.0 d.0 x.0 y.0 b.1 d.1 in
    ap₂ (λ (h : Hop) (hs : List Hop). h ∷ hs) (sent_by_hop-unique n c h g net x.0 y.0)
    (came_from_lan-unique n cs l d.0 (j ∷ hs) (k ∷ ks) net
    (subst (λ z. CameFromLan n cs l z (j ∷ hs)) same b.2) d.2)

-- ---- there are fewer hops than carried copies

is_walk_back-unique : (n : Net) (cs : List Copy) (c : Copy) (ds es : List Copy) → IsWalkBack n cs c ds →
    IsWalkBack n cs c es → ds ≡ es
is_walk_back-unique n cs c [] [] x y = refl
is_walk_back-unique n cs c [] (e ∷ es) x y = absurd
    (let both : None ≡ Some e.lan = sym (ap (from_lan n) x) ∙ y.0 in cc)
is_walk_back-unique n cs c (d ∷ ds) [] x y = absurd
    (let both : None ≡ Some d.lan = sym (ap (from_lan n) y) ∙ x.0 in cc)
is_walk_back-unique n cs c (d ∷ ds) (e ∷ es) x y =
    let lan = lan_equal-from_some (from_lan n c.sender) d.lan e.lan x.0 y.0 in
    let same = copy_equal-from_some (first_copy_on cs d.lan) d e x.1 (ap (first_copy_on cs) lan ∙ y.1) in
    ap₂ (λ (z : Copy) (zs : List Copy). z ∷ zs) same
    (is_walk_back-unique n cs e ds es (subst (λ z. IsWalkBack n cs z ds) same x.2) y.2)

is_walk_back-from_came_by_hops : (n : Net) (cs : List Copy) (c : Copy) (hs : List Hop) → CameByHops n cs c hs
    → (ds : List Copy) × IsWalkBack n cs c ds × (length ds ≡ length hs)
is_walk_back-from_came_by_hops n cs c [] by = ([], by, refl)
is_walk_back-from_came_by_hops n cs c (h ∷ hs) by =
    let b = by.3 in
    let lan = lan-first_copy_on cs h.from b.0 b.1 in
    let up = is_walk_back-from_came_by_hops n cs b.0 hs b.2 in (
      b.0 ∷ up.0,
      (
        from_lan-sent_by_hop n c h (by.0, by.1, by.2) ∙ ap Some (sym lan),
        ap (first_copy_on cs) lan ∙ b.1,
        up.1,
      ),
      omega (arith, up.2),
    )

-- In a travel's last flight the hops by which a copy came are fewer than the carried copies,
pub came_by_hops-fewer_than_copies : (n : Net) (count t : ℕ) (numbers : List ℕ) (last : Bool) (is : List ℕ)
    (x : Finding) (c : Copy) (hs : List Hop) → IsTravel n count numbers last is (start n t) x →
    In c (run n (handles is) (start n t)).carried →
    CameByHops n (run n (handles is) (start n t)).carried c hs →
    length hs < length (run n (handles is) (start n t)).carried
came_by_hops-fewer_than_copies n count t numbers last is x c hs travel c_in by =
    let cs = (run n (handles is) (start n t)).carried in
    let w = walk_ends-travel n count t numbers last is x travel c c_in in
    let own = is_walk_back-from_came_by_hops n cs c hs by in
    let same : length own.0 ≡ length w.walk = ap (λ (ds : List Copy). length ds)
    (is_walk_back-unique n cs c own.0 w.walk own.1 w.back) in
    let short = w.short in
    omega (arith, own.2, same, short)

-- and so are those from a LAN.
pub came_from_lan-fewer_than_copies : (n : Net) (count t : ℕ) (numbers : List ℕ) (last : Bool) (is : List ℕ)
    (x : Finding) (l : ℕ) (c : Copy) (hs : List Hop) →
    IsTravel n count numbers last is (start n t) x →
    In c (run n (handles is) (start n t)).carried →
    CameFromLan n (run n (handles is) (start n t)).carried l c hs →
    length hs < length (run n (handles is) (start n t)).carried
came_from_lan-fewer_than_copies n count t numbers last is x l c hs travel c_in from =
    let cs = (run n (handles is) (start n t)).carried in
    let by = came_by_hops n count t numbers last is x c travel c_in in
    let within = hops_from_lan-within_all_hops n cs l c hs by.0 from by.1 in
    let short = came_by_hops-fewer_than_copies n count t numbers last is x c by.0 travel c_in by.1 in
    omega (arith, within.0, short)

-- ---- the hops are found one after the other, from the last

hop_sent-sent_by_hop : (n : Net) (c : Copy) (h : Hop) → IsNet n → IsSentByHop n c h →
    hop_sent n c.sender c.lan ≡ Some h
hop_sent-sent_by_hop n c h net sent = ap (λ (x : Option Interface). hop_sent n x c.lan) sent.0 ∙
    hop_by-sent_by_hop n c h (h.router, h.vif) net sent sent.0

-- where the bound on their number is large enough
pub hops_back-came_by_hops : (n : Net) (cs : List Copy) (k : ℕ) (c : Copy) (hs : List Hop) → IsNet n →
    CameByHops n cs c hs → length hs ≤ k → hops_back n cs k c.lan c.sender ≡ hs
hops_back-came_by_hops n cs zero c [] net by few = refl
hops_back-came_by_hops n cs zero c (h ∷ hs) net by few = absurd (omega (arith, few))
hops_back-came_by_hops n cs (suc k) c [] net by few = ap (hops_back n cs (suc k) c.lan) by
hops_back-came_by_hops n cs (suc k) c (h ∷ hs) net by few =
    let b = by.3 in
    let hop = hop_sent-sent_by_hop n c h net (by.0, by.1, by.2) in
    let lan : h.from ≡ b.0.lan = sym (lan-first_copy_on cs h.from b.0 b.1) in
    let next : hops_back n cs k h.from (sender_on cs h.from) ≡ hops_back n cs k b.0.lan b.0.sender =
    ap₂ (hops_back n cs k) lan (first_sender_on cs h.from b.0 b.1) in
    ap (hop_then (λ h. hops_back n cs k h.from (sender_on cs h.from))) hop ∙
    ap (λ (ks : List Hop). h ∷ ks)
    (next ∙ hops_back-came_by_hops n cs k b.0 hs net b.2 (omega (arith, few)))

hops_until-more : (n : Net) (cs : List Copy) (l k : ℕ) (c : Copy) (h : Hop) (test : Bool) → IsNet n →
    IsSentByHop n c h → (h.from == l) ≡ test → hops_until n cs l (suc k) c.lan c.sender ≡
    h ∷ cond test [] (hops_until n cs l k h.from (sender_on cs h.from))
hops_until-more n cs l k c h test net sent q =
    ap (hop_then (λ h. cond (h.from == l) [] (hops_until n cs l k h.from (sender_on cs h.from))))
    (hop_sent-sent_by_hop n c h net sent) ∙
    ap (λ (b : Bool). h ∷ cond b [] (hops_until n cs l k h.from (sender_on cs h.from))) q

pub hops_until-came_from_lan : (n : Net) (cs : List Copy) (l k : ℕ) (c : Copy) (hs : List Hop) → IsNet n →
    CameFromLan n cs l c hs → length hs ≤ k → hops_until n cs l k c.lan c.sender ≡ hs
hops_until-came_from_lan n cs l k c [] net x few = absurd x
hops_until-came_from_lan n cs l zero c (h ∷ hs) net x few = absurd (omega (arith, few))
hops_until-came_from_lan n cs l (suc k) c (h ∷ []) net x few =
    hops_until-more n cs l k c h true net x.0 (eq-eqb h.from l x.1)
hops_until-came_from_lan n cs l (suc k) c (h ∷ g ∷ hs) net x few =
    let b = x.2 in
    let lan : h.from ≡ b.0.lan = sym (lan-first_copy_on cs h.from b.0 b.1) in
    let next : hops_until n cs l k h.from (sender_on cs h.from) ≡
    hops_until n cs l k b.0.lan b.0.sender =
    ap₂ (hops_until n cs l k) lan (first_sender_on cs h.from b.0 b.1) in
    hops_until-more n cs l k c h false net x.0 (ne_eqb h.from l x.1) ∙
    ap (λ (ks : List Hop). h ∷ ks)
    (next ∙ hops_until-came_from_lan n cs l k b.0 (g ∷ hs) net b.2 (omega (arith, few)))

-- ---- a loop

-- A loop's first double copy came from its own LAN.
pub came_from_lan-from_loop : (n : Net) (count t : ℕ) (numbers : List ℕ) (last : Bool) (is : List ℕ)
    (x : Finding)
    (l : ℕ) (c : Copy) → IsTravel n count numbers last is (start n t) x →
    Shows n (run n (handles is) (start n t)) (Loop l) →
    IsFirstDouble (run n (handles is) (start n t)).carried c →
    (c.lan ≡ l) × ((hs : List Hop) × CameFromLan n (run n (handles is) (start n t)).carried l c hs)
came_from_lan-from_loop n count t numbers last is x l c travel shows first_double =
    let cs = (run n (handles is) (start n t)).carried in
    let d = shows.0 in
    let same = first_double-unique cs d.copy c d.first first_double in
    let r = is_rooted-from_travel n count t numbers last is x travel in
    let over = came_by_hops-from_walk n t cs d.copy d.walk r (in-first_double cs d.copy d.first) d.back in
    let by = subst (λ ls. In l ls) (sym over.2) shows.1 in
    let on = came_from_lan-from_came_by_hops n cs l d.copy over.0 over.1 by in
    subst (λ (y : Copy). (y.lan ≡ l) × ((hs : List Hop) × CameFromLan n cs l y hs)) same
    (d.lan, (on.0 ∷ on.1, on.2))

-- ---- the walk back, hop by hop

-- the walk goes on by one more hop
pub is_path_part-push : (n : Net) (cs : List Copy) (c : Copy) (hs : List Hop) (b : Copy) (h : Hop)
    (d : Copy) → IsPathPart n cs c hs b → IsSentByHop n b h → first_copy_on cs h.from ≡ Some d →
    IsPathPart n cs c (hs ++ h ∷ []) d
is_path_part-push n cs c [] b h d e sent on = (subst (λ x. IsSentByHop n x h) (sym e) sent, (d, on, refl))
is_path_part-push n cs c (g ∷ hs) b h d part sent on =
    let up = part.1 in
    (part.0, (up.0, up.1, is_path_part-push n cs up.0 hs b h d up.2 sent on))

-- the walk has come to the source's copy
pub came_by_hops-from_whole_path_part : (n : Net) (cs : List Copy) (c : Copy) (hs : List Hop) (b : Copy) →
    IsPathPart n cs c hs b → b.sender ≡ None → CameByHops n cs c hs
came_by_hops-from_whole_path_part n cs c [] b e none = ap (λ (x : Copy). x.sender) e ∙ none
came_by_hops-from_whole_path_part n cs c (h ∷ hs) b part none =
    let up = part.1 in
    let sent = part.0 in
    (sent.0, sent.1, sent.2, (up.0, up.1, came_by_hops-from_whole_path_part n cs up.0 hs b up.2 none))

-- the hops that are left are the rest of all by which the copy came
pub came_by_hops-path_part_and_rest : (n : Net) (cs : List Copy) (c : Copy) (hs : List Hop) (b : Copy)
    (ks : List Hop) →
    IsPathPart n cs c hs b → CameByHops n cs b ks → CameByHops n cs c (hs ++ ks)
came_by_hops-path_part_and_rest n cs c [] b ks e by = subst (λ x. CameByHops n cs x ks) (sym e) by
came_by_hops-path_part_and_rest n cs c (h ∷ hs) b ks part by =
    let up = part.1 in
    let sent = part.0 in
    (sent.0, sent.1, sent.2, (up.0, up.1, came_by_hops-path_part_and_rest n cs up.0 hs b ks up.2 by))

-- and the rest of those from a LAN, if none of the hops so far takes from it
pub came_from_lan-path_part_and_rest : (n : Net) (cs : List Copy) (l : ℕ) (c : Copy)
    (hs : List Hop) (b : Copy)
    (k : Hop) (ks : List Hop) → IsPathPart n cs c hs b →
    (In l (map (λ (h : Hop). h.from) hs) → ⊥) → CameFromLan n cs l b (k ∷ ks) →
    CameFromLan n cs l c (hs ++ k ∷ ks)
came_from_lan-path_part_and_rest n cs l c [] b k ks e apart from =
    subst (λ x. CameFromLan n cs l x (k ∷ ks)) (sym e)
    from
came_from_lan-path_part_and_rest n cs l c (h ∷ []) b k ks part apart from =
    let up = part.1 in (
      part.0,
      (λ e. apart (inl e)),
      (up.0, up.1, subst (λ x. CameFromLan n cs l x (k ∷ ks)) (sym up.2) from),
    )
came_from_lan-path_part_and_rest n cs l c (h ∷ g ∷ hs) b k ks part apart from =
    let up = part.1 in (
      part.0,
      (λ e. apart (inl e)),
      (
        up.0,
        up.1,
        came_from_lan-path_part_and_rest n cs l up.0 (g ∷ hs) b k ks
            up.2 (λ j. apart (inr j)) from,
      ),
    )

-- the next hop takes from the LAN
pub came_from_lan-path_part_and_hop : (n : Net) (cs : List Copy) (l : ℕ) (c : Copy) (hs : List Hop)
    (b : Copy) (h : Hop)
    → IsPathPart n cs c hs b → (In l (map (λ (h : Hop). h.from) hs) → ⊥) → IsSentByHop n b h →
    h.from ≡ l → CameFromLan n cs l c (hs ++ h ∷ [])
came_from_lan-path_part_and_hop n cs l c hs b h part apart sent e =
    came_from_lan-path_part_and_rest n cs l c hs b h [] part apart (sent, e)

-- the walk has come to a carried copy
pub end_of_path_part-in_copies : (n : Net) (cs : List Copy) (c : Copy) (hs : List Hop) (b : Copy) → In c cs →
    IsPathPart n cs c hs b → In b cs
end_of_path_part-in_copies n cs c [] b c_in e = subst (λ x. In x cs) e c_in
end_of_path_part-in_copies n cs c (h ∷ hs) b c_in part =
    let up = part.1 in
    end_of_path_part-in_copies n cs up.0 hs b (in-first_copy_on cs h.from up.0 up.1) up.2

-- ---- the hops of a travel's copies

-- the hop that a copy was sent by, and the first copy of the LAN that it takes from
abbrev pub SentFromFirst : Net → List Copy → Copy → Interface → Type 0
SentFromFirst n cs c i = (h : Hop) × (first : Copy) × (hop_by n i c.lan ≡ Some h) × IsSentByHop n c h ×
    (first_copy_on cs h.from ≡ Some first)

pub sent_from_first-travel : (n : Net) (count t : ℕ) (numbers : List ℕ) (last : Bool) (is : List ℕ)
    (x : Finding) (c : Copy) (i : Interface) → IsNet n →
    IsTravel n count numbers last is (start n t) x →
    In c (run n (handles is) (start n t)).carried → c.sender ≡ Some i →
    SentFromFirst n (run n (handles is) (start n t)).carried c i
sent_from_first-travel n count t numbers last is x c i net travel c_in q =
    let r = is_rooted-from_travel n count t numbers last is x travel in
    let b = r.base c c_in i q in
    let h = hop_of_sent_on b.0 c i b.2.threshold in
    let sent : IsSentByHop n c h = (q, refl, is_hop-of_sent_on n b.0 c i b.2) in
    (h, b.0, hop_by-sent_by_hop n c h i net sent q, sent, b.1)

length-append : (hs ks : List Hop) → length (hs ++ ks) ≡ length hs + length ks
length-append [] ks = omega arith
length-append (h ∷ hs) ks = let rest = length-append hs ks in omega (arith, rest)

-- the walk has fewer hops than there are carried copies
pub is_path_part-fewer_than_copies : (n : Net) (count t : ℕ) (numbers : List ℕ) (last : Bool) (is : List ℕ)
    (x : Finding) (c : Copy) (hs : List Hop) (b : Copy) →
    IsTravel n count numbers last is (start n t) x →
    In c (run n (handles is) (start n t)).carried →
    IsPathPart n (run n (handles is) (start n t)).carried c hs b →
    length hs < length (run n (handles is) (start n t)).carried
is_path_part-fewer_than_copies n count t numbers last is x c hs b travel c_in part =
    let cs = (run n (handles is) (start n t)).carried in
    let by = came_by_hops n count t numbers last is x b travel
    (end_of_path_part-in_copies n cs c hs b c_in part) in
    let all = came_by_hops-path_part_and_rest n cs c hs b by.0 part by.1 in
    let short = came_by_hops-fewer_than_copies n count t numbers last is x c (hs ++ by.0) travel c_in all in
    let long = length-append hs by.0 in
    omega (arith, short, long)

-- the hops that are found from a copy
pub came_by_hops-hops_back : (n : Net) (count t : ℕ) (numbers : List ℕ) (last : Bool) (is : List ℕ)
    (x : Finding) (c : Copy) → IsNet n → IsTravel n count numbers last is (start n t) x →
    In c (run n (handles is) (start n t)).carried →
    CameByHops n (run n (handles is) (start n t)).carried c
    (hops_back n (run n (handles is) (start n t)).carried
    (length (run n (handles is) (start n t)).carried) c.lan c.sender)
came_by_hops-hops_back n count t numbers last is x c net travel c_in =
    let cs = (run n (handles is) (start n t)).carried in
    let by = came_by_hops n count t numbers last is x c travel c_in in
    let short = came_by_hops-fewer_than_copies n count t numbers last is x c by.0 travel c_in by.1 in
    let found = hops_back-came_by_hops n cs (length cs) c by.0 net by.1 (omega (arith, short)) in
    subst (CameByHops n cs c) (sym found) by.1

-- and back to LAN l
pub hops_until-travel : (n : Net) (count t : ℕ) (numbers : List ℕ) (last : Bool) (is : List ℕ)
    (x : Finding) (l : ℕ) (c : Copy) (hs : List Hop) → IsNet n →
    IsTravel n count numbers last is (start n t) x →
    In c (run n (handles is) (start n t)).carried →
    CameFromLan n (run n (handles is) (start n t)).carried l c hs →
    hops_until n (run n (handles is) (start n t)).carried l
    (length (run n (handles is) (start n t)).carried) c.lan c.sender ≡ hs
hops_until-travel n count t numbers last is x l c hs net travel c_in from =
    let cs = (run n (handles is) (start n t)).carried in
    let short = came_from_lan-fewer_than_copies n count t numbers last is x l c hs travel c_in from in
    hops_until-came_from_lan n cs l (length cs) c hs net from (omega (arith, short))

pub came_from_lan-hops_until : (n : Net) (count t : ℕ) (numbers : List ℕ) (last : Bool) (is : List ℕ)
    (x : Finding) (l : ℕ) (c : Copy) → IsNet n →
    IsTravel n count numbers last is (start n t) x →
    Shows n (run n (handles is) (start n t)) (Loop l) →
    IsFirstDouble (run n (handles is) (start n t)).carried c →
    CameFromLan n (run n (handles is) (start n t)).carried l c
    (hops_until n (run n (handles is) (start n t)).carried l
    (length (run n (handles is) (start n t)).carried) c.lan c.sender)
came_from_lan-hops_until n count t numbers last is x l c net travel shows first_double =
    let cs = (run n (handles is) (start n t)).carried in
    let from = (came_from_lan-from_loop n count t numbers last is x l c travel shows first_double).1 in
    let c_in = in-first_double cs c first_double in
    subst (CameFromLan n cs l c)
    (sym (hops_until-travel n count t numbers last is x l c from.0 net travel c_in from.1)) from.1
