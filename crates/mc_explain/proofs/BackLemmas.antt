-- Following a copy back, hop by hop.
use Rattle.std.proofs.Common.{◌≡◌, ℕ, zero, suc, ◌+◌, ◌<◌, Bool, true, false, cond, ◌==◌, List, refl}
use Rattle.std.proofs.Common.{[], ◌∷◌, ◌++◌, length, drop, take, Option, Some, None, ap, ap₂, sym, ◌∙◌}
use Rattle.std.proofs.Common.{append_assoc, arith}
use Rattle.std.specs.Prelude.{nat_lt, option_and_then}
use Rattle.std.specs.List.{position, position_or_len}
use Rattle.std.proofs.lemmas.Bool.{ltb-false}
use Rattle.std.proofs.lemmas.List.{take_all}
use Rattle.mc_theory.specs.Nets.{Net, Interface}
use Rattle.mc_theory.specs.Flights.{Copy}
use Rattle.mc_theory.specs.Findings.{sender_on}
use Rattle.mc_theory.specs.Paths.{Hop}
use Rattle.mc_theory.specs.Hops.{hop_sent, hop_then, hops_back, hops_until}
use Rattle.mc_forward.specs.PerLan.{HoldsFirstOfEachKey, item_on_lan}
use Rattle.mc_forward.proofs.PerLanLemmas.{first_with_key-first_copy_on}
use Rattle.mc_replay.proofs.WalkLemmas.{length-drop_one_more, sender-copy_on}

-- the sender of the first copy that is held
pub sender_on-held : (first_copies : List (Option Copy)) (cs : List Copy) (l : ℕ) (next : Option Interface) →
    HoldsFirstOfEachKey (λ (c : Copy). c.lan) first_copies cs →
    next ≡ option_and_then (λ (c : Copy). c.sender) (item_on_lan first_copies l) → next ≡ sender_on cs l
sender_on-held first_copies cs l next are e = e ∙
    (ap (option_and_then (λ (c : Copy). c.sender)) (are l ∙ first_with_key-first_copy_on cs l)
    ∙ sender-copy_on cs l)

-- one hop more at the end of the hops so far
append-push_then_rest : (hops : List Hop) (h : Hop) (rest : List Hop) →
    (hops ++ h ∷ []) ++ rest ≡ hops ++ h ∷ rest
append-push_then_rest hops h rest = append_assoc hops (h ∷ []) rest

-- ---- to the source's LAN

-- one hop more in front
hops_back-more : (n : Net) (cs : List Copy) (k onto : ℕ) (x : Option Interface) (h : Hop) →
    hop_sent n x onto ≡ Some h →
    hops_back n cs (suc k) onto x ≡ h ∷ hops_back n cs k h.from (sender_on cs h.from)
hops_back-more n cs k onto x h e = ap (hop_then (λ h. hops_back n cs k h.from (sender_on cs h.from))) e

-- one hop more, as the loop follows it
pub hops_back-more_pushed : (n : Net) (first_copies : List (Option Copy)) (cs : List Copy) (i onto : ℕ)
    (x next : Option Interface) (c : Copy) (h : Hop) (hops now all : List Hop) →
    HoldsFirstOfEachKey (λ (c : Copy). c.lan) first_copies cs → i < length cs → hop_sent n x onto ≡ Some h →
    now ≡ hops ++ h ∷ [] →
    next ≡ option_and_then (λ (c : Copy). c.sender) (item_on_lan first_copies h.from) →
    hops ++ hops_back n cs (length (drop i cs)) onto x ≡ all →
    now ++ hops_back n cs (length (drop (i + 1) cs)) h.from next ≡ all
hops_back-more_pushed n first_copies cs i onto x next c h hops now all are lt e push sender so_far =
    let k = length (drop (i + 1) cs) in
    let rest = hops_back n cs k h.from (sender_on cs h.from) in
    let step : hops_back n cs (length (drop i cs)) onto x ≡ h ∷ rest =
    ap (λ m. hops_back n cs m onto x) (length-drop_one_more cs i c lt) ∙ hops_back-more n cs k onto x h e in
    ap (λ (y : Option Interface). now ++ hops_back n cs k h.from y)
    (sender_on-held first_copies cs h.from next are sender) ∙
    (ap (λ (hs : List Hop). hs ++ rest) push ∙
    (append-push_then_rest hops h rest ∙ (ap (λ (hs : List Hop). hops ++ hs) (sym step) ∙ so_far)))

-- ---- up to the first hop of a kind

-- these hops up to the first that passes the test, or all if none does
abbrev pub up_to_first : (Hop → Bool) → List Hop → List Hop
up_to_first p hs = take (suc (position_or_len p hs)) hs

-- a hop that passes is the last one, and after another one the search goes on
up_to_first-cons : (p : Hop → Bool) (h : Hop) (until rest : List Hop) (t : Bool) → p h ≡ t
    → until ≡ up_to_first p rest → h ∷ cond (p h) [] until ≡ up_to_first p (h ∷ rest)
up_to_first-cons p h until rest true is same = rw is refl
up_to_first-cons p h until rest false is same =
    let one : 1 + position_or_len p rest ≡ suc (position_or_len p rest) = omega arith in
    rw (is, one) (ap (λ (hs : List Hop). h ∷ hs) same)

-- so it is for the hop of a sender, if it has one
up_to_first-hop_then : (p : Hop → Bool) (until rest : Hop → List Hop)
    → ((h : Hop) → until h ≡ up_to_first p (rest h)) → (o : Option Hop)
    → hop_then (λ h. cond (p h) [] (until h)) o ≡ up_to_first p (hop_then rest o)
up_to_first-hop_then p until rest same None = refl
up_to_first-hop_then p until rest same (Some h) = up_to_first-cons p h (until h) (rest h) (p h) refl (same h)

-- the hops back to LAN l are those to the source's LAN up to the first that takes from LAN l
pub hops_until-is_part : (n : Net) (cs : List Copy) (l k onto : ℕ) (x : Option Interface)
    → hops_until n cs l k onto x ≡ up_to_first (λ h. h.from == l) (hops_back n cs k onto x)
hops_until-is_part n cs l zero onto x = refl
hops_until-is_part n cs l (suc k) onto x =
    up_to_first-hop_then (λ h. h.from == l) (λ h. hops_until n cs l k h.from (sender_on cs h.from))
    (λ h. hops_back n cs k h.from (sender_on cs h.from))
    (λ h. hops_until-is_part n cs l k h.from (sender_on cs h.from)) (hop_sent n x onto)

-- by whether the test is passed within the hops
up_to_first-found_by : (hs : List Hop) (m k : ℕ) (t : Bool)
    → cond t (Some m) None ≡ Some k → take (k + 1) hs ≡ take (suc m) hs
up_to_first-found_by hs m k true found =
    let same : k + 1 ≡ suc m = (let e : m ≡ k = cc in omega (arith, e)) in
    ap (λ (n : ℕ). take n hs) same
up_to_first-found_by hs m k false found = absurd cc

-- the hops up to the first that passes, by its place
pub up_to_first-found : (p : Hop → Bool) (hs : List Hop) (k : ℕ) → position p hs ≡ Some k
    → take (k + 1) hs ≡ up_to_first p hs
up_to_first-found p hs k found =
    up_to_first-found_by hs (position_or_len p hs) k (nat_lt (position_or_len p hs) (length hs)) found

-- by whether the test is passed within the hops
up_to_first-none_by : (hs : List Hop) (m : ℕ) (t : Bool) → nat_lt m (length hs) ≡ t
    → cond t (Some m) None ≡ None → hs ≡ take (suc m) hs
up_to_first-none_by hs m true is none = absurd cc
up_to_first-none_by hs m false is none =
    let past = ltb-false m (length hs) is in sym (take_all (suc m) hs (omega (arith, past)))

-- where none passes they are all
pub up_to_first-none : (p : Hop → Bool) (hs : List Hop) → position p hs ≡ None → hs ≡ up_to_first p hs
up_to_first-none p hs none =
    up_to_first-none_by hs (position_or_len p hs) (nat_lt (position_or_len p hs) (length hs)) refl none

-- ---- to LAN l, as the code cuts the hops back

-- they end with the first hop that takes from LAN l, if one does
pub hops_until-cut : (n : Net) (cs : List Copy) (l own k onto : ℕ) (x : Option Interface)
    (found read now : List Hop) (o : Option ℕ) (place : ℕ)
    → own ≡ l → found ≡ hops_back n cs k onto x → read ≡ found
    → o ≡ position (λ h. h.from == own) read → o ≡ Some place → now ≡ take (place + 1) found
    → now ≡ hops_until n cs l k onto x
hops_until-cut n cs l own k onto x found read now o place lan is same at some cut =
    let from_lan : Hop → Bool = λ h. h.from == l in
    let there : position from_lan found ≡ Some place =
    ap₂ (λ (hs : List Hop) (m : ℕ). position (λ (h : Hop). h.from == m) hs) (sym same) (sym lan)
    ∙ sym at ∙ some in
    cut ∙ up_to_first-found from_lan found place there
    ∙ ap (up_to_first from_lan) is ∙ sym (hops_until-is_part n cs l k onto x)

-- and are all where none does
pub hops_until-uncut : (n : Net) (cs : List Copy) (l own k onto : ℕ) (x : Option Interface)
    (found read : List Hop) (o : Option ℕ)
    → own ≡ l → found ≡ hops_back n cs k onto x → read ≡ found
    → o ≡ position (λ h. h.from == own) read → o ≡ None → found ≡ hops_until n cs l k onto x
hops_until-uncut n cs l own k onto x found read o lan is same at none =
    let from_lan : Hop → Bool = λ h. h.from == l in
    let nowhere : position from_lan found ≡ None =
    ap₂ (λ (hs : List Hop) (m : ℕ). position (λ (h : Hop). h.from == m) hs) (sym same) (sym lan)
    ∙ sym at ∙ none in
    up_to_first-none from_lan found nowhere
    ∙ ap (up_to_first from_lan) is ∙ sym (hops_until-is_part n cs l k onto x)
