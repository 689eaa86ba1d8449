-- The need of a path, and where a packet is stopped, hop by hop.
use Rattle.std.proofs.Common.{◌≡◌, ℕ, ◌+◌, ◌-◌, ◌<◌, ◌≤◌, max, List, ◌∷◌, length, drop}
use Rattle.std.proofs.Common.{take, get_or, Some, None, ap, sym, ◌∙◌, arith}
use Rattle.std.proofs.lemmas.List.{drop_more, length-drop, take-append-drop}
use Rattle.mc_theory.specs.Paths.{Hop, need}
use Rattle.mc_theory.specs.Hops.{stopping_hop}
use Rattle.mc_theory.proofs.Paths.{need-at_least_one}
use Rattle.mc_theory.proofs.StoppingHop.{stopping_hop-here, stopping_hop-more}

-- ---- the need

-- the greatest of the needs so far and of the hops that are left
pub record NeedSoFar (hops : List Hop) (i before least : ℕ) : Type 0 where
  pub count : before + i ≡ length hops
  pub low : 1 ≤ least
  pub all : max least (need (drop i hops)) ≡ need hops

-- before the first hop the need is 1
pub need_so_far-none : (hops : List Hop) → NeedSoFar hops 0 (length hops) 1
need_so_far-none hops =
    let low = need-at_least_one hops in
    record { count = omega arith; low = omega arith; all = omega (arith, low) }

-- ---- where a packet is stopped

-- the packet got through the last hops of the list, and has TTL `left`
pub record ThroughSoFar (t : ℕ) (hops : List Hop) (before left : ℕ) : Type 0 where
  pub ttl : left + before ≡ t
  pub through : stopping_hop t (drop (length hops - before) hops) ≡ None

-- the hops up to the next one
drop-next_hop : (hops : List Hop) (before : ℕ) (h : Hop) → before < length hops →
    h ≡ get_or hops (length hops - 1 - before) h →
    drop (length hops - (before + 1)) hops ≡ h ∷ drop (length hops - before) hops
drop-next_hop hops before h lt at =
    let j = length hops - 1 - before in
    let place : length hops - (before + 1) ≡ j = omega arith in
    let after : j + 1 ≡ length hops - before = omega (arith, lt) in
    let inside : j < length hops = omega (arith, lt) in
    ap (λ (k : ℕ). drop k hops) place ∙
    (drop_more hops j h inside ∙
    (ap (λ (g : Hop). g ∷ drop (j + 1) hops) (sym at) ∙
    ap (λ (k : ℕ). h ∷ drop k hops) after))

-- the hops that were gone through
length-drop_before : (hops : List Hop) (before : ℕ) → before < length hops →
    length (drop (length hops - before) hops) ≡ before
length-drop_before hops before lt =
    let long = length-drop (length hops - before) hops in omega (arith, long, lt)

-- a hop whose threshold isn't below the TTL that is left stops the packet
pub stopping_hop-there : (t : ℕ) (hops : List Hop) (before left : ℕ) (h : Hop) →
    ThroughSoFar t hops before left → before < length hops →
    h ≡ get_or hops (length hops - 1 - before) h → left ≤ h.threshold →
    Some (h, left) ≡ stopping_hop t hops
stopping_hop-there t hops before left h so_far lt at stops =
    let ttl = so_far.ttl in
    let rest = drop (length hops - before) hops in
    let k = length hops - (before + 1) in
    let long = length-drop_before hops before lt in
    let same : t - length rest ≡ left = omega (arith, ttl, long) in
    let here : stopping_hop t (drop k hops) ≡ Some (h, left) =
    ap (stopping_hop t) (drop-next_hop hops before h lt at) ∙
    (stopping_hop-here t rest h so_far.through (omega (arith, same, stops)) ∙
    ap (λ (m : ℕ). Some (h, m)) same) in
    sym (sym (ap (stopping_hop t) (take-append-drop k hops)) ∙
    stopping_hop-more t (take k hops) (drop k hops) (h, left) here)
