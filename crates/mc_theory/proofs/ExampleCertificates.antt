-- The example networks that keep the headline.
use Rattle.std.proofs.Common.{◌≡◌, ℕ, ◌||◌, ◌==◌, [], ◌∷◌, Some, inl, inr, refl, ap}
use Rattle.std.proofs.Common.{arith, eqb-true}
use Rattle.std.proofs.lemmas.Bool.{or_cases}
use Rattle.mc_theory.specs.Lists.{below}
use Rattle.mc_theory.specs.Nets.{Net, WantsBelow, IsNet}
use Rattle.mc_theory.specs.Nets.Row.{Exact}
use Rattle.mc_theory.specs.Certificates.{Entry, IsAccepted, IsRight}
use Rattle.mc_theory.specs.Headline.{HeadlineHolds}
use Rattle.mc_theory.specs.ExampleNetworks.{onward, line, line_places, line_rows, line_entries}
use Rattle.mc_theory.specs.Paths.{IsHop, IsReachedWithTtl, take_out}
use Rattle.mc_theory.specs.ExampleNetworks.{diamond, diamond_places, diamond_rows, diamond_entries}
use Rattle.mc_theory.specs.ExampleNetworks.{closed_diamond, onward_hop, line_with_loop, twins, twins_entries}
use Rattle.mc_theory.specs.ExampleNetworks.{fork, fork_places, fork_rows, fork_entries}
use Rattle.mc_theory.proofs.ExampleTables.{HasDistinctVifs, network-is_net}
use Rattle.mc_theory.proofs.FirstReason.{first_reason-none_iff_accepted}
use Rattle.mc_theory.proofs.Headline.{headline_holds-from_accepted}
use Rattle.mc_theory.proofs.ReachedLans.{is_right-from_accepted}
use Rattle.mc_theory.proofs.Paths.{need_at_most-from_passes, entry-at_path_end}
use Rattle.mc_theory.proofs.SpareInterface.{is_net-take_out}

-- an onward row sends by one vif once
onward-distinct_vifs : HasDistinctVifs onward
onward-distinct_vifs = ((λ z. z), tt)

-- LANs that want the line's flow are below 3
line-wants : WantsBelow (line 3) 3
line-wants l h = let e = eqb-true l 2 h in omega (arith, e)

-- the line has the laws of nets
line-net : IsNet (line 3)
line-net = network-is_net 2 line_places line_rows (λ l. l == 2) 3 refl
    (onward-distinct_vifs, (onward-distinct_vifs, tt))

-- its list is accepted,
line-accepted : IsAccepted (line 3) line_entries
unfolding below
line-accepted = (first_reason-none_iff_accepted (line 3) 3 line_entries line-net line-wants).0 refl

-- so the headline holds for it,
pub line-headline_holds : HeadlineHolds (line 3) 3
line-headline_holds = headline_holds-from_accepted (line 3) line_entries line-net (omega arith) line-accepted

-- and it is right
pub line-right : IsRight (line 3)
line-right = is_right-from_accepted (line 3) line_entries line-net (omega arith) line-accepted

-- LANs that want the diamond's flow are below 4
diamond-wants : WantsBelow diamond 4
diamond-wants l h = let e = eqb-true l 3 h in omega (arith, e)

-- the diamond has the laws of nets
diamond-net : IsNet diamond
diamond-net = network-is_net 4 diamond_places diamond_rows (λ l. l == 3) 3 refl
    (onward-distinct_vifs, (onward-distinct_vifs, (onward-distinct_vifs, tt)))

-- its list is accepted,
diamond-accepted : IsAccepted diamond diamond_entries
unfolding below
diamond-accepted = (first_reason-none_iff_accepted diamond 4 diamond_entries diamond-net diamond-wants).0 refl

-- so the headline holds for it
pub diamond-headline_holds : HeadlineHolds diamond 4
diamond-headline_holds =
    headline_holds-from_accepted diamond diamond_entries diamond-net (omega arith) diamond-accepted

-- the closed diamond has the laws of nets
closed_diamond-net : IsNet closed_diamond
closed_diamond-net = network-is_net 4 diamond_places ((3, onward) ∷ diamond_rows) (λ l. l == 3) 3 refl
    (onward-distinct_vifs, (onward-distinct_vifs, (onward-distinct_vifs, (onward-distinct_vifs, tt))))

-- the closed diamond where r4 doesn't send onto l3
mended_diamond-accepted : IsAccepted (take_out (3, 1) closed_diamond) diamond_entries
unfolding below
mended_diamond-accepted = (first_reason-none_iff_accepted (take_out (3, 1) closed_diamond) 4 diamond_entries
    (is_net-take_out closed_diamond (3, 1) closed_diamond-net) diamond-wants).0 refl

-- so the headline holds for it
pub mended_diamond-headline_holds : HeadlineHolds (take_out (3, 1) closed_diamond) 4
mended_diamond-headline_holds = headline_holds-from_accepted (take_out (3, 1) closed_diamond) diamond_entries
    (is_net-take_out closed_diamond (3, 1) closed_diamond-net) (omega arith) mended_diamond-accepted

-- the hop of an onward row
pub is_hop-onward : (n : Net) (from router onto : ℕ) → n.row router ≡ onward →
    n.placed router 0 ≡ Some from → n.placed router 1 ≡ Some onto →
    IsHop n (onward_hop from router onto)
is_hop-onward n from router onto row takes sends = record {
  incoming = 0;
  pairs = (1, 1) ∷ [];
  row = row;
  takes = takes;
  pair = inl refl;
  sends = sends;
}

-- the line with the loop has the laws of nets
line_with_loop-net : IsNet (line_with_loop 3)
line_with_loop-net = network-is_net 3 ((2, 0, 2) ∷ (2, 1, 0) ∷ line_places)
    ((2, onward) ∷ (0, onward) ∷ (1, onward) ∷ []) (λ l. l == 2) 3 refl
    (onward-distinct_vifs, (onward-distinct_vifs, (onward-distinct_vifs, tt)))

-- the line and r3, which doesn't send back
mended_line-accepted : IsAccepted (take_out (2, 1) (line_with_loop 3)) line_entries
unfolding below
mended_line-accepted = (first_reason-none_iff_accepted (take_out (2, 1) (line_with_loop 3)) 3 line_entries
    (is_net-take_out (line_with_loop 3) (2, 1) line_with_loop-net) line-wants).0 refl

-- so the headline holds for it
pub mended_line-headline_holds : HeadlineHolds (take_out (2, 1) (line_with_loop 3)) 3
mended_line-headline_holds = headline_holds-from_accepted (take_out (2, 1) (line_with_loop 3)) line_entries
    (is_net-take_out (line_with_loop 3) (2, 1) line_with_loop-net) (omega arith) mended_line-accepted

-- a row with threshold 64 sends by one vif once
hop_above-distinct_vifs : HasDistinctVifs (Exact 0 ((1, 64) ∷ []))
hop_above-distinct_vifs = ((λ z. z), tt)

-- the twins have the laws of nets
twins-net : IsNet twins
twins-net = network-is_net 2 ((0, 0, 0) ∷ (0, 1, 1) ∷ (1, 0, 0) ∷ (1, 1, 1) ∷ [])
    ((0, Exact 0 ((1, 64) ∷ [])) ∷ (1, onward) ∷ []) (λ l. l == 1) 65 refl
    (hop_above-distinct_vifs, (onward-distinct_vifs, tt))

-- LANs that want the twins' flow are below 2
twins-wants : WantsBelow twins 2
twins-wants l h = let e = eqb-true l 1 h in omega (arith, e)

-- the twins where r2 doesn't send
one_twin-accepted : IsAccepted (take_out (1, 1) twins) twins_entries
unfolding below
one_twin-accepted = (first_reason-none_iff_accepted (take_out (1, 1) twins) 2 twins_entries
    (is_net-take_out twins (1, 1) twins-net) twins-wants).0 refl

-- so the headline holds for it
pub one_twin-headline_holds : HeadlineHolds (take_out (1, 1) twins) 2
one_twin-headline_holds = headline_holds-from_accepted (take_out (1, 1) twins) twins_entries
    (is_net-take_out twins (1, 1) twins-net)
    (omega arith) one_twin-accepted

-- without r2 a packet with TTL 2 doesn't get through
pub one_twin-stops_ttl_2 : IsReachedWithTtl (take_out (1, 1) twins) 2 1 → ⊥
one_twin-stops_ttl_2 r =
    let e = entry-at_path_end (take_out (1, 1) twins) twins_entries 2 one_twin-accepted.is_tree
    (omega arith) r.0 1 r.1 r.2 in
    let least = need_at_most-from_passes 2 r.0 (omega arith) r.2 in
    elim e.1 [
      | inl q ↦ (let lan = ap (λ (e : Entry). e.lan) q in let on = e.2 in omega (arith, lan, on))
      | inr (inl q) ↦ (let needed = ap (λ (e : Entry). e.need) q in
          let same = e.4 in omega (arith, needed, same, least))
      | inr (inr z) ↦ z
    ]

-- LANs that want the fork's flow are below 3
fork-wants : WantsBelow (fork 65) 3
fork-wants l h = elim (or_cases (l == 1) (l == 2) h) [
  | inl q ↦ (let e = eqb-true l 1 q in omega (arith, e))
  | inr q ↦ (let e = eqb-true l 2 q in omega (arith, e))
]

-- the fork has the laws of nets
fork-net : IsNet (fork 65)
fork-net = network-is_net 1 fork_places fork_rows (λ l. (l == 1) || (l == 2)) 65 refl
    (((λ h. elim h [ inl q ↦ absurd cc | inr z ↦ z ]), ((λ z. z), tt)), tt)

-- its list is accepted,
fork-accepted : IsAccepted (fork 65) fork_entries
unfolding below
fork-accepted = (first_reason-none_iff_accepted (fork 65) 3 fork_entries fork-net fork-wants).0 refl

-- so the headline holds for it
pub fork-headline_holds : HeadlineHolds (fork 65) 3
fork-headline_holds = headline_holds-from_accepted (fork 65) fork_entries fork-net (omega arith) fork-accepted
