-- Why the premises on networks and TTLs are there: without them an accepted list promises too much.
use Rattle.std.proofs.Common.{◌≡◌, false, ◌==◌, [], ◌∷◌, None, refl}
use Rattle.mc_theory.specs.Lists.{below}
use Rattle.mc_theory.specs.Nets.{Net, interfaces}
use Rattle.mc_theory.specs.Nets.Row.{Exact}
use Rattle.mc_theory.specs.Flights.{copy_count_on, start, run}
use Rattle.mc_theory.specs.Reasons.{first_reason}
use Rattle.mc_theory.specs.Findings.{IsTravel, handles}
use Rattle.mc_theory.specs.Findings.Finding.{Duplicate, Missed}
use Rattle.mc_theory.specs.ExampleNetworks.{network, onward, line_with, l0_entry, l1_entry}
use Rattle.mc_theory.specs.ExampleNetworks.{line_entries}

-- ---- a row with two pairs of one vif: the list is accepted, and l1 carries two copies

abbrev net_with_repeated_vif : Net
net_with_repeated_vif = line_with ((0, Exact 0 ((1, 1) ∷ (1, 1) ∷ [])) ∷ (1, onward) ∷ []) 3

first_reason-repeated_vif : first_reason net_with_repeated_vif 3 line_entries ≡ None
unfolding below
first_reason-repeated_vif = refl

is_travel-repeated_vif : IsTravel net_with_repeated_vif 3 [] false (0 ∷ []) (start net_with_repeated_vif 3)
    (Duplicate 1)
unfolding below interfaces
is_travel-repeated_vif = (refl, refl, refl)

-- ---- a vif above 31: the list is accepted, and l2 is never reached

abbrev net_with_vif_40 : Net
net_with_vif_40 = network 3 ((0, 0, 0) ∷ (0, 1, 1) ∷ (1, 40, 1) ∷ (1, 1, 2) ∷ [])
    ((0, onward) ∷ (1, Exact 40 ((1, 1) ∷ [])) ∷ []) (λ l. l == 2) 3

first_reason-vif_40 : first_reason net_with_vif_40 3 line_entries ≡ None
unfolding below
first_reason-vif_40 = refl

is_travel-vif_40 : IsTravel net_with_vif_40 3 [] false (0 ∷ []) (start net_with_vif_40 3) (Missed 2)
unfolding below interfaces
is_travel-vif_40 = (refl, refl, refl)

-- ---- a TTL above 255: a pair that is dead up to 255 sends, onto a LAN that no entry names

abbrev net_with_dead_pair : Net
net_with_dead_pair = network 3 ((0, 0, 0) ∷ (0, 1, 1) ∷ (1, 0, 1) ∷ (1, 1, 2) ∷ [])
    ((0, onward) ∷ (1, Exact 0 ((1, 254) ∷ [])) ∷ []) (λ l. l == 1) 3

first_reason-net_with_dead_pair : first_reason net_with_dead_pair 3 (l0_entry ∷ l1_entry ∷ []) ≡ None
unfolding below
first_reason-net_with_dead_pair = refl

copy_count_on-dead_pair_at_ttl_256 : copy_count_on
    (run net_with_dead_pair (handles (0 ∷ 0 ∷ [])) (start net_with_dead_pair 256)).carried 2 ≡ 1
unfolding below interfaces
copy_count_on-dead_pair_at_ttl_256 = refl
