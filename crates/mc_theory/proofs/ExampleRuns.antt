-- Runs in the example networks: what LANs carried in every order, and after losses.
use Rattle.std.proofs.Common.{◌≡◌, ℕ, List, [], ◌∷◌, map, refl}
use Rattle.mc_theory.specs.Lists.{below}
use Rattle.mc_theory.specs.Nets.{Net, interfaces}
use Rattle.mc_theory.specs.Flights.{Pick, copy_count_on, start, run}
use Rattle.mc_theory.specs.Flights.Pick.{Handles, Loses}
use Rattle.mc_theory.specs.Findings.{handles}
use Rattle.mc_theory.specs.ExampleNetworks.{line, line_with_shortcut}
use Rattle.mc_theory.proofs.ExampleBranching.{branching}

-- after these picks nothing waits, and the LANs from l0 on carried so many copies
abbrev pub EndsWith : Net → ℕ → List Pick → List ℕ → List ℕ → Type 0
EndsWith n t ps ls counts =
    ((run n ps (start n t)).waiting ≡ [])
    × (map (copy_count_on (run n ps (start n t)).carried) ls ≡ counts)

abbrev lans_of_line : List ℕ
lans_of_line = 0 ∷ 1 ∷ 2 ∷ []

abbrev lans_of_branching : List ℕ
lans_of_branching = 0 ∷ 1 ∷ 2 ∷ 3 ∷ []

-- ---- the branching has three complete orders, and all come to the same end

ends_with-branching_first_order : EndsWith (branching 3) 3 (handles (0 ∷ 0 ∷ 0 ∷ [])) lans_of_branching
    (1 ∷ 1 ∷ 1 ∷ 1 ∷ [])
unfolding below interfaces
ends_with-branching_first_order = (refl, refl)

ends_with-branching_second_order : EndsWith (branching 3) 3 (handles (0 ∷ 1 ∷ 0 ∷ [])) lans_of_branching
    (1 ∷ 1 ∷ 1 ∷ 1 ∷ [])
unfolding below interfaces
ends_with-branching_second_order = (refl, refl)

ends_with-branching_third_order : EndsWith (branching 3) 3 (handles (1 ∷ 0 ∷ 0 ∷ [])) lans_of_branching
    (1 ∷ 1 ∷ 1 ∷ 1 ∷ [])
unfolding below interfaces
ends_with-branching_third_order = (refl, refl)

-- with TTL 2 all but l2, whose need is 3
ends_with-low_ttl_first_order : EndsWith (branching 3) 2 (handles (0 ∷ 0 ∷ 0 ∷ [])) lans_of_branching
    (1 ∷ 1 ∷ 0 ∷ 1 ∷ [])
unfolding below interfaces
ends_with-low_ttl_first_order = (refl, refl)

ends_with-low_ttl_second_order : EndsWith (branching 3) 2 (handles (0 ∷ 1 ∷ 0 ∷ [])) lans_of_branching
    (1 ∷ 1 ∷ 0 ∷ 1 ∷ [])
unfolding below interfaces
ends_with-low_ttl_second_order = (refl, refl)

ends_with-low_ttl_third_order : EndsWith (branching 3) 2 (handles (1 ∷ 0 ∷ 0 ∷ [])) lans_of_branching
    (1 ∷ 1 ∷ 0 ∷ 1 ∷ [])
unfolding below interfaces
ends_with-low_ttl_third_order = (refl, refl)

-- ---- losses

ends_with-line_and_loss : EndsWith (line 3) 3 (Loses 0 ∷ []) lans_of_line (1 ∷ 0 ∷ 0 ∷ [])
unfolding below interfaces
ends_with-line_and_loss = (refl, refl)

ends_with-branching_and_loss : EndsWith (branching 3) 3 (Loses 0 ∷ Handles 0 ∷ []) lans_of_branching
    (1 ∷ 0 ∷ 0 ∷ 1 ∷ [])
unfolding below interfaces
ends_with-branching_and_loss = (refl, refl)

-- the loss of the second path's copy hides the fault
copy_count_on-shortcut_and_loss : copy_count_on
    (run (line_with_shortcut 3) (Loses 1 ∷ Handles 0 ∷ Handles 0 ∷ [])
    (start (line_with_shortcut 3) 3)).carried 2 ≡ 1
unfolding below interfaces
copy_count_on-shortcut_and_loss = refl
