-- More networks like those of specs/ExampleNetworks.antt, with a third router.
use Rattle.std.proofs.Common.{ℕ, ◌||◌, ◌==◌, List, [], ◌∷◌, ◌++◌, Some}
use Rattle.mc_theory.specs.Nets.{Net}
use Rattle.mc_theory.specs.Nets.Row.{Exact}
use Rattle.mc_theory.specs.Certificates.{Entry}
use Rattle.mc_theory.specs.ExampleNetworks.{network, entry, onward, line_with_third_router}
use Rattle.mc_theory.specs.ExampleNetworks.{line_places, line_entries}

-- r3 forwards from l1 to l1, by two vifs
abbrev pub onto_itself : ℕ → Net
onto_itself ttl = line_with_third_router ((2, 1, 1) ∷ (2, 2, 1) ∷ []) (Exact 1 ((2, 1) ∷ [])) ttl

-- ---- the branching: the line, and r3 from l0 to l3, where a host listens as well

abbrev pub branching : ℕ → Net
branching ttl = network 3 ((2, 0, 0) ∷ (2, 1, 3) ∷ line_places)
    ((2, onward) ∷ (0, onward) ∷ (1, onward) ∷ [])
    (λ l. (l == 2) || (l == 3)) ttl

abbrev pub branching_entries : List Entry
branching_entries = line_entries ++ entry 3 1 2 (Some (2, 1)) ∷ []
