-- The lines of what is behind a stray, where they name something.
use Rattle.std.proofs.Common.{◌≡◌, ℕ, ◌==◌, false, List, [], ◌∷◌, ◌++◌, length, refl, codes}
use Rattle.mc_topology.specs.Topology.{TopologyValue}
use Rattle.mc_theory.specs.Nets.{Interface}
use Rattle.mc_forward.specs.ListedTables.{DomainFacts}
use Rattle.mc_shown.specs.ShownNames.{lans_text, routers_text}
use Rattle.mc_lines.specs.BehindText.{also_leaves_text, leaks_text, missed_behind_text, not_known_past_text}

-- if copies also leave by some interface behind a stray
pub also_leaves_text-some_leak : (d : DomainFacts) (is : List Interface) → (length is == 0) ≡ false
    → codes "  behind it: also leaves by" ++ (leaks_text d is ++ codes "\n") ≡ also_leaves_text d is
also_leaves_text-some_leak d [] some = absurd cc
also_leaves_text-some_leak d (i ∷ is) some = refl

-- if nothing is known past some router there
pub not_known_past_text-some_router : (t : TopologyValue) (routers : List ℕ) → (length routers == 0) ≡ false
    → codes "  behind it: not known past" ++ (routers_text t routers ++ codes "\n")
    ≡ not_known_past_text t routers
not_known_past_text-some_router t [] some = absurd cc
not_known_past_text-some_router t (r ∷ rs) some = refl

-- if some LAN is missed there
pub missed_behind_text-some_lan : (t : TopologyValue) (lans : List ℕ) → (length lans == 0) ≡ false
    → codes "  behind it: missed, unless what leaves there reaches it:" ++ (lans_text t lans ++ codes "\n")
    ≡ missed_behind_text t lans
missed_behind_text-some_lan t [] some = absurd cc
missed_behind_text-some_lan t (lan ∷ lans) some = refl
