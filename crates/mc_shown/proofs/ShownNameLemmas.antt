-- The lines of lists of names that aren't empty.
use Rattle.std.proofs.Common.{◌≡◌, ℕ, ◌==◌, false, List, [], ◌∷◌, ◌++◌, length, refl, codes, decimal}
use Rattle.mc_topology.specs.Topology.{TopologyValue}
use Rattle.mc_shown.specs.ExcludedText.{verdict_reason}
use Rattle.mc_shown.specs.ShownNames.{lans_text, routers_text}
use Rattle.mc_shown.specs.WantedText.{wanted_text}

-- if some LAN wants a flow
pub wanted_text-some_lan : (t : TopologyValue) (lans : List ℕ) → (length lans == 0) ≡ false
    → codes "  wanted " ++ (decimal (length lans) ++ (codes ":" ++ (lans_text t lans ++ codes "\n")))
    ≡ wanted_text t lans
wanted_text-some_lan t [] some = absurd cc
wanted_text-some_lan t (lan ∷ lans) some = refl

-- if some router is excluded
pub verdict_reason-some_router : (t : TopologyValue) (routers : List ℕ) → (length routers == 0) ≡ false
    → codes "  excluded:" ++ (routers_text t routers
    ++ codes ": the verdict is no; a yes requires all routers\n")
    ≡ verdict_reason t routers
verdict_reason-some_router t [] some = absurd cc
verdict_reason-some_router t (r ∷ rs) some = refl
