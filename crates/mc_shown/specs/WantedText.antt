-- The lines `wanted` and `also missed` of a flow: the LANs that want it, and those that its packet also
-- missed (docs/FORMATS.md, the section "The program").
use Rattle.std.specs.Prelude.{◌≡◌, ℕ, ◌==◌, ◌&&◌, not, Bool, false, List, [], ◌∷◌, ◌++◌, length}
use Rattle.std.specs.Prelude.{is_some, codes, decimal, filter, slice_index_or}
use Rattle.mc_topology.specs.Topology.{TopologyValue}
use Rattle.mc_theory.specs.Lists.{below}
use Rattle.mc_theory.specs.Flights.{Copy}
use Rattle.mc_theory.specs.Findings.{first_copy_on}
use Rattle.mc_forward.specs.ListedTables.{DomainFacts}
use Rattle.mc_replay.specs.declared.finding.Finding.{Finding}
use Rattle.mc_replay.specs.declared.finding.Finding.TheVariants.{Missed}
use Rattle.mc_shown.specs.ShownNames.{lans_text}

-- ---- the LANs that want a flow

-- the LANs that want a flow, in the topology's order
abbrev pub lans_wanting : DomainFacts → (flow : ℕ) → List ℕ
lans_wanting domain flow = filter (domain.nets flow).wants (below (length domain.topology.lans))

-- the line of the LANs that want a flow
abbrev pub wanted_text : TopologyValue → (lans : List ℕ) → List ℕ
wanted_text topology [] = codes "  wanted 0: no report asks for it\n"
wanted_text topology (lan ∷ lans) =
    codes "  wanted " ++ (decimal (length (lan ∷ lans))
    ++ (codes ":" ++ (lans_text topology (lan ∷ lans) ++ codes "\n")))

-- ---- the LANs that were missed besides

-- Exactly the LANs of these copies are marked.
abbrev pub AreMarksOfCopies : List Bool → List Copy → Type 0
AreMarksOfCopies marks copies =
    (lan : ℕ) → slice_index_or marks lan false ≡ is_some (first_copy_on copies lan)

-- whether a LAN other than `missed` wants the flow and carried none of these copies
abbrev pub is_also_missed : DomainFacts → (flow : ℕ) → List Copy → (missed lan : ℕ) → Bool
is_also_missed domain flow copies missed lan =
    ((domain.nets flow).wants lan && not (is_some (first_copy_on copies lan))) && not (lan == missed)

-- the LANs that a packet with these copies also missed, in the topology's order
abbrev pub also_missed : DomainFacts → (flow : ℕ) → List Copy → (missed : ℕ) → List ℕ
also_missed domain flow copies missed =
    filter (is_also_missed domain flow copies missed) (below (length domain.topology.lans))

-- the LANs that the packet also missed, by what is found of it; none where the finding isn't a missed LAN
abbrev pub missed_besides : DomainFacts → (flow : ℕ) → List Copy → Finding → List ℕ
missed_besides domain flow copies (Missed lan) = also_missed domain flow copies lan
missed_besides domain flow copies _ = []

-- the line of the LANs that were also missed; nothing if there are none
abbrev pub also_missed_text : TopologyValue → (lans : List ℕ) → List ℕ
also_missed_text topology [] = []
also_missed_text topology (lan ∷ lans) =
    codes "  also missed:" ++ (lans_text topology (lan ∷ lans) ++ codes "\n")
