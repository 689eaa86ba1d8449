-- The lines `behind it` of an audit, but those of a second copy (docs/FORMATS.md, "What is behind a stray").
use Rattle.std.specs.Prelude.{ℕ, ◌-◌, List, [], ◌∷◌, ◌++◌, length, codes, flat_map, take}
use Rattle.mc_topology.specs.Topology.{TopologyValue, router_name}
use Rattle.mc_theory.specs.Nets.{Interface}
use Rattle.mc_forward.specs.ListedTables.{DomainFacts}
use Rattle.mc_shown.specs.RowText.{device_text}
use Rattle.mc_shown.specs.ShownNames.{lans_text, more_text, routers_text}

-- ---- interfaces

-- an interface by which a copy leaves the domain, such as `r1 eth1`
abbrev pub leak_text : DomainFacts → Interface → List ℕ
leak_text domain interface = router_name domain.topology interface.0
    ++ (codes " " ++ device_text domain interface.0 interface.1)

-- such an interface, with a comma and a space before it
abbrev pub leak_after_comma : DomainFacts → Interface → List ℕ
leak_after_comma domain interface = codes ", " ++ leak_text domain interface

-- the first 8 of these interfaces, such as ` r1 eth1, r2 eth2`, and how many more there are
abbrev pub leaks_text : DomainFacts → List Interface → List ℕ
leaks_text domain [] = []
leaks_text domain (interface ∷ interfaces) = codes " " ++ (leak_text domain interface
    ++ (flat_map (leak_after_comma domain) (take 7 interfaces) ++ more_text (length interfaces - 7)))

-- ---- the three lines, each of which is left out where it would name nothing

-- by which interfaces copies leave besides
abbrev pub also_leaves_text : DomainFacts → List Interface → List ℕ
also_leaves_text domain [] = []
also_leaves_text domain (interface ∷ interfaces) =
    codes "  behind it: also leaves by" ++ (leaks_text domain (interface ∷ interfaces) ++ codes "\n")

-- past which routers nothing is known
abbrev pub not_known_past_text : TopologyValue → (routers : List ℕ) → List ℕ
not_known_past_text topology [] = []
not_known_past_text topology (router ∷ routers) =
    codes "  behind it: not known past" ++ (routers_text topology (router ∷ routers) ++ codes "\n")

-- which LANs are missed, unless a copy that left reaches them
abbrev pub missed_behind_text : TopologyValue → (lans : List ℕ) → List ℕ
missed_behind_text topology [] = []
missed_behind_text topology (lan ∷ lans) = codes "  behind it: missed, unless what leaves there reaches it:"
    ++ (lans_text topology (lan ∷ lans) ++ codes "\n")

-- by which interfaces copies leave besides, past which routers nothing is known, and which LANs are missed:
-- the three lines
abbrev pub leaks_behind_text : DomainFacts → List Interface → (open_routers missed : List ℕ) → List ℕ
leaks_behind_text domain strays open_routers missed = also_leaves_text domain strays
    ++ (not_known_past_text domain.topology open_routers ++ missed_behind_text domain.topology missed)
