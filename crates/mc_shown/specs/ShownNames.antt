-- The names of LANs and of routers in a line, of which the first 8 are shown (docs/FORMATS.md, the section
-- "The program").
use Rattle.std.specs.Prelude.{ℕ, ◌-◌, ◌==◌, List, [], ◌++◌, length, if◌then◌else◌, codes, decimal, flat_map}
use Rattle.std.specs.Prelude.{take}
use Rattle.mc_topology.specs.Topology.{TopologyValue, lan_name, router_name}

-- how many more there are; nothing for none
abbrev pub more_text : ℕ → List ℕ
more_text more = if more == 0 then [] else codes " and " ++ (decimal more ++ codes " more")

-- a LAN's name, with a space before it
abbrev pub lan_after_space : TopologyValue → (lan : ℕ) → List ℕ
lan_after_space topology lan = codes " " ++ lan_name topology lan

-- the first 8 LANs, and how many more there are, such as ` l1 l2` or ` l1 l2 l3 l4 l5 l6 l7 l8 and 3 more`
abbrev pub lans_text : TopologyValue → List ℕ → List ℕ
lans_text topology lans = flat_map (lan_after_space topology) (take 8 lans) ++ more_text (length lans - 8)

-- a router's name, with a space before it
abbrev pub router_after_space : TopologyValue → (router : ℕ) → List ℕ
router_after_space topology router = codes " " ++ router_name topology router

-- the first 8 routers, and how many more there are, such as ` r1 r2` or ` r1 r2 r3 r4 r5 r6 r7 r8 and 3 more`
abbrev pub routers_text : TopologyValue → List ℕ → List ℕ
routers_text topology routers =
    flat_map (router_after_space topology) (take 8 routers) ++ more_text (length routers - 8)
