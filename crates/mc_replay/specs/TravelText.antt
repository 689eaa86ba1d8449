-- How `replay` prints an event and a finding, with the names of the topology (docs/FORMATS.md, the section
-- "The program").
use Rattle.std.specs.Prelude.{ℕ, List, ◌++◌, codes, decimal}
use Rattle.mc_topology.specs.Topology.{TopologyValue, lan_name, router_name}
use Rattle.mc_theory.specs.Events.{Event, Outcome}
use Rattle.mc_theory.specs.Events.Outcome.{Open, NoRow, OtherVif, Sent}
use Rattle.mc_replay.specs.declared.finding.Finding.{Finding}
use Rattle.mc_replay.specs.declared.finding.Finding.TheVariants.{Clean, Duplicate, Loop, Stray}
use Rattle.mc_replay.specs.declared.finding.Finding.TheVariants.{Missed}

-- what the router did with the copy: `sent 1 strayed 0`, `other vif`, `open` or `no row`
abbrev pub outcome_text : Outcome → List ℕ
outcome_text Open = codes "open"
outcome_text NoRow = codes "no row"
outcome_text OtherVif = codes "other vif"
outcome_text (Sent copies strays) =
    codes "sent " ++ decimal copies ++ codes " strayed " ++ decimal strays

-- an event, such as `r1 0 ttl 3 sent 1 strayed 0`: the router, its vif, the TTL that the copy came with, and
-- the outcome
abbrev pub event_text : TopologyValue → Event → List ℕ
event_text topology event = router_name topology event.router ++ codes " " ++ decimal event.vif
    ++ codes " ttl "
    ++ decimal event.ttl ++ codes " " ++ outcome_text event.outcome

-- a finding: its kind, and the LAN, or the router and the vif, that it is about, such as `Missed hall` or
-- `Stray r1 2`
abbrev pub finding_text : TopologyValue → Finding → List ℕ
finding_text topology Clean = codes "Clean"
finding_text topology (Duplicate lan) = codes "Duplicate " ++ lan_name topology lan
finding_text topology (Loop lan) = codes "Loop " ++ lan_name topology lan
finding_text topology (Stray router vif) =
    codes "Stray " ++ router_name topology router ++ codes " " ++ decimal vif
finding_text topology (Missed lan) = codes "Missed " ++ lan_name topology lan
