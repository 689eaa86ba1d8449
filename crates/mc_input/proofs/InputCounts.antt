-- An input that parts denote has tables for each router and a report list for each LAN.
use Rattle.std.proofs.Common.{◌≡◌, suc, ℕ, List, [], ◌∷◌, length, Option, refl, ap}
use Rattle.mc_bundle.specs.Bundle.{PartText}
use Rattle.mc_igmp.specs.declared.record.Record.{Record}
use Rattle.mc_topology.specs.SectionRows.{RouterRow}
use Rattle.mc_forward.specs.Assembling.{HaveMatchingCounts}
use Rattle.mc_forward.specs.Domains.{TablesValue}
use Rattle.mc_input.specs.Input.{InputValue, PartsDenoteInput, PartsDenoteReports, PartsDenoteTables}

-- the reports of the LANs
length-PartsDenoteReports : (lans : List (List ℕ)) (here : List PartText) (all : List (List Record))
    (rest : List PartText)
    → PartsDenoteReports lans here all rest → length all ≡ length lans
length-PartsDenoteReports [] here [] rest h = refl
length-PartsDenoteReports [] here (records ∷ all) rest h = absurd h
length-PartsDenoteReports (lan ∷ lans) [] all rest h = absurd h
length-PartsDenoteReports (lan ∷ lans) (part ∷ here) [] rest h = absurd h
length-PartsDenoteReports (lan ∷ lans) (part ∷ here) (records ∷ all) rest h =
    ap suc (length-PartsDenoteReports lans here all rest h.1)

-- the tables of the routers
length-PartsDenoteTables : (routers : List RouterRow) (here : List PartText) (all : List TablesValue)
    (rest : List PartText)
    → PartsDenoteTables routers here all rest → length all ≡ length routers
length-PartsDenoteTables [] here [] rest h = refl
length-PartsDenoteTables [] here (own ∷ all) rest h = absurd h
length-PartsDenoteTables (router ∷ routers) [] all rest h = absurd h
length-PartsDenoteTables (router ∷ routers) (vif ∷ []) all rest h = absurd h
length-PartsDenoteTables (router ∷ routers) (vif ∷ cache ∷ here) [] rest h = absurd h
length-PartsDenoteTables (router ∷ routers) (vif ∷ cache ∷ here) (own ∷ all) rest h =
    ap suc (length-PartsDenoteTables routers here all rest h.1)

-- the parts
pub AreCounted-from_PartsDenoteInput : (parts : List PartText) (v : InputValue) (c : Option (List ℕ))
    → PartsDenoteInput parts v c → HaveMatchingCounts v.topology v.tables v.reports
AreCounted-from_PartsDenoteInput parts v c parts_denote = record {
  routers = length-PartsDenoteTables v.topology.routers parts_denote.of_routers v.tables parts_denote.of_lans
      parts_denote.tables;
  lans = length-PartsDenoteReports v.topology.lans parts_denote.of_lans v.reports parts_denote.last
      parts_denote.reports;
}
