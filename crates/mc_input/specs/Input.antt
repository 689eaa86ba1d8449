-- The input that a bundle denotes (docs/FORMATS.md, "The parts of a domain"): a topology, the tables of each
-- router, the reports of each LAN, and the text of a certificate, if the bundle has one.
use Rattle.std.specs.Prelude.{◌≡◌, ℕ, List, [], ◌∷◌, ◌++◌, Option, Some, None}
use Rattle.mc_bundle.specs.Bundle.{PartText, IsBundle}
use Rattle.mc_tables.specs.VifTable.{DenotesVifs}
use Rattle.mc_tables.specs.CacheTable.{DenotesCache}
use Rattle.mc_igmp.specs.declared.record.Record.{Record}
use Rattle.mc_igmp.specs.ReportList.{IsReportList}
use Rattle.mc_topology.specs.SectionRows.{RouterRow}
use Rattle.mc_topology.specs.Topology.{TopologyValue}
use Rattle.mc_topology.specs.Denotation.{DenotesBoundedTopology}
use Rattle.mc_files.specs.Layout.{part_name, topology_slot, vif_slot, cache_slot, reports_slot}
use Rattle.mc_files.specs.Layout.{certificate_slot}
use Rattle.mc_forward.specs.Domains.{TablesValue}

-- A topology, the tables of each router and the records of each LAN's reports. Routers and LANs come in the
-- topology's order.
pub record InputValue : Type 0 where
  pub topology : TopologyValue
  pub tables : List TablesValue
  pub reports : List (List Record)

-- The parts `vif/<router>` and `cache/<router>` denote the router's tables, with the addresses in the
-- router's byte order.
pub record DenotesTables (row : RouterRow) (vif cache : PartText) (tables : TablesValue) : Type 0 where
  pub vif_named : vif.name ≡ part_name (vif_slot row.name)
  pub vifs : DenotesVifs vif.bytes tables.vifs
  pub cache_named : cache.name ≡ part_name (cache_slot row.name)
  pub entries : DenotesCache row.order cache.bytes tables.cache

-- The part `igmp/<lan>` denotes the records of the LAN's reports.
pub record DenotesReports (lan : List ℕ) (part : PartText) (records : List Record) : Type 0 where
  pub named : part.name ≡ part_name (reports_slot lan)
  pub denotes : IsReportList part.bytes records

-- The parts begin with two for each router, in order, which denote its tables; `rest` are the parts after
-- these.
abbrev pub PartsDenoteTables : List RouterRow → List PartText → List TablesValue → List PartText → Type 0
PartsDenoteTables [] parts [] rest = parts ≡ rest
PartsDenoteTables (row ∷ rows) (vif ∷ cache ∷ parts) (tables ∷ others) rest =
    DenotesTables row vif cache tables × PartsDenoteTables rows parts others rest
PartsDenoteTables _ _ _ _ = ⊥

-- The parts begin with one for each LAN, in order, which denotes its reports; `rest` are the parts after
-- these.
abbrev pub PartsDenoteReports : List (List ℕ) → List PartText → List (List Record) → List PartText → Type 0
PartsDenoteReports [] parts [] rest = parts ≡ rest
PartsDenoteReports (lan ∷ lans) (part ∷ parts) (records ∷ others) rest =
    DenotesReports lan part records × PartsDenoteReports lans parts others rest
PartsDenoteReports _ _ _ _ = ⊥

-- The parts are `certificate` alone, with this text, or none where there is no certificate.
abbrev pub PartsDenoteCertificate : List PartText → Option (List ℕ) → Type 0
PartsDenoteCertificate parts None = parts ≡ []
PartsDenoteCertificate parts (Some text) =
    parts ≡ (record { name = part_name certificate_slot; bytes = text }) ∷ []

-- The parts denote the input and the certificate: `topology`, the parts of the routers, those of the LANs,
-- and that of the certificate, in this order.
pub record PartsDenoteInput (parts : List PartText) (input : InputValue)
    (certificate : Option (List ℕ)) : Type 0 where
  pub topology : List ℕ
  pub of_routers : List PartText
  pub of_lans : List PartText
  pub last : List PartText
  pub in_order : parts ≡ (record { name = part_name topology_slot; bytes = topology }) ∷ of_routers
  pub topology_denoted : DenotesBoundedTopology topology input.topology
  pub tables : PartsDenoteTables input.topology.routers of_routers input.tables of_lans
  pub reports : PartsDenoteReports input.topology.lans of_lans input.reports last
  pub certificate_denoted : PartsDenoteCertificate last certificate

-- The text is a bundle of parts that denote the input and the certificate.
pub record DenotesInput (text : List ℕ) (input : InputValue) (certificate : Option (List ℕ)) : Type 0
  where
    pub parts : List PartText
    pub bundle : IsBundle text parts
    pub parts_denote : PartsDenoteInput parts input certificate

-- the parts, and after them one with this text of a certificate
abbrev pub with_certificate : List PartText → List ℕ → List PartText
with_certificate parts text =
    parts ++ (record { name = part_name certificate_slot; bytes = text }) ∷ []
