-- The answer and the text of `make` (docs/FORMATS.md, "The program" and "Certificate").
use Rattle.std.specs.Prelude.{◌≡◌, ◌↔◌, ℕ, ◌<◌, Bool, true, false, All, IsTrue, List, [], ◌∷◌, ◌++◌}
use Rattle.std.specs.Prelude.{codes, decimal, length, map, slice_get, Some}
use Rattle.std.specs.List.{list_all}
use Rattle.std.specs.List.Sorted.{IsStrictlyIncreasing}
use Rattle.mc_bundle.specs.Bundle.{IsBundle, PartText}
use Rattle.mc_topology.specs.declared.flow.Flow.{Flow}
use Rattle.mc_topology.specs.Topology.{TopologyValue}
use Rattle.mc_theory.specs.Certificates.{IsAccepted, IsRight}
use Rattle.mc_forward.specs.Domains.{DomainValue, net_of}
use Rattle.mc_input.specs.Input.{with_certificate}
use Rattle.mc_input.specs.Meaning.{MeansUncertifiedDomain, MeansDomainWhere}
use Rattle.mc_cert.specs.Certificate.{Tree, IsEntryOf, IsWritableTree}
use Rattle.mc_cert.specs.CertificateText.{certificate_json}
use Rattle.mc_replay.specs.TravelText.{finding_text}
use Rattle.mc_replay.specs.declared.finding.Finding.{Finding}
use Rattle.mc_maker.specs.Examined.{FindsFault, IfCertified, IfFound, AreEntriesOfCleanTravel}
use Rattle.mc_maker.specs.Examined.{IsFirstPickTravel, IsTtlOfFault, is_certified}
use Rattle.mc_maker.specs.declared.examination.Examined.{Examined}
use Rattle.mc_maker.specs.declared.examination.Examined.TheVariants.{Certified, Found}
use Rattle.mc_commands.specs.VerdictText.{flow_words}

-- ---- examinations

-- This is the result of examining a flow: entries that certify it, or a travel that shows a fault of it, with
-- the TTL of the travel's packet.
pub record IsExamined (domain : DomainValue) (flow : ℕ) (examination : Examined) : Type 0 where
  -- If the flow is certified, its entries are accepted;
  pub accepted : IfCertified (IsAccepted (net_of domain flow)) examination
  -- they are in ascending order of their LANs;
  pub ascending : IfCertified (λ entries. IsStrictlyIncreasing (map (λ entry. entry.lan) entries))
      examination
  -- they are of the topology;
  pub listed : IfCertified (All (IsEntryOf domain.topology)) examination
  -- a certificate can hold them;
  pub writable : IfCertified IsWritableTree examination
  -- and they are those of the copies that the travel at TTL 255 carried.
  pub made : IfCertified (AreEntriesOfCleanTravel domain flow) examination
  -- If a fault is found, the travel is the one at its TTL in which the first waiting copy is handled each
  -- time;
  pub travel : IfFound (IsFirstPickTravel domain flow) examination
  -- it shows a fault;
  pub fault : IfFound (λ ttl travel. FindsFault travel) examination
  -- and the TTL is 255 if a fault is found there, and otherwise the flow's.
  pub ttl : IfFound (λ ttl travel. IsTtlOfFault domain flow ttl) examination
  -- The flow is certified exactly if it is right.
  pub right : IsTrue (is_certified examination) ↔ IsRight (net_of domain flow)

-- There is such a result for each flow of the domain's topology, in order.
pub record AreExamined (domain : DomainValue) (examinations : List Examined) : Type 0 where
  pub count : length examinations ≡ length domain.topology.flows
  pub each : (flow : ℕ) (examination : Examined) → slice_get examinations flow ≡ Some examination
      → IsExamined domain flow examination

-- ---- the text

-- the lists of entries of the flows that are certified, in order
abbrev pub certified_lists : List Examined → List Tree
certified_lists [] = []
certified_lists (Certified entries ∷ examinations) = entries.items ∷ certified_lists examinations
certified_lists (Found ttl travel ∷ examinations) = certified_lists examinations

-- the first line of a flow that isn't right
abbrev pub no_certificate_line : Flow → List ℕ
no_certificate_line flow = flow_words flow ++ codes " no certificate\n"

-- the second line of a flow that isn't right: what is found of a packet with this TTL
abbrev pub found_line : TopologyValue → ℕ → Finding → List ℕ
found_line topology ttl finding =
    codes "found ttl " ++ (decimal ttl ++ (codes " " ++ (finding_text topology finding ++ codes "\n")))

-- the two lines of a flow that isn't right
abbrev pub found_lines : TopologyValue → Flow → ℕ → Finding → List ℕ
found_lines topology flow ttl finding = no_certificate_line flow ++ found_line topology ttl finding

-- the lines of a flow; none if it is certified
abbrev pub found_lines_if_any : TopologyValue → Flow → Examined → List ℕ
found_lines_if_any topology flow (Certified entries) = []
found_lines_if_any topology flow (Found ttl travel) = found_lines topology flow ttl travel.finding

-- the lines of flows, in order
abbrev pub found_lines_of_flows : TopologyValue → List Flow → List Examined → List ℕ
found_lines_of_flows topology (flow ∷ flows) (examination ∷ examinations) =
    found_lines_if_any topology flow examination ++ found_lines_of_flows topology flows examinations
found_lines_of_flows topology _ _ = []

-- whether every flow is certified
abbrev pub are_certified : List Examined → Bool
are_certified examinations = list_all is_certified examinations

-- the text: a certificate and a line feed if every flow is certified, and otherwise the lines of the flows
abbrev pub made_text : (certified : Bool) → TopologyValue → List Examined → List ℕ
made_text true topology examinations = certificate_json topology (certified_lists examinations)
    ++ codes "\n"
made_text false topology examinations = found_lines_of_flows topology topology.flows examinations

-- These are the lists and the lines that are made for a domain's flows.
pub record AreMadeListsAndLines (domain : DomainValue) (lists : List Tree) (lines : List ℕ) : Type 0 where
  pub examined : List Examined
  pub are_examined : AreExamined domain examined
  pub lists_are : lists ≡ certified_lists examined
  pub lines_are : lines ≡ found_lines_of_flows domain.topology domain.topology.flows examined

-- ---- answers

-- This is the text for a domain, by the results of examining its flows; `certified` says whether it is a
-- certificate.
pub record IsMakeOutput (domain : DomainValue) (certified : Bool) (written : List ℕ) : Type 0 where
  pub examined : List Examined
  pub are_examined : AreExamined domain examined
  pub answer : certified ≡ are_certified examined
  pub spelled : written ≡ made_text certified domain.topology examined

-- The bundle means a domain, and this is the text for it; `certified` says whether that is a certificate.
abbrev pub IsMadeText : List ℕ → Bool → List ℕ → Type 0
IsMadeText text certified written =
    MeansDomainWhere MeansUncertifiedDomain (λ domain. IsMakeOutput domain certified written) text

-- P holds of each bundle that has, as one part more, the certificate that is made for the others.
abbrev pub ForEachBundleWithMadeCertificate : ((bundle : List ℕ) → Type 0) → Type 0
ForEachBundleWithMadeCertificate P = (text written bundle : List ℕ) (parts : List PartText)
    → IsMadeText text true written → IsBundle text parts → IsBundle bundle (with_certificate parts written)
    → P bundle

-- The answer is whether every flow that the domain's topology lists is right.
abbrev pub AreRight : DomainValue → Bool → Type 0
AreRight domain all =
    IsTrue all ↔ ((flow : ℕ) → flow < length domain.topology.flows → IsRight (net_of domain flow))

-- The bundle means a domain for which that is the answer.
abbrev pub SaysAllRight : List ℕ → Bool → Type 0
SaysAllRight text all = MeansDomainWhere MeansUncertifiedDomain (λ domain. AreRight domain all) text
