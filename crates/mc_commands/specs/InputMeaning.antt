-- What a bundle with a certificate means: a domain, and a list of entries for each of its flows; and why a
-- bundle, or a folder's files, are refused (docs/FORMATS.md, "The parts of a domain" and "Certificate").
use Rattle.std.specs.Prelude.{◌≡◌, ℕ, Bool, IsTrue, List, Some, Err, ⊤}
use Rattle.mc_forward.specs.Domains.{DomainValue}
use Rattle.mc_cert.specs.Certificate.{Tree}
use Rattle.mc_cert.specs.Denotation.{DenotesCertificate}
use Rattle.mc_cert.specs.Reading.{parse_certificate}
use Rattle.mc_cert.specs.declared.fault.CertFault.{CertFault}
use Rattle.mc_files.specs.Files.{FileText}
use Rattle.mc_input.specs.InputReading.{input_of_bundle}
use Rattle.mc_input.specs.Meaning.{MeansDomain}
use Rattle.mc_input.specs.ExcludedRouters.{input_of_files_without}
use Rattle.mc_input.specs.declared.exclusion_fault.ExclusionFault.{ExclusionFault}
use Rattle.mc_input.specs.declared.fault.InputFault.TheVariants as input
use Rattle.mc_commands.specs.declared.fault.RunFault.{RunFault}
use Rattle.mc_commands.specs.declared.fault.RunFault.TheVariants.{Bundle, Parts, Topology, Vif, Cache}
use Rattle.mc_commands.specs.declared.fault.RunFault.TheVariants.{PartReports, Reports, Certificate}
use Rattle.mc_commands.specs.declared.fault.RunFault.TheVariants.{NoSuchFlow, NoSuchRouter, Read, Write}
use Rattle.mc_commands.specs.declared.fault.RunFault.TheVariants.{Memory}
use Rattle.mc_commands.specs.RunFault.{from_exclusion_fault}

-- ---- what it means

-- The bundle means the domain, and its certificate denotes these lists of entries, one for each of the
-- domain's flows.
pub record MeansCertified (text : List ℕ) (d : DomainValue) (lists : List Tree) : Type 0 where
  pub certificate : List ℕ
  pub domain : MeansDomain text (Some certificate) d
  pub lists_denoted : DenotesCertificate d.topology certificate lists

-- A domain, and a list of entries for each of its flows.
pub record CertifiedDomain : Type 0 where
  pub domain : DomainValue
  pub lists : List Tree

-- The bundle means this domain, with these lists.
abbrev pub MeansWithLists : List ℕ → CertifiedDomain → Type 0
MeansWithLists text c = MeansCertified text c.domain c.lists

-- ---- why an input is refused

-- All parts but the certificate are valid, and this is the certificate's first fault.
abbrev pub HasBadCertificate : List ℕ → CertFault → Type 0
HasBadCertificate text fault =
    (certificate : List ℕ) × (domain : DomainValue) × MeansDomain text (Some certificate) domain
    × (parse_certificate domain.topology certificate ≡ Err fault)

-- This is the fault of a run that reads the bundle, with a certificate or without: the bundle's first one,
-- where the parts are judged in their order, and the certificate last. A device's fault and lack of memory
-- say nothing about the text.
abbrev pub IsRefusedFor : (certified : Bool) → List ℕ → RunFault → Type 0
IsRefusedFor certified text (Bundle fault) = input_of_bundle certified text ≡ Err (input.Bundle fault)
IsRefusedFor certified text (Parts place) = input_of_bundle certified text ≡ Err (input.Parts place)
IsRefusedFor certified text (Topology fault) = input_of_bundle certified text ≡ Err (input.Topology fault)
IsRefusedFor certified text (Vif part fault) = input_of_bundle certified text ≡ Err (input.Vif part fault)
IsRefusedFor certified text (Cache part fault) =
    input_of_bundle certified text ≡ Err (input.Cache part fault)
IsRefusedFor certified text (PartReports part fault) =
    input_of_bundle certified text ≡ Err (input.Reports part fault)
IsRefusedFor certified text (Certificate fault) = IsTrue certified × HasBadCertificate text fault
-- these runs read no single report list, ask for no flow and exclude no router
IsRefusedFor certified text (Reports fault) = ⊥
IsRefusedFor certified text (NoSuchFlow number) = ⊥
IsRefusedFor certified text (NoSuchRouter place) = ⊥
IsRefusedFor certified text Read = ⊤
IsRefusedFor certified text Write = ⊤
IsRefusedFor certified text Memory = ⊤

-- This is the fault of a run on the files without the routers of these names: the topology's, that of the
-- first name that no router has, or the first one of the other files, in the order in which they are read. A
-- device's fault and lack of memory say nothing about the files.
abbrev pub AreRefusedWithout : (names : List (List ℕ)) → List FileText → RunFault → Type 0
AreRefusedWithout names files Read = ⊤
AreRefusedWithout names files Write = ⊤
AreRefusedWithout names files Memory = ⊤
AreRefusedWithout names files fault =
    (cause : ExclusionFault) × (input_of_files_without names files ≡ Err cause)
    × (fault ≡ from_exclusion_fault cause)
