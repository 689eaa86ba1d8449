-- That a bundle, or a folder's files, which mean a domain (Meaning) are read as that domain.
use Rattle.std.specs.Prelude.{◌≡◌, ℕ, Bool, is_some, List, MatchResult, Option, Result, Some}
use Rattle.mc_files.specs.Files.{FileText}
use Rattle.mc_forward.specs.Domains.{DomainValue}
use Rattle.mc_input.specs.ExcludedRouters.{AreRouterNames, IsReadOrMemoryWithout, files_with_exclusions}
use Rattle.mc_input.specs.Meaning.{FilesMeanDomain, MeansDomain}
use Rattle.mc_input.specs.SourceFault.{IsReadOrMemory}
use Rattle.mc_input.specs.declared.source_fault.SourceFault.{SourceFault}
use Rattle.mc_input.specs.declared.exclusion_fault.ExclusionFault.{ExclusionFault}

-- The files mean the domain, with the routers of these names excluded.
abbrev pub FilesMeanDomainWithout : (names : List (List ℕ)) → List FileText → DomainValue → Type 0
FilesMeanDomainWithout names files domain = FilesMeanDomain (files_with_exclusions names files) domain

-- A bundle that means a domain, with a text of a certificate where `certified` asks for one and otherwise
-- without, is read as that domain and that text, unless the input failed or memory ran out.
abbrev pub IsBundleReadAsMeant : {X : Type 0} → (remaining : Option (List ℕ)) → (certified : Bool)
    → (X → DomainValue) → (X → Option (List ℕ)) → Result X SourceFault → Type 0
IsBundleReadAsMeant remaining certified domain_of certificate_of result =
    (text : List ℕ) (certificate : Option (List ℕ)) (domain : DomainValue) →
    remaining ≡ Some text → is_some certificate ≡ certified →
    MeansDomain text certificate domain → MatchResult result
    (λ read. (domain_of read ≡ domain) × (certificate_of read ≡ certificate)) IsReadOrMemory

-- Files that mean a domain with the routers of these names excluded, each of which is a router of its
-- topology, are read as that domain, unless the source failed or memory ran out.
abbrev pub AreFilesReadAsMeant : {X : Type 0} → (contents : Option (List FileText))
    → (names : List (List ℕ)) → (X → DomainValue) → Result X ExclusionFault → Type 0
AreFilesReadAsMeant contents names domain_of result =
    (files : List FileText) (domain : DomainValue) → contents ≡ Some files →
    FilesMeanDomainWithout names files domain → AreRouterNames domain.topology names →
    MatchResult result (λ read. domain_of read ≡ domain) IsReadOrMemoryWithout
