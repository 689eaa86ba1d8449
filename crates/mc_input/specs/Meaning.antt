-- The domain that a bundle or a folder's files mean: they denote an input (Input, FilesInput), from which the
-- domain is assembled (Assembling of mc_forward).
use Rattle.std.specs.Prelude.{ℕ, List, Option, None}
use Rattle.mc_files.specs.Files.{FileText}
use Rattle.mc_forward.specs.Assembling.{IsAssembled}
use Rattle.mc_forward.specs.Domains.{DomainValue, IsDomain}
use Rattle.mc_input.specs.FilesInput.{FilesDenoteInput}
use Rattle.mc_input.specs.Input.{InputValue, DenotesInput}

-- x denotes an input, and the domain is assembled from that. It keeps the rules of every domain.
pub record Means {X : Type 0} (Denotes : X → InputValue → Type 0) (x : X) (domain : DomainValue) : Type 0
  where
    pub input : InputValue
    pub denotes : Denotes x input
    pub assembled : IsAssembled input.topology input.tables input.reports domain
    pub rules : IsDomain domain

-- The bundle means the domain, and has this text of a certificate, or none.
abbrev pub MeansDomain : List ℕ → (certificate : Option (List ℕ)) → DomainValue → Type 0
MeansDomain text certificate domain = Means (λ t input. DenotesInput t input certificate) text domain

-- The bundle means the domain, and has no certificate.
abbrev pub MeansUncertifiedDomain : List ℕ → DomainValue → Type 0
MeansUncertifiedDomain text domain = MeansDomain text None domain

-- The files mean the domain.
abbrev pub FilesMeanDomain : List FileText → DomainValue → Type 0
FilesMeanDomain = Means FilesDenoteInput

-- x means a domain of which the property holds.
pub record MeansDomainWhere {X D : Type 0} (Means : X → D → Type 0) (Holds : D → Type 0) (x : X) : Type 0
  where
    pub domain : D
    pub means : Means x domain
    pub holds : Holds domain
