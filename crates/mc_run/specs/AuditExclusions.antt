-- What an audit with excluded routers says of the whole domain. `AreFoundInWhole` is the relation to trust: a
-- second copy or a stray that is found without the tables of some routers is a fault whatever these have, so
-- that the flow isn't right in the whole domain either.
use Rattle.std.specs.Prelude.{◌≡◌, ◌≤◌, ◌⊎◌, ℕ, Bool, List}
use Rattle.mc_files.specs.Files.{FileText}
use Rattle.mc_theory.specs.Certificates.{IsRight}
use Rattle.mc_theory.specs.ExcludedRouters.{IsSecondCopyOrStray}
use Rattle.mc_forward.specs.Domains.{DomainValue, net_of, ttl_of}
use Rattle.mc_replay.specs.FindingValues.{finding_value}
use Rattle.mc_replay.specs.declared.travel.Travel.{Travel}
use Rattle.mc_maker.specs.Examined.{IsFirstPickTravel}
use Rattle.mc_explain.specs.ExplanationValues.{ExplanationValue}
use Rattle.mc_input.specs.Meaning.{FilesMeanDomain}
use Rattle.mc_cli.specs.declared.audit_options.AuditOptions.{AuditOptions}
use Rattle.mc_run.specs.AuditClaims.{HasLinesOfEachFlow, SaysYesOf, finding_lines}
use Rattle.mc_run.specs.AuditedFiles.{AuditedValue, LeftOutValue, MeansAuditedWhere}

-- The lines give the finding of the flow, and a second copy or a stray is a fault of the whole domain.
pub record IsFoundInWhole (audited : AuditedValue) (options : AuditOptions) (files : List FileText) (flow : ℕ)
    (lines : List ℕ) : Type 0 where
  pub ttl : ℕ
  pub travel : Travel
  pub explanation : ExplanationValue
  -- The finding is that of a packet with a TTL from the flow's own to 255,
  pub least : ttl_of audited.domain flow ≤ ttl
  pub greatest : ttl ≤ 255
  -- in whose travel the first waiting copy is handled each time.
  pub runs : IsFirstPickTravel audited.domain flow ttl travel
  -- The lines give it.
  pub spelled : lines ≡ finding_lines audited options flow ttl travel explanation
  -- If it is a second copy on a LAN, or a stray, then the flow isn't right either in the domain that the
  -- files mean without any exclusion, if they mean one.
  pub wrong : IsSecondCopyOrStray (finding_value travel.finding) → (whole : DomainValue)
      → FilesMeanDomain files whole → ¬ IsRight (net_of whole flow)

-- The lines say yes to the flow, or give such a finding.
abbrev pub SaysYesOrFoundInWhole : AuditedValue → AuditOptions → List FileText → (flow : ℕ) → (lines : List ℕ)
    → Type 0
SaysYesOrFoundInWhole audited options files flow lines =
    SaysYesOf audited options flow lines ⊎ IsFoundInWhole audited options files flow lines

-- The files mean what is audited, and the text has such lines of each flow.
abbrev pub AreFoundInWhole : AuditOptions → (left : LeftOutValue) → List FileText → (all : Bool)
    → (written : List ℕ) → Type 0
AreFoundInWhole options left files all written =
    MeansAuditedWhere options left (λ audited.
    HasLinesOfEachFlow audited options.json all (SaysYesOrFoundInWhole audited options files) written) files
