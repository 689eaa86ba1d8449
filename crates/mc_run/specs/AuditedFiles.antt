-- What an audit is of: the domain that the files of a folder mean, without the routers and the groups that
-- are left out. `MeansAudited` is the relation to trust: each statement on an audit speaks of the value that
-- the files mean by it.
use Rattle.std.specs.Prelude.{◌≡◌, ◌==◌, ℕ, Bool, List, length, map}
use Rattle.mc_files.specs.Files.{FileText}
use Rattle.mc_tables.specs.Summary.{SummaryValue}
use Rattle.mc_forward.specs.Domains.{DomainValue}
use Rattle.mc_input.specs.AskedOfFiles.{UnansweredWantsValue, IsAskedOf}
use Rattle.mc_input.specs.ExcludedRouters.{AreRouterNames, files_with_exclusions}
use Rattle.mc_input.specs.Meaning.{FilesMeanDomain, MeansDomainWhere}
use Rattle.mc_input.specs.SummariesOfFiles.{AreSummariesOf}
use Rattle.mc_cli.specs.declared.audit_options.AuditOptions.{AuditOptions}
use Rattle.mc_run.specs.AuditBegin.{excluded_marks}
use Rattle.mc_run.specs.declared.audit.left_out.LeftOut.{LeftOut}

-- What an audit leaves out.
pub record LeftOutValue : Type 0 where
  -- the names of the excluded routers, whose tables are left out
  pub routers : List (List ℕ)
  -- the ignored ranges of groups: what hosts ask for of these is left out
  pub groups : List (ℕ × ℕ)

-- What is audited.
pub record AuditedValue : Type 0 where
  -- the domain, without the excluded routers
  pub domain : DomainValue
  -- the summary of each router's cache
  pub summary : List SummaryValue
  -- what hosts ask for and no flow answers
  pub asked : UnansweredWantsValue
  -- the names of the excluded routers
  pub without : List (List ℕ)
  -- the ignored ranges of groups
  pub ignored : List (ℕ × ℕ)

-- what is left out, as a value
abbrev pub left_out : LeftOut → LeftOutValue
left_out left = record { routers = map (λ name. name.now) left.without.now; groups = left.ignored.now }

-- a mark for each router: whether it is excluded
abbrev pub excluded : AuditedValue → List Bool
excluded audited = excluded_marks audited.domain.topology audited.without

-- whether no router is excluded
abbrev pub is_whole : AuditedValue → Bool
is_whole audited = length audited.without == 0

-- The files mean this domain without what is left out, with these summaries of caches and with what hosts ask
-- for by their lists. The domain's topology has routers of the names that are excluded.
pub record MeansAudited (options : AuditOptions) (left : LeftOutValue) (files : List FileText)
    (audited : AuditedValue) : Type 0 where
  pub means : FilesMeanDomain (files_with_exclusions left.routers files) audited.domain
  pub routers : AreRouterNames audited.domain.topology left.routers
  pub summary : AreSummariesOf options.unlisted (files_with_exclusions left.routers files)
      audited.domain.topology audited.summary
  pub asked : IsAskedOf options.unlisted left.groups (files_with_exclusions left.routers files)
      audited.domain audited.asked
  pub without : audited.without ≡ left.routers
  pub ignored : audited.ignored ≡ left.groups

-- The files mean what is audited, and this holds of it.
abbrev pub MeansAuditedWhere : AuditOptions → (left : LeftOutValue) → (Holds : AuditedValue → Type 0)
    → List FileText → Type 0
MeansAuditedWhere options left Holds = MeansDomainWhere (MeansAudited options left) Holds
