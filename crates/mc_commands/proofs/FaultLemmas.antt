-- The faults that a run returns, by the faults of what it calls.
use Rattle.std.proofs.Common.{◌≡◌, ◌⊎◌, ℕ, true, inl, inr, refl, sym}
use Rattle.std.proofs.Common.{subst}
use Rattle.std.proofs.lemmas.Bool.{false≢true}
use Rattle.mc_bundle.specs.declared.bundle_fault.BundleFault.TheVariants as bundle
use Rattle.mc_igmp.specs.declared.fault.ListFault.{ListFault}
use Rattle.mc_igmp.specs.declared.fault.ListFaultKind.{ListFaultKind}
use Rattle.mc_igmp.specs.declared.fault.ListFaultKind.TheVariants as list
use Rattle.mc_cert.specs.declared.fault.CertFault.{CertFault}
use Rattle.mc_cert.specs.declared.fault.CertFaultKind.{CertFaultKind}
use Rattle.mc_cert.specs.declared.fault.CertFaultKind.TheVariants as certificate
use Rattle.mc_forward.specs.Domains.{DomainValue}
use Rattle.mc_input.specs.ExcludedRouters.{is_possible_for_files_without}
use Rattle.mc_input.specs.declared.fault.InputFault.TheVariants as input
use Rattle.mc_input.specs.declared.source_fault.SourceFault.{SourceFault}
use Rattle.mc_input.specs.declared.source_fault.SourceFault.TheVariants as source
use Rattle.mc_input.specs.declared.exclusion_fault.ExclusionFault.{ExclusionFault}
use Rattle.mc_input.specs.declared.exclusion_fault.ExclusionFault.TheVariants as exclusion
use Rattle.mc_commands.specs.Faults.{IsFaultOfAudit, IsFaultOfCheck, IsFaultOfMake, IsFaultOfReplay}
use Rattle.mc_commands.specs.Faults.{IsFaultOfWants}
use Rattle.mc_commands.specs.ReplayRun.{HasNoTravel}
use Rattle.mc_commands.specs.RunFault.{of_certificate_kind, from_list_fault_kind, from_source_fault}
use Rattle.mc_commands.specs.RunFault.{from_exclusion_fault}
use Rattle.mc_commands.specs.declared.fault.RunFault.{RunFault}
use Rattle.mc_commands.specs.declared.fault.RunFault.TheVariants.{Certificate, Memory, NoSuchFlow, Read}

-- the faults of reading a source
pub is_fault_of_make-source_fault : (fault : SourceFault) → IsFaultOfMake (from_source_fault fault)
is_fault_of_make-source_fault source.Read = tt
is_fault_of_make-source_fault (source.Input (input.Bundle fault)) = tt
is_fault_of_make-source_fault (source.Input (input.Parts place)) = tt
is_fault_of_make-source_fault (source.Input (input.Topology fault)) = tt
is_fault_of_make-source_fault (source.Input (input.Vif part fault)) = tt
is_fault_of_make-source_fault (source.Input (input.Cache part fault)) = tt
is_fault_of_make-source_fault (source.Input (input.Reports part fault)) = tt
is_fault_of_make-source_fault (source.Input input.Memory) = tt

-- a run with a certificate, and one with a flow's number, can return these too
pub is_fault_of_check-make : (fault : RunFault) → IsFaultOfMake fault → IsFaultOfCheck fault
is_fault_of_check-make (Certificate fault) is = tt
is_fault_of_check-make fault is = is

pub is_fault_of_replay-make : (flow : ℕ) (fault : RunFault) → IsFaultOfMake fault → IsFaultOfReplay flow fault
is_fault_of_replay-make flow (NoSuchFlow number) is = absurd is
is_fault_of_replay-make flow fault is = is

-- the faults of a certificate
pub is_fault_of_check-cert_fault : (fault : CertFault) (kind : CertFaultKind)
    → IsFaultOfCheck (of_certificate_kind fault kind)
is_fault_of_check-cert_fault fault certificate.Memory = tt
is_fault_of_check-cert_fault fault kind = tt

-- the faults of a list
pub is_fault_of_wants-list_fault : (fault : ListFault) (kind : ListFaultKind)
    → IsFaultOfWants (from_list_fault_kind fault kind)
is_fault_of_wants-list_fault fault list.Memory = tt
is_fault_of_wants-list_fault fault kind = tt

-- the faults of reading a list
pub is_fault_of_wants-read_or_memory : (fault : RunFault) → (fault ≡ Read) ⊎ (fault ≡ Memory)
    → IsFaultOfWants fault
is_fault_of_wants-read_or_memory fault (inl is) = subst IsFaultOfWants (sym is) tt
is_fault_of_wants-read_or_memory fault (inr is) = subst IsFaultOfWants (sym is) tt

-- why there is no travel
pub is_fault_of_replay-no_travel : (d : DomainValue) (flow : ℕ) (fault : RunFault) → HasNoTravel d flow fault
    → IsFaultOfReplay flow fault
is_fault_of_replay-no_travel d flow fault (inl none) = subst (IsFaultOfReplay flow) (sym none.0) refl
is_fault_of_replay-no_travel d flow fault (inr none) = subst (IsFaultOfReplay flow) (sym none) tt

-- ---- audits

-- the faults of leaving out routers
pub is_fault_of_audit-exclusion_fault : (fault : ExclusionFault) → is_possible_for_files_without fault ≡ true
    → IsFaultOfAudit (from_exclusion_fault fault)
is_fault_of_audit-exclusion_fault (exclusion.NoSuchRouter place) is = tt
is_fault_of_audit-exclusion_fault (exclusion.Source source.Read) is = tt
is_fault_of_audit-exclusion_fault (exclusion.Source (source.Input (input.Bundle bundle.TooLarge))) is = tt
is_fault_of_audit-exclusion_fault (exclusion.Source (source.Input (input.Bundle fault))) is = absurd
    (false≢true is)
is_fault_of_audit-exclusion_fault (exclusion.Source (source.Input (input.Parts place))) is = absurd
    (false≢true is)
is_fault_of_audit-exclusion_fault (exclusion.Source (source.Input (input.Topology fault))) is = tt
is_fault_of_audit-exclusion_fault (exclusion.Source (source.Input (input.Vif part fault))) is = tt
is_fault_of_audit-exclusion_fault (exclusion.Source (source.Input (input.Cache part fault))) is = tt
is_fault_of_audit-exclusion_fault (exclusion.Source (source.Input (input.Reports part fault))) is = tt
is_fault_of_audit-exclusion_fault (exclusion.Source (source.Input input.Memory)) is = tt
