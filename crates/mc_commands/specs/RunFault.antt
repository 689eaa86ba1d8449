-- The faults of the crates below as a run's own faults.
use Rattle.mc_bundle.specs.declared.io.input_bytes.ReadFault.{ReadFault}
use Rattle.mc_bundle.specs.declared.io.input_bytes.ReadFault.TheVariants as reading
use Rattle.mc_igmp.specs.declared.fault.ListFault.{ListFault}
use Rattle.mc_igmp.specs.declared.fault.ListFaultKind.{ListFaultKind}
use Rattle.mc_igmp.specs.declared.fault.ListFaultKind.TheVariants as list
use Rattle.mc_cert.specs.declared.fault.CertFault.{CertFault}
use Rattle.mc_cert.specs.declared.fault.CertFaultKind.{CertFaultKind}
use Rattle.mc_cert.specs.declared.fault.CertFaultKind.TheVariants as certificate
use Rattle.mc_input.specs.declared.fault.InputFault.{InputFault}
use Rattle.mc_input.specs.declared.fault.InputFault.TheVariants as input
use Rattle.mc_input.specs.declared.source_fault.SourceFault.{SourceFault}
use Rattle.mc_input.specs.declared.source_fault.SourceFault.TheVariants as source
use Rattle.mc_input.specs.declared.exclusion_fault.ExclusionFault.{ExclusionFault}
use Rattle.mc_input.specs.declared.exclusion_fault.ExclusionFault.TheVariants as exclusion
use Rattle.mc_commands.specs.declared.fault.RunFault.{RunFault}
use Rattle.mc_commands.specs.declared.fault.RunFault.TheVariants.{Bundle, Parts, Topology, Vif, Cache}
use Rattle.mc_commands.specs.declared.fault.RunFault.TheVariants.{PartReports, Reports, Certificate}
use Rattle.mc_commands.specs.declared.fault.RunFault.TheVariants.{NoSuchRouter, Read, Memory}

-- a fault of reading an input
abbrev pub from_read_fault : ReadFault → RunFault
from_read_fault reading.Read = Read
from_read_fault reading.Memory = Memory

-- a fault of a report list, by its kind: lack of memory is the run's own, and every other fault is the list's
abbrev pub from_list_fault_kind : ListFault → ListFaultKind → RunFault
from_list_fault_kind fault list.Memory = Memory
from_list_fault_kind fault _ = Reports fault

-- a fault of a report list
abbrev pub from_list_fault : ListFault → RunFault
from_list_fault fault = from_list_fault_kind fault fault.kind

-- a fault of a bundle's content
abbrev pub from_input_fault : InputFault → RunFault
from_input_fault (input.Bundle fault) = Bundle fault
from_input_fault (input.Parts place) = Parts place
from_input_fault (input.Topology fault) = Topology fault
from_input_fault (input.Vif part fault) = Vif part fault
from_input_fault (input.Cache part fault) = Cache part fault
from_input_fault (input.Reports part fault) = PartReports part fault
from_input_fault input.Memory = Memory

-- a fault of a bundle or of a folder's files
abbrev pub from_source_fault : SourceFault → RunFault
from_source_fault (source.Input fault) = from_input_fault fault
from_source_fault source.Read = Read

-- a fault of a folder's files without the excluded routers
abbrev pub from_exclusion_fault : ExclusionFault → RunFault
from_exclusion_fault (exclusion.Source fault) = from_source_fault fault
from_exclusion_fault (exclusion.NoSuchRouter place) = NoSuchRouter place

-- a fault of a certificate, by its kind: lack of memory is the run's own, and every other fault is the
-- certificate's
abbrev pub of_certificate_kind : CertFault → CertFaultKind → RunFault
of_certificate_kind fault certificate.Memory = Memory
of_certificate_kind fault _ = Certificate fault

-- a fault of a certificate
abbrev pub from_cert_fault : CertFault → RunFault
from_cert_fault fault = of_certificate_kind fault fault.kind
