-- Which faults say something of a bundle's text, and which of the input that it is read from.
use Rattle.mc_bundle.specs.declared.bundle_fault.BundleFault.{BundleFault}
use Rattle.mc_bundle.specs.declared.bundle_fault.BundleFault.TheVariants as faults

-- the fault says that the text is no bundle
abbrev pub IsFramingFault : BundleFault → Type 0
IsFramingFault faults.Read = ⊥
IsFramingFault faults.Memory = ⊥
IsFramingFault faults.Write = ⊥
IsFramingFault faults.Failed = ⊥
IsFramingFault fault = Unit {0}

-- the fault says that the input's bytes are no bundle, or that reading them failed
abbrev pub IsInputFault : BundleFault → Type 0
IsInputFault faults.Read = Unit {0}
IsInputFault fault = IsFramingFault fault
