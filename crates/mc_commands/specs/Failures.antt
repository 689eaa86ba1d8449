-- Which faults of a run say that a call of one of its devices failed.
use Rattle.std.specs.Prelude.{◌≡◌, Bool, true, false}
use Rattle.mc_commands.specs.declared.fault.RunFault.{RunFault}
use Rattle.mc_commands.specs.declared.fault.RunFault.TheVariants.{Read, Write}

-- whether the fault says that one call of the input or of the files failed
abbrev pub is_read : RunFault → Bool
is_read Read = true
is_read _ = false

-- whether the fault says that one call of the output failed
abbrev pub is_write : RunFault → Bool
is_write Write = true
is_write _ = false

-- The fault says neither.
abbrev pub IsNoDeviceFault : RunFault → Type 0
IsNoDeviceFault fault = (is_read fault ≡ false) × (is_write fault ≡ false)
