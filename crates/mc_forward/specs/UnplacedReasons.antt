-- Why a router's vif is placed on no LAN: the first reason that holds.
use Rattle.std.specs.Prelude.{not, Option, Some, None, if◌then◌else◌}
use Rattle.mc_tables.specs.VifTable.{VifValue, has_device}
use Rattle.mc_forward.specs.declared.unplaced.UnplacedReason.{UnplacedReason}
use Rattle.mc_forward.specs.declared.unplaced.UnplacedReason.TheVariants.{NoVifLine, RegisterVif, Tunnel}
use Rattle.mc_forward.specs.declared.unplaced.UnplacedReason.TheVariants.{NoDevice, OnNoLan}

-- why a vif that has a line in its router's table is placed on no LAN
abbrev pub reason_of_line : VifValue → UnplacedReason
reason_of_line vif =
    if vif.register then RegisterVif
    else if vif.tunnel then Tunnel
    else if not (has_device vif) then NoDevice
    else OnNoLan

-- why a vif is placed on no LAN, by its line in the router's table, if it has one
abbrev pub unplaced_reason : Option VifValue → UnplacedReason
unplaced_reason None = NoVifLine
unplaced_reason (Some vif) = reason_of_line vif
