use Rattle.mc_topology.proofs.InterfaceLemmas.{IsIn-from_lan_of_interface, lan_of_interface-listed_row}
use Rattle.mc_topology.proofs.InterfaceLemmas.{interface_row_of}
use Rattle.mc_topology.proofs.laws.interfaces_are_found_by_router_and_device.Goals as goal

-- A look-up finds a row that is listed; and of rows with one router and device there is but one, so
-- that it finds any that is.
pub returns : goal.returns
returns c =
    λ t router lan device is. (
      λ e. IsIn-from_lan_of_interface t.interfaces router device lan e,
      λ found. lan_of_interface-listed_row t.interfaces found.0
          (interface_row_of router device lan) is.distinct_interfaces found.1,
    )
