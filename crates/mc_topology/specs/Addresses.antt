-- The addresses of sources and groups in a topology, which are written with dots.
use Rattle.std.specs.Prelude.{ℕ, Bool, List, Option, Some, None, Result, Ok, Err, if◌then◌else◌}
use Rattle.mc_text.specs.Addr.{is_source, is_forwarded_group}
use Rattle.mc_text.specs.AddressReading.{address_of_text}
use Rattle.mc_topology.specs.declared.fault.TopologyFaultKind.{TopologyFaultKind}
use Rattle.mc_topology.specs.declared.fault.TopologyFaultKind.TheVariants.{BadAddress}

-- the address, which has to be there and to pass the test (else BadAddress)
abbrev pub checked_address : (ℕ → Bool) → Option ℕ → Result ℕ TopologyFaultKind
checked_address p None = Err BadAddress
checked_address p (Some address) = if p address then Ok address else Err BadAddress

-- the address that a text writes, of a host that may send (else BadAddress)
unfoldable pub source_address_of : List ℕ → Result ℕ TopologyFaultKind
source_address_of text = checked_address is_source (address_of_text text)

-- the address that a text writes, of a group that routers forward (else BadAddress)
unfoldable pub group_address_of : List ℕ → Result ℕ TopologyFaultKind
group_address_of text = checked_address is_forwarded_group (address_of_text text)
