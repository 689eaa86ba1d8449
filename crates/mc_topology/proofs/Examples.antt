-- A small topology, read by computing the definitions. The text is that of the tests, with
-- the quotes of TOML's literal texts.
use Rattle.std.proofs.Common.{◌≡◌, ℕ, List, [], ◌∷◌, ◌++◌, codes, Ok, refl}
use Rattle.std.specs.Fmt.{digits}
use Rattle.std.specs.Str.{is_utf8, chars}
use Rattle.toml.proofs.OnLiterals.{toml_on_literals}
use Rattle.mc_text.specs.AddressReading.{address_of_text}
use Rattle.mc_text.specs.declared.text.addr.Order.TheVariants.{Big}
use Rattle.mc_topology.specs.Addresses.{source_address_of, group_address_of}
use Rattle.mc_topology.specs.EachRow.{read_rows}
use Rattle.mc_topology.specs.Bounds.{after_byte, with_byte, is_bounded}
use Rattle.mc_topology.specs.Document.{known_table, text_at, number_at, list_at, optional_text_at}
use Rattle.mc_topology.specs.Document.{optional_list_at, rows_at}
use Rattle.mc_topology.specs.Flows.{ttl_of, flow_of, flow_of_values, flow_rows, flows_in}
use Rattle.mc_topology.specs.Interfaces.{interface_of, interface_of_values, interfaces_in}
use Rattle.mc_topology.specs.Lans.{lan_name_of, lan_rows, lans_in}
use Rattle.mc_topology.specs.Names.{is_name, is_device}
use Rattle.mc_topology.specs.Reading.{parse_toml, document_of, check_version, topology_in}
use Rattle.mc_topology.specs.Reading.{parse_topology}
use Rattle.mc_topology.specs.Routers.{order_of, router_of, routers_in}
use Rattle.mc_topology.specs.Sources.{source_of, source_of_values, sources_in}

-- two LANs, a router of big endian between them, and a flow from 10.0.0.5 to 239.1.2.3
abbrev example_text : List ℕ
example_text =
    codes "version = 1\nlans = ['l0', 'l1']\nrouter = [{name = 'r1', order = 'big'}]\n"
    ++ codes "interface = [{router = 'r1', device = 'eth0', lan = 'l0'}, "
    ++ codes "{router = 'r1', device = 'eth1', lan = 'l1'}]\n"
    ++ codes "source = [{address = '10.0.0.5', lan = 'l0'}]\n"
    ++ codes "flow = [{source = '10.0.0.5', group = '239.1.2.3', ttl = 3}]\n"

-- it is read as that
pub parse_topology-example : parse_topology example_text ≡ Ok (record {
  lans = codes "l0" ∷ codes "l1" ∷ [];
  routers = (record { name = codes "r1"; order = Big }) ∷ [];
  interfaces = (record { router = 0; device = codes "eth0"; lan = 0 })
      ∷ (record { router = 0; device = codes "eth1"; lan = 1 }) ∷ [];
  sources = (record { address = 167772165; lan = 0 }) ∷ [];
  flows = (record { source = 167772165; lan = 0; group = 4009820675; ttl = 3 }) ∷ [];
})
unfolding
    toml_on_literals is_utf8 chars digits parse_topology topology_in document_of parse_toml
    after_byte with_byte is_bounded
    check_version lans_in lan_rows lan_name_of
    routers_in router_of order_of interfaces_in interface_of interface_of_values sources_in source_of
    source_of_values flows_in flow_rows flow_of flow_of_values
    ttl_of known_table text_at number_at list_at optional_text_at optional_list_at rows_at is_name
    is_device
    source_address_of group_address_of address_of_text read_rows
parse_topology-example = refl
