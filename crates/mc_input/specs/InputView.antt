-- What the code has read from a bundle or from files, as values of Input.
use Rattle.std.specs.Prelude.{ℕ, List, Option, Vec, option_map}
use Rattle.std.specs.declared.alloc.Global.{Global}
use Rattle.mc_igmp.specs.declared.record.Record.{Record}
use Rattle.mc_topology.specs.Topology.{TopologyValue}
use Rattle.mc_forward.specs.Domains.{TablesValue}
use Rattle.mc_input.specs.Input.{InputValue}

-- the input of a topology, its routers' tables and its LANs' reports
abbrev pub input_with : TopologyValue → List TablesValue → List (List Record) → InputValue
input_with topology tables reports = record { topology = topology; tables = tables; reports = reports }

-- the text of the certificate, if there is one
abbrev pub certificate_text : Option (Vec ℕ Global) → Option (List ℕ)
certificate_text text = option_map (λ bytes. bytes.items) text
