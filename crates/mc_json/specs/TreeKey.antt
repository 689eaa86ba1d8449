-- Which trees are written as one tree in JSON (docs/FORMATS.md, "What `audit --json` writes").
use Rattle.std.specs.Prelude.{ℕ, List, ◌++◌, map, Option, Some, None}
use Rattle.mc_theory.specs.Certificates.{Entry}
use Rattle.mc_theory.specs.Nets.{Interface, Net, Row}
use Rattle.mc_shown.specs.RowText.{of_entry_or}

-- the interface at which a router takes the packets, by its row; none for a row without an incoming vif
abbrev pub incoming_interface : (router : ℕ) → Row → Option Interface
incoming_interface router row = of_entry_or None (λ incoming pairs. Some (router, incoming)) row

-- the interface at which the router of a sending interface takes the packets; none for the source
abbrev pub taking_interface : Net → Option Interface → Option Interface
taking_interface net None = None
taking_interface net (Some interface) = incoming_interface interface.0 (net.row interface.0)

-- an entry with that interface in place of the one that sends
abbrev pub taking_entry : Net → Entry → Entry
taking_entry net entry = record {
  lan = entry.lan;
  rank = entry.rank;
  need = entry.need;
  forwarder = taking_interface net entry.forwarder;
}

-- what is the same of trees that are one: their entries, and the interfaces at which their routers take the
-- packets
abbrev pub tree_key : Net → List Entry → List Entry
tree_key net entries = entries ++ map (taking_entry net) entries
