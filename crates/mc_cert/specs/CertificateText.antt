-- The JSON text of a certificate, in version 2 (docs/FORMATS.md, section "Certificate"): compact,
-- on one line without a line feed, the keys of each object in alphabetical order. Names and
-- addresses have no byte that JSON escapes.
use Rattle.std.specs.Prelude.{ℕ, List, [], ◌∷◌, ◌++◌, map, codes, decimal, Option, Some, None}
use Rattle.std.specs.List.{zip}
use Rattle.mc_text.specs.Addr.{dotted}
use Rattle.mc_theory.specs.Nets.{Interface}
use Rattle.mc_theory.specs.Certificates.{Entry}
use Rattle.mc_topology.specs.declared.flow.Flow.{Flow}
use Rattle.mc_topology.specs.Topology.{TopologyValue, lan_name, router_name}
use Rattle.mc_cert.specs.Certificate.{Tree}
use Rattle.mc_cert.specs.Distinct.{distinct_trees, tree_number_of}

-- texts one after another: the separator before the first, and a comma before each other
abbrev pub listed_after : List ℕ → List (List ℕ) → List ℕ
listed_after separator [] = []
listed_after separator (text ∷ texts) = separator ++ text ++ listed_after (codes ",") texts

-- texts one after another, with commas between them
abbrev pub listed : List (List ℕ) → List ℕ
listed = listed_after []

-- the keys of a forwarder with the comma before them, if there is a forwarder
abbrev pub forwarder_text : TopologyValue → Option Interface → List ℕ
forwarder_text topology None = []
forwarder_text topology (Some interface) =
    codes ",\"router\":\"" ++ router_name topology interface.0 ++ codes "\",\"vif\":" ++ decimal interface.1

-- the object of an entry
abbrev pub entry_text : TopologyValue → Entry → List ℕ
entry_text topology entry =
    codes "{\"lan\":\"" ++ lan_name topology entry.lan ++ codes "\",\"need\":" ++ decimal entry.need
    ++ codes ",\"rank\":" ++ decimal entry.rank
    ++ forwarder_text topology entry.forwarder ++ codes "}"

-- the list of a tree's entries
abbrev pub tree_text : TopologyValue → Tree → List ℕ
tree_text topology tree = codes "[" ++ listed (map (entry_text topology) tree) ++ codes "]"

-- the object of a flow of the topology, and the number of its tree
abbrev pub flow_text : Flow → ℕ → List ℕ
flow_text flow tree_no =
    codes "{\"group\":\"" ++ dotted flow.group ++ codes "\",\"source\":\"" ++ dotted flow.source
    ++ codes "\",\"tree\":" ++ decimal tree_no
    ++ codes "}"

-- the objects of flows, with the numbers of their trees
abbrev pub flow_texts : List Flow → List ℕ → List (List ℕ)
flow_texts flows tree_numbers = map (λ flow. flow_text flow.0 flow.1) (zip flows tree_numbers)

-- the text of these trees and of the topology's flows, which have these numbers of their trees
abbrev pub version_two_text : TopologyValue → List ℕ → List Tree → List ℕ
version_two_text topology tree_numbers trees =
    codes "{\"flows\":[" ++ listed (flow_texts topology.flows tree_numbers) ++ codes "],\"trees\":["
    ++ listed (map (tree_text topology) trees)
    ++ codes "],\"version\":2}"

-- the text of a certificate, which has each distinct tree once, in the order of first use
abbrev pub certificate_json : TopologyValue → List Tree → List ℕ
certificate_json topology flows = version_two_text topology
    (map (tree_number_of (distinct_trees flows)) flows)
    (distinct_trees flows)
