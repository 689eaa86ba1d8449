-- What a text denotes belongs to the topology.
use Rattle.std.proofs.Common.{◌≡◌, ℕ, zero, suc, ◌<◌, All, List, [], ◌∷◌, length}
use Rattle.std.proofs.Common.{Some, option_map, sym, ◌∙◌, arith}
use Rattle.std.specs.Prelude.{slice_get}
use Rattle.serde_json.specs.Data.{Data, Members}
use Rattle.mc_theory.specs.Certificates.{Entry}
use Rattle.mc_topology.specs.SectionRows.{RouterRow}
use Rattle.mc_topology.specs.Topology.{TopologyValue}
use Rattle.mc_topology.proofs.NameLemmas.{index_of-below_length, router_name-router_no_of}
use Rattle.mc_cert.specs.declared.version.Version.{Version}
use Rattle.mc_cert.specs.declared.version.Version.TheVariants.{One, Two}
use Rattle.mc_cert.specs.Certificate.{Tree, IsEntryOf, BelongsTo}
use Rattle.mc_cert.specs.Denotation.{DenotesEntry, DenotesEntries, DenotesFlow, DenotesTree}
use Rattle.mc_cert.specs.Denotation.{DenotesSharedFlow, DenotesVersion, DenotesCertificate}
use Rattle.mc_cert.proofs.StoredTrees.{All-at_number}
use Rattle.mc_cert.proofs.CertificateParts.{length-EachDenotes, All-from_EachDenotes}
use Rattle.mc_cert.proofs.CertificateParts.{IfSome-from_DenotesForwarder}

-- a router that has a name is one of the routers
router_with_name-below_length : (routers : List RouterRow) (router : ℕ) (name : List ℕ)
    → option_map (λ r. r.name) (slice_get routers router) ≡ Some name → router < length routers
router_with_name-below_length [] router name e = absurd cc
router_with_name-below_length (r ∷ routers) zero name e = omega arith
router_with_name-below_length (r ∷ routers) (suc router) name e =
    omega (arith, router_with_name-below_length routers router name e)

-- a LAN or a router that was found by its name is one of the topology's
IsEntryOf-from_denotes : (t : TopologyValue) (d : Data) (e : Entry) → DenotesEntry t d e → IsEntryOf t e
IsEntryOf-from_denotes t d e is = record {
  lan = index_of-below_length t.lans e.lan is.lan_name is.lan;
  router = IfSome-from_DenotesForwarder (λ i. i.0 < length t.routers) t.routers
      (λ d v i at. router_with_name-below_length t.routers i.0 at.name
      (router_name-router_no_of t.routers i.0 at.name at.router)) _ _ e.forwarder is.forwarder;
}

-- so it is of each entry of a tree
IsEntryOf-all_from_denotes : (t : TopologyValue) (rows : List Data) (es : Tree) → DenotesEntries t rows es
    → All (IsEntryOf t) es
IsEntryOf-all_from_denotes t rows es are = All-from_EachDenotes (λ _. DenotesEntry t) (IsEntryOf t)
    (λ _ d e is. IsEntryOf-from_denotes t d e is) 0 rows es are.each

-- There is a tree for each flow, since rows and flows are as many, and each entry is of the topology.
BelongsTo-from_version : (version : Version) (t : TopologyValue) (ms : Members) (flows : List Tree)
    → DenotesVersion version t ms flows → BelongsTo t flows
BelongsTo-from_version One t ms flows is =
    record {
      count = sym (length-EachDenotes (DenotesFlow t) 0 is.rows flows is.each) ∙ is.count;
      entries = All-from_EachDenotes (DenotesFlow t) (All (IsEntryOf t))
          (λ _ d es f. IsEntryOf-all_from_denotes t f.rows es f.entries) 0 is.rows flows is.each;
    }
BelongsTo-from_version Two t ms flows is =
    let trees = All-from_EachDenotes (λ _. DenotesTree t) (All (IsEntryOf t))
    (λ _ d es tree. IsEntryOf-all_from_denotes t tree.rows es tree.entries) 0 is.tree_rows is.trees
    is.each_tree in
    record {
      count = sym (length-EachDenotes (DenotesSharedFlow t is.trees) 0 is.rows flows is.each) ∙ is.count;
      entries = All-from_EachDenotes (DenotesSharedFlow t is.trees) (All (IsEntryOf t))
          (λ _ d es f. All-at_number (All (IsEntryOf t)) is.trees f.number es trees f.tree) 0 is.rows flows
          is.each;
    }

-- a denoted certificate belongs to the topology
pub BelongsTo-from_denotes : (t : TopologyValue) (text : List ℕ) (flows : List Tree)
    → DenotesCertificate t text flows → BelongsTo t flows
BelongsTo-from_denotes t text flows is = BelongsTo-from_version is.version t is.document flows is.denotes
