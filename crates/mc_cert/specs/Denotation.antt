-- Which certificate a text denotes: the rules of docs/FORMATS.md, section "Certificate", over the
-- value that JSON's reader gives.
use Rattle.std.specs.Prelude.{◌≡◌, ℕ, ◌+◌, ◌≤◌, List, [], ◌∷◌, length, codes, slice_get, IsTrue}
use Rattle.std.specs.Prelude.{IsUtf8, Option, Some, None}
use Rattle.mc_text.specs.Lines.{max_text}
use Rattle.serde_json.specs.Data.{Data, unsigned, number, string, array, object, Items, Members}
use Rattle.serde_json.specs.Find.{get_member}
use Rattle.serde_json.specs.Read.{read}
use Rattle.mc_text.specs.Addr.{dotted}
use Rattle.mc_theory.specs.Nets.{Interface}
use Rattle.mc_theory.specs.Certificates.{Entry}
use Rattle.mc_topology.specs.declared.flow.Flow.{Flow}
use Rattle.mc_topology.specs.Names.{index_of}
use Rattle.mc_topology.specs.SectionRows.{RouterRow}
use Rattle.mc_topology.specs.Lookup.{router_no_of}
use Rattle.mc_topology.specs.Topology.{TopologyValue}
use Rattle.mc_cert.specs.declared.version.Version.{Version}
use Rattle.mc_cert.specs.declared.version.Version.TheVariants.{One, Two}
use Rattle.mc_cert.specs.Certificate.{Tree}
use Rattle.mc_cert.specs.Entries.{entry_keys}
use Rattle.mc_cert.specs.Object.{has_only, rows_in}
use Rattle.mc_cert.specs.Reading.{top_keys}
use Rattle.mc_cert.specs.VersionOne.{flow_keys}
use Rattle.mc_cert.specs.VersionTwo.{shared_flow_keys}

-- ---- objects

-- under the key there is this text
abbrev pub HasText : List ℕ → Members → List ℕ → Type 0
HasText key members text = get_member key members ≡ Some (string text)

-- under the key there is this whole number
abbrev pub HasNumber : List ℕ → Members → ℕ → Type 0
HasNumber key members whole = get_member key members ≡ Some (number (unsigned whole))

-- the value is a list of these rows
abbrev pub AreRows : Data → List Data → Type 0
AreRows value rows = (items : Items) × (value ≡ array items) × (rows ≡ rows_in items)

-- under the key there is a list of these rows
abbrev pub HasRows : List ℕ → Members → List Data → Type 0
HasRows key members rows = (value : Data) × (get_member key members ≡ Some value) × AreRows value rows

-- the value is an object with these members, and with no other keys than the known ones
pub record IsObject (known : List (List ℕ)) (value : Data) (ms : Members) : Type 0 where
  pub members : value ≡ object ms
  pub keys : IsTrue (has_only known ms)

-- each row denotes its value, in order; the first row has this number
abbrev pub EachDenotes : {X : Type 0} → (ℕ → Data → X → Type 0) → ℕ → List Data → List X → Type 0
EachDenotes Denotation row_number [] [] = Unit {0}
EachDenotes Denotation row_number [] (x ∷ xs) = ⊥
EachDenotes Denotation row_number (value ∷ values) [] = ⊥
EachDenotes Denotation row_number (value ∷ values) (x ∷ xs) = Denotation row_number value x
    × EachDenotes Denotation (row_number + 1) values xs

-- ---- entries

-- two values denote an interface: the name of a router, and the number of one of its vifs, up to 31
pub record DenotesInterface (routers : List RouterRow) (router_value vif_value : Data)
    (interface : Interface) : Type 0 where
  pub name : List ℕ
  pub router_text : router_value ≡ string name
  pub router : router_no_of name routers ≡ Some interface.0
  pub vif : vif_value ≡ number (unsigned interface.1)
  pub vif_to : interface.1 ≤ 31

-- two values denote a forwarder: there are both, and they denote its interface, or neither, and
-- there is no forwarder
abbrev pub DenotesForwarder : List RouterRow → Option Data → Option Data → Option Interface → Type 0
DenotesForwarder routers None None forwarder = forwarder ≡ None
DenotesForwarder routers None (Some value) forwarder = ⊥
DenotesForwarder routers (Some value) None forwarder = ⊥
DenotesForwarder routers (Some router_value) (Some vif_value) forwarder = (interface : Interface)
    × (forwarder ≡ Some interface) × DenotesInterface routers router_value vif_value interface

-- a value denotes an entry: an object of a LAN's name, a need, a rank, and, if there is one, a
-- forwarder
pub record DenotesEntry (topology : TopologyValue) (value : Data) (entry : Entry) : Type 0 where
  pub members : Members
  pub lan_name : List ℕ
  pub is_object : IsObject entry_keys value members
  pub lan_text : HasText (codes "lan") members lan_name
  pub lan : index_of lan_name topology.lans ≡ Some entry.lan
  pub need : HasNumber (codes "need") members entry.need
  pub need_from : 1 ≤ entry.need
  pub need_to : entry.need ≤ 255
  pub rank : HasNumber (codes "rank") members entry.rank
  pub rank_to : entry.rank ≤ 255
  pub forwarder : DenotesForwarder topology.routers (get_member (codes "router") members)
      (get_member (codes "vif") members) entry.forwarder

-- rows denote the entries of a tree: at most 1,024, in any order
pub record DenotesEntries (topology : TopologyValue) (rows : List Data) (tree : Tree) : Type 0 where
  pub few : length rows ≤ 1024
  pub each : EachDenotes (λ _. DenotesEntry topology) 0 rows tree

-- ---- version 1

-- a value denotes the tree of the topology's flow with this number: an object of the flow's group,
-- its source and the entries
pub record DenotesFlow (topology : TopologyValue) (flow_number : ℕ) (value : Data)
    (tree : Tree) : Type 0 where
  pub flow : Flow
  pub members : Members
  pub rows : List Data
  pub listed : slice_get topology.flows flow_number ≡ Some flow
  pub is_object : IsObject flow_keys value members
  pub group : HasText (codes "group") members (dotted flow.group)
  pub source : HasText (codes "source") members (dotted flow.source)
  pub list : HasRows (codes "reached") members rows
  pub entries : DenotesEntries topology rows tree

-- an object denotes a tree for each flow of the topology: it has an object for each of them, in
-- order
pub record DenotesVersionOne (topology : TopologyValue) (members : Members)
    (flows : List Tree) : Type 0 where
  pub rows : List Data
  pub list : HasRows (codes "flows") members rows
  pub count : length rows ≡ length topology.flows
  pub each : EachDenotes (DenotesFlow topology) 0 rows flows

-- ---- version 2

-- a value denotes a tree: a list of its entries
pub record DenotesTree (topology : TopologyValue) (value : Data) (tree : Tree) : Type 0 where
  pub rows : List Data
  pub list : AreRows value rows
  pub entries : DenotesEntries topology rows tree

-- a value denotes the tree of the topology's flow with this number: an object of the flow's group,
-- its source and the number of the tree
pub record DenotesSharedFlow (topology : TopologyValue) (trees : List Tree) (flow_number : ℕ)
    (value : Data) (entries : Tree) : Type 0 where
  pub flow : Flow
  pub members : Members
  pub number : ℕ
  pub listed : slice_get topology.flows flow_number ≡ Some flow
  pub is_object : IsObject shared_flow_keys value members
  pub group : HasText (codes "group") members (dotted flow.group)
  pub source : HasText (codes "source") members (dotted flow.source)
  pub tree_number : HasNumber (codes "tree") members number
  pub tree : slice_get trees number ≡ Some entries

-- an object denotes a tree for each flow of the topology: it has at most 4,096 trees, of which some
-- may be equal and some that of no flow, and an object for each flow, in order
pub record DenotesVersionTwo (topology : TopologyValue) (members : Members)
    (flows : List Tree) : Type 0 where
  pub rows : List Data
  pub tree_rows : List Data
  pub trees : List Tree
  pub list : HasRows (codes "flows") members rows
  pub count : length rows ≡ length topology.flows
  pub tree_list : HasRows (codes "trees") members tree_rows
  pub few_trees : length tree_rows ≤ 4096
  pub each_tree : EachDenotes (λ _. DenotesTree topology) 0 tree_rows trees
  pub each : EachDenotes (DenotesSharedFlow topology trees) 0 rows flows

-- ---- the text

-- the number of a version
abbrev pub version_no : Version → ℕ
version_no One = 1
version_no Two = 2

-- an object of a version denotes a tree for each flow of the topology
abbrev pub DenotesVersion : Version → TopologyValue → Members → List Tree → Type 0
DenotesVersion One = DenotesVersionOne
DenotesVersion Two = DenotesVersionTwo

-- a text denotes a certificate: it has at most 16,777,216 bytes, is UTF-8, and JSON's reader
-- accepts it as an object of one of the two versions that denotes the certificate's trees
pub record DenotesCertificate (topology : TopologyValue) (text : List ℕ) (flows : List Tree) : Type 0 where
  pub document : Members
  pub version : Version
  pub few : length text ≤ max_text
  pub utf8 : IsUtf8 text
  pub reads : read text ≡ Some (object document)
  pub version_number : HasNumber (codes "version") document (version_no version)
  pub keys : IsTrue (has_only (top_keys version) document)
  pub denotes : DenotesVersion version topology document flows
