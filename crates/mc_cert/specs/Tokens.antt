-- What the parts of a certificate are read as at the front of JSON's tokens. Only contracts inside
-- this crate use these definitions.
use Rattle.std.specs.Prelude.{◌≡◌, ℕ, ◌≤◌, IsTrue, List, Option, Some, None, codes, length}
use Rattle.json.specs.Token.{Token}
use Rattle.json.specs.Json.{value}
use Rattle.serde_json.specs.Data.{Data, unsigned, number, string, Members}
use Rattle.serde_json.specs.Find.{get_member}
use Rattle.serde_json.specs.Read.{of_json, converted}
use Rattle.mc_text.specs.Addr.{dotted}
use Rattle.mc_theory.specs.Nets.{Interface}
use Rattle.mc_topology.specs.declared.flow.Flow.{Flow}
use Rattle.mc_topology.specs.Names.{index_of}
use Rattle.mc_topology.specs.SectionRows.{RouterRow}
use Rattle.mc_topology.specs.Lookup.{router_no_of}
use Rattle.mc_topology.specs.Topology.{TopologyValue}
use Rattle.mc_cert.specs.declared.version.Version.{Version}
use Rattle.mc_cert.specs.declared.version.Version.TheVariants.{One, Two}
use Rattle.mc_cert.specs.Certificate.{Tree}
use Rattle.mc_cert.specs.Entries.{entry_keys}
use Rattle.mc_cert.specs.Object.{has_only}
use Rattle.mc_cert.specs.Reading.{top_keys}
use Rattle.mc_cert.specs.VersionOne.{flow_keys}
use Rattle.mc_cert.specs.VersionTwo.{shared_flow_keys}
use Rattle.mc_cert.specs.Denotation.{HasText, HasNumber, AreRows, IsObject, EachDenotes, DenotesFlow}
use Rattle.mc_cert.specs.Denotation.{DenotesTree, version_no, DenotesVersion}
use Rattle.std.specs.Prelude.{slice_get}

-- ---- values

-- the tokens begin with this value, which nests at most `levels` deep, and `rest` comes after it
pub record Reads (levels : ℕ) (tokens : List Token) (item : Data) (rest : List Token) : Type 0 where
  pub read : (depth : ℕ) → levels ≤ depth → converted of_json (value depth tokens) ≡ Some (item, rest)

-- the tokens begin with a value of which `Holds` is true, and `rest` comes after it
abbrev pub ReadsTo : ℕ → List Token → (Data → Type 0) → List Token → Type 0
ReadsTo levels tokens Holds rest = (value : Data) × Reads levels tokens value rest × Holds value

-- the tokens begin with a text or a number that means this, and `rest` comes after it
abbrev pub ReadsAs : {X : Type 0} → (X → Data → Type 0) → List Token → List Token → X → Type 0
ReadsAs Means tokens rest x = ReadsTo 0 tokens (Means x) rest

-- the value is the name of the LAN with this number
abbrev pub IsLanName : List (List ℕ) → ℕ → Data → Type 0
IsLanName lans lan value = (name : List ℕ) × (value ≡ string name) × (index_of name lans ≡ Some lan)

-- the value is the name of the router with this number
abbrev pub IsRouterName : List RouterRow → ℕ → Data → Type 0
IsRouterName routers router value =
    (name : List ℕ) × (value ≡ string name) × (router_no_of name routers ≡ Some router)

-- the value is this whole number, which is from `low` to `high`
pub record IsWhole (low high meant : ℕ) (value : Data) : Type 0 where
  pub whole : value ≡ number (unsigned meant)
  pub from : low ≤ meant
  pub to : meant ≤ high

-- the value is the text of an address
abbrev pub IsAddress : ℕ → Data → Type 0
IsAddress address value = value ≡ string (dotted address)

-- ---- what was read of an object

-- what was read under a key is what its value means; where nothing was read, the key is missing
abbrev pub Field : {X : Type 0} → (X → Data → Type 0) → Option X → Option Data → Type 0
Field Means None found = found ≡ None
Field Means (Some x) found = (value : Data) × (found ≡ Some value) × Means x value

-- an entry's object has these values, as far as its keys are there
pub record HoldsEntry (topology : TopologyValue) (lan need rank router vif : Option ℕ)
    (members : Members) : Type 0 where
  pub keys : IsTrue (has_only entry_keys members)
  pub lan_field : Field (IsLanName topology.lans) lan (get_member (codes "lan") members)
  pub need_field : Field (IsWhole 1 255) need (get_member (codes "need") members)
  pub rank_field : Field (IsWhole 0 255) rank (get_member (codes "rank") members)
  pub router_field : Field (IsRouterName topology.routers) router (get_member (codes "router") members)
  pub vif_field : Field (IsWhole 0 31) vif (get_member (codes "vif") members)

-- the interface of a router and a vif, which are both there or both missing
abbrev pub IsForwarder : Option ℕ → Option ℕ → Option Interface → Type 0
IsForwarder None None forwarder = forwarder ≡ None
IsForwarder None (Some vif) forwarder = ⊥
IsForwarder (Some router) None forwarder = ⊥
IsForwarder (Some router) (Some vif) forwarder = forwarder ≡ Some (router, vif)

-- the object of a flow of version 1 has these values, as far as its keys are there
pub record HoldsFlow (topology : TopologyValue) (group source : Option ℕ) (reached : Option Tree)
    (members : Members) : Type 0 where
  pub keys : IsTrue (has_only flow_keys members)
  pub group_field : Field IsAddress group (get_member (codes "group") members)
  pub reached_field : Field (λ es d. DenotesTree topology d es) reached
      (get_member (codes "reached") members)
  pub source_field : Field IsAddress source (get_member (codes "source") members)

-- the object of a flow of version 2 has these values, as far as its keys are there
pub record HoldsSharedFlow (group source tree : Option ℕ) (members : Members) : Type 0 where
  pub keys : IsTrue (has_only shared_flow_keys members)
  pub group_field : Field IsAddress group (get_member (codes "group") members)
  pub source_field : Field IsAddress source (get_member (codes "source") members)
  pub tree_field : Field (IsWhole 0 4095) tree (get_member (codes "tree") members)

-- ---- lists

-- the value is a list that has for each flow of the topology, in order, a row that denotes the
-- flow's tree
pub record DenotesFlows (topology : TopologyValue) (value : Data) (flows : List Tree) : Type 0 where
  pub rows : List Data
  pub list : AreRows value rows
  pub count : length rows ≡ length topology.flows
  pub each : EachDenotes (DenotesFlow topology) 0 rows flows

-- a value is an object of the group and the source of the topology's flow with this number, and of
-- this number of a tree
pub record DenotesNumber (topology : TopologyValue) (flow_number : ℕ) (value : Data)
    (tree_no : ℕ) : Type 0 where
  pub flow : Flow
  pub members : Members
  pub listed : slice_get topology.flows flow_number ≡ Some flow
  pub is_object : IsObject shared_flow_keys value members
  pub group : HasText (codes "group") members (dotted flow.group)
  pub source : HasText (codes "source") members (dotted flow.source)
  pub tree_number : HasNumber (codes "tree") members tree_no

-- the value is a list that has for each flow of the topology, in order, a row with this number of a
-- tree
pub record DenotesNumbers (topology : TopologyValue) (value : Data) (numbers : List ℕ) : Type 0 where
  pub rows : List Data
  pub list : AreRows value rows
  pub count : length rows ≡ length topology.flows
  pub each : EachDenotes (DenotesNumber topology) 0 rows numbers

-- the value is a list of at most 4,096 rows that denote these trees
pub record DenotesTrees (topology : TopologyValue) (value : Data) (trees : List Tree) : Type 0 where
  pub rows : List Data
  pub list : AreRows value rows
  pub few : length rows ≤ 4096
  pub each : EachDenotes (λ _. DenotesTree topology) 0 rows trees

-- ---- the certificate

-- the object of a certificate of version 1 has these values, as far as its keys are there
pub record HoldsVersionOne (topology : TopologyValue) (version : Option ℕ) (flows : Option (List Tree))
    (members : Members) : Type 0 where
  pub keys : IsTrue (has_only (top_keys One) members)
  pub version_field : Field (IsWhole 1 1) version (get_member (codes "version") members)
  pub flows_field : Field (λ ts d. DenotesFlows topology d ts) flows (get_member (codes "flows") members)

-- the object of a certificate of version 2 has these values, as far as its keys are there
pub record HoldsVersionTwo (topology : TopologyValue) (version : Option ℕ) (numbers : Option (List ℕ))
    (trees : Option (List Tree)) (members : Members) : Type 0 where
  pub keys : IsTrue (has_only (top_keys Two) members)
  pub version_field : Field (IsWhole 2 2) version (get_member (codes "version") members)
  pub flows_field : Field (λ ns d. DenotesNumbers topology d ns) numbers
      (get_member (codes "flows") members)
  pub trees_field : Field (λ ts d. DenotesTrees topology d ts) trees (get_member (codes "trees") members)

-- the members are those of a certificate of this version, and denote these trees of the flows
pub record IsVersion (version : Version) (topology : TopologyValue) (members : Members)
    (flows : List Tree) : Type 0 where
  pub version_number : HasNumber (codes "version") members (version_no version)
  pub keys : IsTrue (has_only (top_keys version) members)
  pub denotes : DenotesVersion version topology members flows

-- the members are those of a certificate of version 1, and denote these trees of the flows
abbrev pub IsVersionOne : TopologyValue → Members → List Tree → Type 0
IsVersionOne = IsVersion One

-- the members are those of a certificate of version 2, and denote these trees of the flows
abbrev pub IsVersionTwo : TopologyValue → Members → List Tree → Type 0
IsVersionTwo = IsVersion Two
