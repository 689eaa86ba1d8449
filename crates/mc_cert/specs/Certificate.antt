-- What a certificate is: for each flow of a topology, in order, a tree, which lists the LANs that
-- the flow's packets reach. An entry is a certificate entry, and not one of a router.
use Rattle.std.specs.Prelude.{◌≡◌, ℕ, ◌<◌, ◌≤◌, All, IfSome, List, [], length, map, Option, Some}
use Rattle.std.specs.Prelude.{None, slice_get, unwrap_or}
use Rattle.mc_theory.specs.Certificates.{Entry}
use Rattle.mc_topology.specs.Topology.{TopologyValue}

-- the certificate entries of one flow: the LANs that its packets reach
abbrev pub Tree : Type 0
Tree = List Entry

-- the tree with this number; the empty one if there is none
abbrev pub tree_at : List Tree → ℕ → Tree
tree_at trees number = unwrap_or (slice_get trees number) []

-- the tree of each flow: the trees themselves, in order, or those with the numbers that the flows
-- have
abbrev pub trees_by_flow : List Tree → Option (List ℕ) → List Tree
trees_by_flow trees None = trees
trees_by_flow trees (Some numbers) = map (tree_at trees) numbers

-- an entry that a text can have: its need is at least 1, and its forwarder's vif at most 31
pub record IsWritableEntry (entry : Entry) : Type 0 where
  pub need : 1 ≤ entry.need
  pub vif : IfSome entry.forwarder (λ forwarder. forwarder.1 ≤ 31)

-- a tree that a text can have: at most 1,024 entries that a text can have
pub record IsWritableTree (tree : Tree) : Type 0 where
  pub few : length tree ≤ 1024
  pub each : All IsWritableEntry tree

-- the rank and the need of an entry are at most 255, as those of every certificate in memory are
pub record HasByteNumbers (entry : Entry) : Type 0 where
  pub rank : entry.rank ≤ 255
  pub need : entry.need ≤ 255

-- the rules of every certificate in memory, by its trees and the numbers of the flows' trees: a
-- text can have the trees, each number is that of a tree, and there are at most 4,096 flows
pub record IsValidCertificate (trees : List Tree) (numbers : Option (List ℕ)) : Type 0 where
  pub lists : All IsWritableTree trees
  pub named : (ns : List ℕ) → numbers ≡ Some ns → All (λ number. number < length trees) ns
  pub few_flows : length (trees_by_flow trees numbers) ≤ 4096

-- the entry's LAN, and its forwarder's router, are the topology's
pub record IsEntryOf (topology : TopologyValue) (entry : Entry) : Type 0 where
  pub lan : entry.lan < length topology.lans
  pub router : IfSome entry.forwarder (λ forwarder. forwarder.0 < length topology.routers)

-- the certificate belongs to the topology: it has as many flows, and its entries are of the
-- topology's LANs and routers
pub record BelongsTo (topology : TopologyValue) (flows : List Tree) : Type 0 where
  pub count : length flows ≡ length topology.flows
  pub entries : All (All (IsEntryOf topology)) flows
