-- Tables of a router that keep what the flows need of the cache, and the facts of a domain that are
-- all that its answers rest on.
use Rattle.std.specs.Prelude.{◌≡◌, ℕ, List, [], ◌∷◌, map, Option, Some}
use Rattle.mc_tables.specs.ListedRows.{IsListedPart}
use Rattle.mc_tables.specs.VifTable.{VifValue}
use Rattle.mc_topology.specs.Topology.{TopologyValue}
use Rattle.mc_topology.specs.declared.flow.Flow.{Flow}
use Rattle.mc_theory.specs.Nets.{Net}
use Rattle.mc_forward.specs.Domains.{TablesValue, DomainValue, net_of, vif_of}

-- the source and the group of each flow
abbrev pub flow_pairs : List Flow → List (ℕ × ℕ)
flow_pairs flows = map (λ flow. (flow.source, flow.group)) flows

-- The part has all vifs of the whole tables, and of the cache what the flows need.
pub record IsListedPartOfTables (flows : List Flow) (part whole : TablesValue) : Type 0 where
  pub vifs : part.vifs ≡ whole.vifs
  pub cache : IsListedPart (Some (flow_pairs flows)) part.cache whole.cache

-- the lists have as many items, and R holds of the two at each place
abbrev pub Pairwise : {A B : Type 0} → (A → B → Type 0) → List A → List B → Type 0
Pairwise R [] [] = Unit {0}
Pairwise R (x ∷ xs) (y ∷ ys) = R x y × Pairwise R xs ys
Pairwise R _ _ = ⊥

-- The facts of a domain: its topology, the net of each flow, and each router's vifs.
pub record DomainFacts : Type 0 where
  pub topology : TopologyValue
  pub nets : (flow : ℕ) → Net
  pub vifs : (router vif : ℕ) → Option VifValue

-- the facts of a domain
abbrev pub facts : DomainValue → DomainFacts
facts domain = record { topology = domain.topology; nets = net_of domain; vifs = vif_of domain.vifs }
