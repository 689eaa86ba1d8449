-- What a text denotes is a valid topology.
use Rattle.std.proofs.Common.{◌≡◌, ℕ, zero, suc, ◌<◌, IsTrue, Bool, true, false, cond, List, []}
use Rattle.std.proofs.Common.{◌∷◌, length, Some, Ok, subst, arith, option_map}
use Rattle.std.specs.Prelude.{◌==◌, slice_get, find}
use Rattle.toml.specs.Data.{Data, Members}
use Rattle.mc_topology.specs.declared.flow.Flow.{Flow}
use Rattle.mc_topology.specs.SectionRows.{RouterRow, InterfaceRow, SourceRow}
use Rattle.mc_topology.specs.Document.{rows_in}
use Rattle.mc_topology.specs.Names.{is_name}
use Rattle.mc_topology.specs.Sources.{lan_of_source}
use Rattle.mc_topology.specs.Reading.{topology_in}
use Rattle.mc_topology.specs.Denotation.{EachDenotes, DenotesLan, DenotesRouter, DenotesInterface}
use Rattle.mc_topology.specs.Denotation.{DenotesSource, DenotesFlow, DenotesDocument, DenotesTopology}
use Rattle.mc_topology.specs.Topology.{TopologyValue, IsValidInterface, IsValidSource, IsValidFlow}
use Rattle.mc_topology.specs.Topology.{IsValidTopology}
use Rattle.mc_topology.proofs.NameLemmas.{index_of-below_length, router_no_of-below_length}
use Rattle.mc_topology.proofs.SectionTexts.{length-EachDenotes}
use Rattle.mc_topology.proofs.TopologyTexts.{topology_in-denotes}

-- ---- sources and flows

-- the LAN of the first source with the address is below a bound, where each source's LAN is
lan_of_source-first_below : (s : SourceRow) (ss : List SourceRow) (address lan most : ℕ) (b : Bool)
    → s.lan < most → (lan_of_source address ss ≡ Some lan → lan < most)
    → option_map (λ (x : SourceRow). x.lan) (cond b (Some s) (find (λ x. x.address == address) ss))
    ≡ Some lan → lan < most
lan_of_source-first_below s ss address lan most true within later e =
    let same : s.lan ≡ lan = cc in
    omega (arith, same, within)
lan_of_source-first_below s ss address lan most false within later e = later e

-- the LAN of a source is one of the LANs
lan_of_source-below_length : (lans : List (List ℕ)) (ds : List Data) (ss : List SourceRow) (address lan : ℕ)
    → EachDenotes (DenotesSource lans) ds ss → lan_of_source address ss ≡ Some lan → lan < length lans
lan_of_source-below_length lans [] [] address lan s e = absurd cc
lan_of_source-below_length lans [] (x ∷ ss) address lan s e = absurd s
lan_of_source-below_length lans (d ∷ ds) [] address lan s e = absurd s
lan_of_source-below_length lans (d ∷ ds) (x ∷ ss) address lan s e =
    lan_of_source-first_below x ss address lan (length lans) (x.address == address)
    (index_of-below_length lans x.lan s.0.lan_name s.0.lan)
    (λ h. lan_of_source-below_length lans ds ss address lan s.1 h) e

-- the row that denotes the value at a place
denoting_row : {X : Type 0} (Denotation : Data → X → Type 0) (ds : List Data) (xs : List X) (n : ℕ) (x : X)
    → EachDenotes Denotation ds xs → slice_get xs n ≡ Some x → (d : Data) × Denotation d x
denoting_row Denotation [] [] n x s e = absurd cc
denoting_row Denotation [] (y ∷ xs) n x s e = absurd s
denoting_row Denotation (d ∷ ds) [] n x s e = absurd s
denoting_row Denotation (d ∷ ds) (y ∷ xs) zero x s e =
    let same : y ≡ x = cc in
    (d, subst (Denotation d) same s.0)
denoting_row Denotation (d ∷ ds) (y ∷ xs) (suc n) x s e = denoting_row Denotation ds xs n x s.1 e

-- what holds of each value that a row denotes holds of all of them
EachDenotes-implies : {X : Type 0} (Denotation : Data → X → Type 0) (Keeps : X → Type 0)
    → ((d : Data) (x : X) → Denotation d x → Keeps x)
    → (ds : List Data) (xs : List X) (n : ℕ) (x : X) → EachDenotes Denotation ds xs
    → slice_get xs n ≡ Some x → Keeps x
EachDenotes-implies Denotation Keeps keeps ds xs n x s e =
    let row = denoting_row Denotation ds xs n x s e in
    keeps row.0 x row.1

-- an interface that a row denotes is valid in the topology
IsValidInterface-from_denotes : (t : TopologyValue) (d : Data) (i : InterfaceRow)
    → DenotesInterface t.lans t.routers d i → IsValidInterface t i
IsValidInterface-from_denotes t d i is =
    record {
      router = router_no_of-below_length t.routers i.router is.router_name is.router;
      device = is.fits;
      lan = index_of-below_length t.lans i.lan is.lan_name is.lan;
    }

-- a source that a row denotes is valid on the LANs
IsValidSource-from_denotes : (lans : List (List ℕ)) (d : Data) (s : SourceRow) → DenotesSource lans d s
    → IsValidSource lans s
IsValidSource-from_denotes lans d s is =
    record {
      is_address = is.is_address;
      may_send = is.may_send;
      lan = index_of-below_length lans s.lan is.lan_name is.lan;
    }

-- a flow that a row denotes is valid on the LANs, as its source is
IsValidFlow-from_denotes : (lans : List (List ℕ)) (sources : List SourceRow) (f : Flow) (d : Data)
    → DenotesFlow sources d f → ((address lan : ℕ) → lan_of_source address sources ≡ Some lan
    → lan < length lans) → IsValidFlow lans f
IsValidFlow-from_denotes lans sources f d is within =
    record {
      lan = within f.source f.lan is.lan;
      is_address = is.is_address;
      may_send = is.may_send;
      is_group = is.is_group;
      ttl_from = is.ttl_from;
      ttl_to = is.ttl_to;
    }

-- ---- the whole

-- what a table denotes is a valid topology,
IsValidTopology-from_document : (ms : Members) (t : TopologyValue) → DenotesDocument ms t → IsValidTopology t
IsValidTopology-from_document ms t is =
    record {
      few_lans = omega (arith, is.lans.few, length-EachDenotes _ _ _ is.lans.each_row);
      few_routers = omega (arith, is.routers.few, length-EachDenotes _ _ _ is.routers.each_row);
      few_interfaces = omega (arith, is.interfaces.few, length-EachDenotes _ _ _ is.interfaces.each_row);
      few_sources = omega (arith, is.sources.few, length-EachDenotes _ _ _ is.sources.each_row);
      some_flow = is.some_flow;
      few_flows = omega (arith, is.flows.few, length-EachDenotes _ _ _ is.flows.each_row);
      lan_names = is.lans.distinct;
      router_names = is.routers.distinct;
      distinct_interfaces = is.interfaces.distinct;
      distinct_sources = is.sources.distinct;
      distinct_flows = is.flows.distinct;
      valid_lan_names = λ n name. EachDenotes-implies DenotesLan (λ (x : List ℕ). IsTrue (is_name x))
          (λ d x lan. lan.fits) (rows_in is.lans.items) t.lans n name is.lans.each_row;
      valid_router_names = λ n r. EachDenotes-implies DenotesRouter
          (λ (x : RouterRow). IsTrue (is_name x.name))
          (λ d x router. router.fits) is.routers.rows t.routers n r is.routers.each_row;
      valid_interfaces = λ n i. EachDenotes-implies (DenotesInterface t.lans t.routers) (IsValidInterface t)
          (IsValidInterface-from_denotes t) is.interfaces.rows t.interfaces n i is.interfaces.each_row;
      valid_sources = λ n s. EachDenotes-implies (DenotesSource t.lans) (IsValidSource t.lans)
          (IsValidSource-from_denotes t.lans) is.sources.rows t.sources n s is.sources.each_row;
      valid_flows =
          λ n f e.
          let row = denoting_row (DenotesFlow t.sources) is.flows.rows t.flows n f is.flows.each_row e in
          IsValidFlow-from_denotes t.lans t.sources f row.0 row.1
          (λ address lan at. lan_of_source-below_length t.lans is.sources.rows t.sources address lan
          is.sources.each_row
          at);
    }

-- and so is what a text denotes,
pub IsValidTopology-from_denotes : (text : List ℕ) (t : TopologyValue) → DenotesTopology text t
    → IsValidTopology t
IsValidTopology-from_denotes text t is = IsValidTopology-from_document is.document t is.denotes

-- and what is read of a table
pub IsValidTopology-from_topology_in : (ms : Members) (t : TopologyValue) → topology_in ms ≡ Ok t
    → IsValidTopology t
IsValidTopology-from_topology_in ms t e = IsValidTopology-from_document ms t (topology_in-denotes ms t e)
