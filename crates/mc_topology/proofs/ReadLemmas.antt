-- The clauses of `read`, from the result that it computes.
use Rattle.std.proofs.Common.{◌≡◌, ◌≢◌, ℕ, ◌≤◌, Bool, true, false, List, length, None, Result, Ok}
use Rattle.std.proofs.Common.{Err, le-leb, refl, sym, ◌∙◌}
use Rattle.std.specs.Prelude.{IfOk, IsUtf8}
use Rattle.std.specs.Str.{is_utf8}
use Rattle.std.proofs.lemmas.Str.{IsUtf8-from_is_utf8}
use Rattle.toml.specs.Data.{Members}
use Rattle.toml.specs.Parse.{parse_document}
use Rattle.mc_topology.specs.declared.fault.TopologyFault.{TopologyFault}
use Rattle.mc_topology.specs.declared.fault.TopologyFaultKind.TheVariants.{NotToml}
use Rattle.mc_topology.specs.declared.flow.Flow.{Flow}
use Rattle.mc_topology.specs.SectionRows.{RouterRow, InterfaceRow, SourceRow}
use Rattle.mc_topology.specs.Lans.{lans_in}
use Rattle.mc_topology.specs.Routers.{routers_in}
use Rattle.mc_topology.specs.Interfaces.{interfaces_in}
use Rattle.mc_topology.specs.Sources.{sources_in}
use Rattle.mc_topology.specs.Flows.{flows_in}
use Rattle.mc_text.specs.Steps.{◌>>=◌}
use Rattle.mc_topology.specs.Answer.{out_of_memory}
use Rattle.mc_topology.specs.Bounds.{is_bounded}
use Rattle.mc_topology.specs.Reading.{parse_toml, document_of, check_version, topology_in}
use Rattle.mc_topology.specs.Reading.{sources_and_flows_in, interfaces_and_flows_in, parse_topology}
use Rattle.mc_topology.specs.Denotation.{DenotesTopology}
use Rattle.mc_topology.specs.Topology.{TopologyValue}
use Rattle.mc_topology.proofs.Steps.{ok_injective}
use Rattle.mc_topology.proofs.TopologyTexts.{parse_unbounded_topology-from_denotes}
use Rattle.mc_topology.proofs.TopologyTexts.{parse_topology-denotes, parse_topology-from_denotes}

-- a text that is read denotes what is read
denotes-from_parse_topology : (text : List ℕ) (r : Result TopologyValue TopologyFault)
    → r ≡ parse_topology text
    → IfOk r (DenotesTopology text)
denotes-from_parse_topology text (Ok t) gives = (parse_topology-denotes text t (sym gives)).denotes
denotes-from_parse_topology text (Err fault) gives = tt

-- the same of a result that `Memory` may replace
pub denotes-unless_out_of_memory : (text : List ℕ) (r : Result TopologyValue TopologyFault)
    → (r ≢ Err out_of_memory → r ≡ parse_topology text) → IfOk r (DenotesTopology text)
denotes-unless_out_of_memory text (Ok t) gives =
    denotes-from_parse_topology text (Ok t) (gives (λ e. absurd cc))
denotes-unless_out_of_memory text (Err fault) gives = tt

-- a text within the bounds that denotes a topology is read as that, unless memory runs out
pub Ok-unless_out_of_memory : (text : List ℕ) (r : Result TopologyValue TopologyFault)
    → (r ≢ Err out_of_memory → r ≡ parse_topology text) → (t : TopologyValue) → DenotesTopology text t
    → is_bounded text ≡ true → r ≢ Err out_of_memory → r ≡ Ok t
Ok-unless_out_of_memory text r gives t is bounded other =
    gives other ∙ parse_topology-from_denotes text t (record { denotes = is; bounded = bounded })

-- a text denotes one topology at most
pub DenotesTopology-unique : (text : List ℕ) (t u : TopologyValue) → DenotesTopology text t
    → DenotesTopology text u → t ≡ u
DenotesTopology-unique text t u is_t is_u =
    ok_injective {E = TopologyFault} t u (sym (parse_unbounded_topology-from_denotes text t is_t)
    ∙ parse_unbounded_topology-from_denotes text u is_u)

-- ---- refusals

-- by the result of the test for UTF-8
document_of-NotToml_by_cases : (text : List ℕ) (b : Bool) → is_utf8 text ≡ b → length text ≤ 16777216
    → is_bounded text ≡ true
    → (IsUtf8 text → parse_document text ≡ None) → document_of text ≡ Err NotToml
unfolding document_of parse_toml
document_of-NotToml_by_cases text true is few bounded none =
    let read = none (IsUtf8-from_is_utf8 text is) in
    rw (le-leb (length text) 16777216 few, bounded, is, read) refl
document_of-NotToml_by_cases text false is few bounded none =
    rw (le-leb (length text) 16777216 few, bounded, is) refl

-- a text that isn't TOML in UTF-8
pub document_of-NotToml : (text : List ℕ) → length text ≤ 16777216 → is_bounded text ≡ true
    → (IsUtf8 text → parse_document text ≡ None) → document_of text ≡ Err NotToml
document_of-NotToml text few bounded none =
    document_of-NotToml_by_cases text (is_utf8 text) refl few bounded none

-- ---- the sections after the LANs and the routers

-- steps that are done
abbrev ok_topology : TopologyValue → Result TopologyValue TopologyFault
ok_topology t = Ok t

-- of the sources and flows,
abbrev ok_sources_and_flows : List SourceRow → List Flow → Result (List SourceRow × List Flow) TopologyFault
ok_sources_and_flows sources flows = Ok (sources, flows)

-- and of the interfaces with these
abbrev ok_interfaces_and_flows : List InterfaceRow → List SourceRow × List Flow
    → Result (List InterfaceRow × List SourceRow × List Flow) TopologyFault
ok_interfaces_and_flows interfaces sourced = Ok (interfaces, sourced.0, sourced.1)

-- the topology of these sections
abbrev ok_topology_with : List (List ℕ) → List RouterRow → List InterfaceRow × List SourceRow × List Flow
    → Result TopologyValue TopologyFault
ok_topology_with lans routers found =
    Ok (record {
      lans = lans;
      routers = routers;
      interfaces = found.0;
      sources = found.1;
      flows = found.2;
    })

-- the last step, by what it gives
bind-flows : (lans : List (List ℕ)) (routers : List RouterRow) (interfaces : List InterfaceRow)
    (sources : List SourceRow) (r : Result (List Flow) TopologyFault)
    → (r >>= λ (flows : List Flow). ok_topology (record {
      lans = lans;
      routers = routers;
      interfaces = interfaces;
      sources = sources;
      flows = flows;
    }))
    ≡ (((r >>= ok_sources_and_flows sources) >>= ok_interfaces_and_flows interfaces) >>= ok_topology_with lans
    routers)
bind-flows lans routers interfaces sources (Ok flows) = refl
bind-flows lans routers interfaces sources (Err k) = refl

-- what the steps after the LANs and the routers give, by what each of them gives
topology_in-by_cases : (ms : Members) (lans : List (List ℕ)) (routers : List RouterRow)
    (interfaces : Result (List InterfaceRow) TopologyFault)
    (sources : Result (List SourceRow) TopologyFault)
    → check_version ms ≡ Ok tt → lans_in ms ≡ Ok lans → routers_in ms ≡ Ok routers
    → interfaces_in lans routers ms ≡ interfaces → sources_in lans ms ≡ sources
    → topology_in ms ≡ (interfaces_and_flows_in lans routers ms >>= ok_topology_with lans routers)
unfolding topology_in interfaces_and_flows_in sources_and_flows_in
topology_in-by_cases ms lans routers (Err k) sources version at_lans at_routers at_interfaces at_sources =
    rw (version, at_lans, at_routers, at_interfaces) refl
topology_in-by_cases ms lans routers (Ok i) (Err k) version at_lans at_routers at_interfaces at_sources =
    rw (version, at_lans, at_routers, at_interfaces, at_sources) refl
topology_in-by_cases ms lans routers (Ok i) (Ok s) version at_lans at_routers at_interfaces at_sources =
    rw (version, at_lans, at_routers, at_interfaces, at_sources)
    (bind-flows lans routers i s (flows_in s ms))

-- a table's topology, from its interfaces, sources and flows
topology_in-split : (ms : Members) (lans : List (List ℕ)) (routers : List RouterRow)
    → check_version ms ≡ Ok tt → lans_in ms ≡ Ok lans → routers_in ms ≡ Ok routers
    → topology_in ms ≡ (interfaces_and_flows_in lans routers ms >>= ok_topology_with lans routers)
topology_in-split ms lans routers version at_lans at_routers =
    topology_in-by_cases ms lans routers (interfaces_in lans routers ms) (sources_in lans ms) version at_lans
    at_routers refl refl

-- the table's topology, where its interfaces, sources and flows are these,
pub topology_in-Ok : (ms : Members) (lans : List (List ℕ)) (routers : List RouterRow)
    (interfaces : List InterfaceRow) (sources : List SourceRow) (flows : List Flow)
    → check_version ms ≡ Ok tt → lans_in ms ≡ Ok lans → routers_in ms ≡ Ok routers
    → interfaces_and_flows_in lans routers ms ≡ Ok (interfaces, sources, flows)
    → topology_in ms ≡ Ok (record {
      lans = lans;
      routers = routers;
      interfaces = interfaces;
      sources = sources;
      flows = flows;
    })
topology_in-Ok ms lans routers interfaces sources flows version at_lans at_routers found =
    topology_in-split ms lans routers version at_lans at_routers ∙ rw found refl

-- or their first fault
pub topology_in-Err : (ms : Members) (lans : List (List ℕ)) (routers : List RouterRow)
    (fault : TopologyFault)
    → check_version ms ≡ Ok tt → lans_in ms ≡ Ok lans → routers_in ms ≡ Ok routers
    → interfaces_and_flows_in lans routers ms ≡ Err fault → topology_in ms ≡ Err fault
topology_in-Err ms lans routers fault version at_lans at_routers found =
    topology_in-split ms lans routers version at_lans at_routers ∙ rw found refl
