-- The tree of a right flow in JSON, and its number.
use Rattle.std.proofs.Common.{◌≡◌, ℕ, Bool, List, ◌++◌, length, map, Result, Ok, Err, sym, ap, ap₂, ◌∙◌}
use Rattle.std.proofs.Common.{append_assoc}
use Rattle.std.specs.Prelude.{◌==◌, OnOk}
use Rattle.std.proofs.lemmas.List.{length-map}
use Rattle.mc_topology.specs.Topology.{TopologyValue, flow_at}
use Rattle.mc_forward.specs.Domains.{DomainValue}
use Rattle.mc_forward.specs.FlightsInDomain.{FlowOfDomain, net_in}
use Rattle.mc_forward.specs.ListedTables.{facts}
use Rattle.mc_cert.specs.Certificate.{Tree}
use Rattle.mc_cert.specs.Distinct.{tree_number_of, with_tree}
use Rattle.mc_json.specs.FlowData.{right_data}
use Rattle.mc_json.specs.RowData.{lan_data, line_of}
use Rattle.mc_json.specs.TreeKey.{tree_key}
use Rattle.mc_run.specs.AuditObjects.{key_of_tree, right_objects, tree_line, tree_number}
use Rattle.mc_run.specs.AuditPieces.{audited_value}
use Rattle.mc_run.specs.AuditedFiles.{is_whole}
use Rattle.mc_run.specs.declared.audit.audited_domain.AuditedDomain.{AuditedDomain}

-- no router is excluded where there are no names
pub is_whole-no_names : (a : AuditedDomain) → (length a.without.now == 0) ≡ is_whole (audited_value a)
is_whole-no_names a = ap (λ (n : ℕ). n == 0) (sym (length-map a.without.now (λ name. name.now)))

-- the trees with that of a flow, by the flow's view
pub shown_trees-pushed : {A X : Type 0} (d : DomainValue) (flow : ℕ) (view : FlowOfDomain) (es : Tree)
    (printed shown : List Tree) (r : Result A X) → view ≡ record { domain = d; flow = flow }
    → shown ≡ with_tree printed (tree_key (net_in view) es)
    → OnOk r (shown ≡ with_tree printed (key_of_tree (facts d) flow es))
shown_trees-pushed d flow view es printed shown (Err x) is same = tt
shown_trees-pushed d flow view es printed shown (Ok a) is same =
    same ∙ ap (λ (v : FlowOfDomain). with_tree printed (tree_key (net_in v) es)) is

-- the flow's tree, unless it was printed before, and then the flow
pub right_objects-pushed : {A X : Type 0} (d : DomainValue) (whole all : Bool) (flow copies number : ℕ)
    (view : FlowOfDomain) (t : TopologyValue) (es : Tree) (wanted : List ℕ) (printed shown : List Tree)
    (r : Result A X) (old mid new : List ℕ) → view ≡ record { domain = d; flow = flow } → t ≡ d.topology
    → all ≡ whole → copies ≡ length es → shown ≡ with_tree printed (tree_key (net_in view) es)
    → number ≡ tree_number_of shown (tree_key (net_in view) es)
    → mid ≡ old ++ tree_line (facts view.domain) printed view.flow es
    → OnOk r (new ≡ mid ++ line_of (right_data all flow (flow_at t flow) copies number
    (map (lan_data t) wanted)))
    → OnOk r (new ≡ old ++ right_objects whole (facts d) printed flow es wanted)
right_objects-pushed d whole all flow copies number view t es wanted printed shown (Err x) old mid new is same
    wholes count trees is_number tree puts = tt
right_objects-pushed d whole all flow copies number view t es wanted printed shown (Ok a) old mid new is same
    wholes count trees is_number tree puts =
    let line = λ (b : Bool) (u : TopologyValue) (n m : ℕ).
    line_of (right_data b flow (flow_at u flow) n m (map (lan_data u) wanted)) in
    let numbered : number ≡ tree_number (facts d) printed flow es =
    is_number ∙ ap (λ (ts : List Tree). tree_number_of ts (tree_key (net_in view) es)) trees
    ∙ ap (λ (v : FlowOfDomain).
    tree_number_of (with_tree printed (tree_key (net_in v) es)) (tree_key (net_in v) es)) is in
    let begun : mid ≡ old ++ tree_line (facts d) printed flow es =
    tree ∙ ap (λ (v : FlowOfDomain). old ++ tree_line (facts v.domain) printed v.flow es) is in
    puts
    ∙ ap₂ (λ (b : Bool) (u : TopologyValue). mid ++ line b u copies number) wholes same
    ∙ ap₂ (λ (n m : ℕ). mid ++ line whole d.topology n m) count numbered
    ∙ ap (λ (xs : List ℕ). xs ++ line whole d.topology (length es) (tree_number (facts d) printed flow es))
    begun
    ∙ append_assoc old (tree_line (facts d) printed flow es)
    (line whole d.topology (length es) (tree_number (facts d) printed flow es))
