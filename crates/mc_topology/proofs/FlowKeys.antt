-- Flows that a map keeps by source and group.
use Rattle.std.proofs.Common.{◌≡◌, ℕ, Bool, false, ◌&&◌, List, [], ◌∷◌, ◌++◌, map}
use Rattle.std.proofs.Common.{is_some, refl, sym, ap, ◌∙◌}
use Rattle.std.specs.Prelude.{◌==◌}
use Rattle.std.specs.List.{list_any}
use Rattle.std.specs.Map.{lookup, keys_of, values_of}
use Rattle.std.proofs.lemmas.List.{map-append}
use Rattle.indexmap.specs.IndexMap.{IndexMap, insert_entry}
use Rattle.indexmap.proofs.CallerLemmas.{insert_entry-new}
use Rattle.mc_topology.specs.declared.flow.Flow.{Flow}
use Rattle.mc_topology.specs.Flows.{has_flow}
use Rattle.mc_topology.specs.Topology.{flow_key}
use Rattle.mc_text.proofs.StepLemmas.{None-from_is_some_false}
use Rattle.mc_topology.proofs.Keyed.{nat_eq-flip, list_any-map_row, is_some_lookup-any_row}

-- two pairs of a source and a group are the same
abbrev pub same_pair : ℕ × ℕ → ℕ × ℕ → Bool
same_pair x y = (x.0 == y.0) && (x.1 == y.1)

-- a test of a flow's source and group is a test of its key
same_pair-flow_key : (source group : ℕ) (f : Flow)
    → ((f.source == source) && (f.group == group)) ≡ same_pair (source, group) (flow_key f)
same_pair-flow_key source group f = rw (nat_eq-flip f.source source, nat_eq-flip f.group group) refl

-- a key is there exactly if a flow has it
pub is_some-lookup_flow : (es : List ((ℕ × ℕ) × Flow)) (source group : ℕ)
    → keys_of es ≡ map flow_key (values_of es)
    → is_some (lookup (same_pair (source, group)) es) ≡ has_flow source group (values_of es)
is_some-lookup_flow es source group kept =
    let test = same_pair (source, group) in
    is_some_lookup-any_row (λ (e : (ℕ × ℕ) × Flow). e.0) test test (λ e. refl) es
    ∙ ap (list_any test) kept
    ∙ sym (list_any-map_row flow_key (λ (f : Flow). (f.source == source) && (f.group == group)) test
    (same_pair-flow_key source group) (values_of es))

-- a flow with a new key is added last
insert_entry-new_flow : {S : Type 0} (m : IndexMap (ℕ × ℕ) Flow S) (f : Flow)
    → keys_of m.entries ≡ map flow_key (values_of m.entries)
    → has_flow f.source f.group (values_of m.entries) ≡ false
    → insert_entry same_pair m.entries (flow_key f) f ≡ m.entries ++ (flow_key f, f) ∷ []
insert_entry-new_flow m f kept new =
    insert_entry-new same_pair m (flow_key f) f
    (None-from_is_some_false (lookup (same_pair (flow_key f)) m.entries)
    (is_some-lookup_flow m.entries f.source f.group kept ∙ new))

-- so the flows are the old ones and this one
pub values_of-insert_new_flow : {S : Type 0} (m : IndexMap (ℕ × ℕ) Flow S) (f : Flow)
    → keys_of m.entries ≡ map flow_key (values_of m.entries)
    → has_flow f.source f.group (values_of m.entries) ≡ false
    → values_of (insert_entry same_pair m.entries (flow_key f) f) ≡ values_of m.entries ++ f ∷ []
values_of-insert_new_flow m f kept new =
    ap values_of (insert_entry-new_flow m f kept new)
    ∙ map-append (λ (e : (ℕ × ℕ) × Flow). e.1) m.entries ((flow_key f, f) ∷ [])

-- and the keys are still those of the flows
pub keys_of-insert_new_flow : {S : Type 0} (m : IndexMap (ℕ × ℕ) Flow S) (f : Flow)
    → keys_of m.entries ≡ map flow_key (values_of m.entries)
    → has_flow f.source f.group (values_of m.entries) ≡ false
    → keys_of (insert_entry same_pair m.entries (flow_key f) f)
    ≡ map flow_key (values_of (insert_entry same_pair m.entries (flow_key f) f))
keys_of-insert_new_flow m f kept new =
    ap keys_of (insert_entry-new_flow m f kept new)
    ∙ map-append (λ (e : (ℕ × ℕ) × Flow). e.0) m.entries ((flow_key f, f) ∷ [])
    ∙ ap (λ (ks : List (ℕ × ℕ)). ks ++ flow_key f ∷ []) kept
    ∙ sym (map-append flow_key (values_of m.entries) (f ∷ []))
    ∙ ap (map flow_key) (sym (values_of-insert_new_flow m f kept new))
