-- The text of a certificate, which has equal trees once, denotes it.
use Rattle.std.proofs.Common.{◌≡◌, ℕ, ◌<◌, ◌≤◌, All, List, []}
use Rattle.std.proofs.Common.{◌∷◌, length, get_or, fold, map, Option, Some, None}
use Rattle.std.proofs.Common.{unwrap_or, inl, refl, sym, ap, ap₂, subst, ◌∙◌, arith}
use Rattle.std.proofs.Common.{append-nil}
use Rattle.std.specs.List.{AllByRecursion}
use Rattle.std.proofs.lemmas.List.{length-map}
use Rattle.mc_topology.specs.Topology.{TopologyValue, IsValidTopology}
use Rattle.mc_cert.specs.Certificate.{Tree, tree_at, IsWritableTree, HasByteNumbers, IsEntryOf, BelongsTo}
use Rattle.mc_cert.specs.CertificateText.{certificate_json}
use Rattle.mc_cert.specs.Distinct.{find_tree, with_tree, distinct_trees, tree_number_of}
use Rattle.mc_cert.specs.Denotation.{DenotesCertificate}
use Rattle.mc_cert.specs.Writable.{IsWritableTreeFor}
use Rattle.mc_cert.proofs.DistinctLemmas.{with_tree-known, with_tree-new, find_tree-push_new}
use Rattle.mc_cert.proofs.DistinctLemmas.{find_tree-fold_with_tree, length-fold_with_tree}
use Rattle.mc_cert.proofs.DistinctLemmas.{slice_get-find_tree, All-distinct_trees}
use Rattle.mc_cert.proofs.Documents.{AllByRecursion-implies, AllByRecursion-map}
use Rattle.mc_cert.proofs.TextDenotation.{IsTextEnd-from_rest, version_two_text-denotes}

-- ---- the distinct trees

-- each flow's tree is one of them
find_tree-each_flow : (trees flows : List Tree) → AllByRecursion
    (λ es. (k : ℕ) × (find_tree (fold with_tree trees flows) es ≡ Some k)) flows
find_tree-each_flow trees [] = tt
find_tree-each_flow trees (es ∷ flows) = (
  first (find_tree trees es) refl,
  find_tree-each_flow (with_tree trees es) flows,
) where
  first : (o : Option ℕ) → find_tree trees es ≡ o
      → (k : ℕ) × (find_tree (fold with_tree (with_tree trees es) flows) es ≡ Some k)
  first (Some k) e = (
    k,
    find_tree-fold_with_tree (with_tree trees es) es k flows
        (ap (λ (ts : List Tree). find_tree ts es) (with_tree-known trees es k e) ∙ e),
  )
  first None e = (
    length trees,
    find_tree-fold_with_tree (with_tree trees es) es (length trees) flows
        (ap (λ (ts : List Tree). find_tree ts es) (with_tree-new trees es e) ∙ find_tree-push_new trees es e),
  )

-- the trees with the flows' numbers are the flows' own
tree_at-tree_number_of : (trees flows : List Tree)
    → AllByRecursion (λ es. (k : ℕ) × (find_tree trees es ≡ Some k)) flows
    → map (tree_at trees) (map (tree_number_of trees) flows) ≡ flows
tree_at-tree_number_of trees [] all = refl
tree_at-tree_number_of trees (es ∷ flows) ((k, e), all) =
    ap₂ (λ t ts. t ∷ ts)
    (ap (λ o. tree_at trees (unwrap_or o 0)) e
    ∙ ap (λ o. unwrap_or o []) (slice_get-find_tree trees es k e).1)
    (tree_at-tree_number_of trees flows all)

-- a flow's number is below the number of trees
tree_number_of-below_length : (trees : List Tree) (es : Tree) → (k : ℕ) × (find_tree trees es ≡ Some k)
    → tree_number_of trees es < length trees
tree_number_of-below_length trees es (k, e) = omega (
  arith,
  ap (λ o. unwrap_or o 0) e,
  (slice_get-find_tree trees es k e).0,
)

-- ---- the text

-- the text denotes the certificate,
certificate_json-denotes_by_trees : (t : TopologyValue) (flows : List Tree) → IsValidTopology t
    → length flows ≡ length t.flows → All (IsWritableTreeFor t) (distinct_trees flows)
    → length (certificate_json t flows) ≤ 16777216
    → DenotesCertificate t (certificate_json t flows) flows
certificate_json-denotes_by_trees t flows rules count all few =
    let trees = distinct_trees flows in
    let tree_numbers = map (tree_number_of trees) flows in
    let few_trees : length trees ≤ 4096 = omega (
      arith,
      length-fold_with_tree [] flows,
      count,
      rules.few_flows,
    ) in
    let at = find_tree-each_flow [] flows in
    let named : AllByRecursion (λ n. n < length trees) tree_numbers =
    AllByRecursion-map (λ n. n < length trees) (tree_number_of trees) flows
    (AllByRecursion-implies (λ es. (k : ℕ) × (find_tree trees es ≡ Some k))
    (λ es. tree_number_of trees es < length trees) (tree_number_of-below_length trees) flows at) in
    subst (λ (own : List Tree). DenotesCertificate t (certificate_json t flows) own)
    (tree_at-tree_number_of trees flows at)
    (version_two_text-denotes t tree_numbers trees (certificate_json t flows) [] rules
    (omega (arith, length-map flows (tree_number_of trees), count)) named few_trees all few
    (sym (append-nil (certificate_json t flows))) (IsTextEnd-from_rest [] (inl refl)))

-- a tree of a certificate, with numbers that are bytes and in the topology, can be written
IsWritableTreeFor-from_parts : (t : TopologyValue) (es : Tree) → IsWritableTree es → All HasByteNumbers es
    → All (IsEntryOf t) es → IsWritableTreeFor t es
IsWritableTreeFor-from_parts t es list bytes among =
    record {
      few = list.few;
      each = λ k d lt. record {
        writable = list.each k d lt;
        bytes = bytes k d lt;
        among = among k d lt;
      };
    }

-- the same where the numbers of the distinct trees are bytes
pub certificate_json-denotes_as_written : (t : TopologyValue) (flows trees : List Tree) (text : List ℕ)
    → IsValidTopology t
    → BelongsTo t flows → trees ≡ distinct_trees flows → All IsWritableTree trees
    → All (All HasByteNumbers) trees
    → text ≡ certificate_json t flows → length text ≤ 16777216 → DenotesCertificate t text flows
certificate_json-denotes_as_written t flows trees text rules belongs made lists bytes is few =
    let among : All (All (IsEntryOf t)) trees = All-distinct_trees
    (All (IsEntryOf t)) flows flows trees refl belongs.entries made in
    let writable : All (IsWritableTreeFor t) trees =
    λ k d lt. IsWritableTreeFor-from_parts t (get_or trees k d)
    (lists k d lt) (bytes k d lt) (among k d lt) in
    let short : length (certificate_json t flows) ≤ 16777216 =
    subst (λ (s : List ℕ). length s ≤ 16777216) is few in
    subst (λ (s : List ℕ). DenotesCertificate t s flows) (sym is)
    (certificate_json-denotes_by_trees t flows rules belongs.count
    (subst (λ (ts : List Tree). All (IsWritableTreeFor t) ts) made writable) short)

-- the text of a certificate that belongs to the topology
pub certificate_json-denotes : (t : TopologyValue) (flows : List Tree) → IsValidTopology t → BelongsTo t flows
    → All IsWritableTree flows → All (All HasByteNumbers) flows → length (certificate_json t flows) ≤ 16777216
    → DenotesCertificate t (certificate_json t flows) flows
certificate_json-denotes t flows rules belongs lists bytes few =
    let trees = distinct_trees flows in
    certificate_json-denotes_as_written t flows trees (certificate_json t flows) rules belongs refl
    (All-distinct_trees IsWritableTree flows flows trees refl lists refl)
    (All-distinct_trees (All HasByteNumbers) flows flows trees refl bytes refl) refl few
