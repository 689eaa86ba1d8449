-- Trees that are added flow by flow, where equal ones are stored once.
use Rattle.std.proofs.Common.{◌≡◌, ℕ, zero, suc, ◌<◌, ◌≤◌, Bool, true, false, cond, List, []}
use Rattle.std.proofs.Common.{◌∷◌, ◌++◌, length, map, All, Some, None, refl, sym, ap, ap₂, subst}
use Rattle.std.proofs.Common.{◌∙◌, arith, length-append}
use Rattle.std.specs.Prelude.{unwrap_or}
use Rattle.std.specs.Cmp.Lexicographic.{slice_cmp, lists_ties}
use Rattle.std.specs.declared.cmp.Ordering.{Ordering}
use Rattle.std.specs.Ordering.{is_eq}
use Rattle.std.specs.BTreeMap.{BTreeMap, get, get_by, Updates}
use Rattle.std.proofs.lemmas.List.{length-map, map-append}
use Rattle.std.proofs.lemmas.List.Elements.{All-push}
use Rattle.std.proofs.lemmas.List.Sums.{fold-append}
use Rattle.mc_topology.specs.Topology.{TopologyValue}
use Rattle.mc_cert.specs.contracts.reached.ReachedOrd.TheImpl.{ghosts as by_order}
use Rattle.mc_cert.specs.contracts.reached.ReachedOrd.TheImpl.Laws.{matches_eq-law}
use Rattle.mc_cert.specs.Certificate.{Tree, tree_at, IsWritableTree}
use Rattle.mc_cert.specs.CertificateText.{version_two_text, certificate_json}
use Rattle.mc_cert.specs.Distinct.{same_tree, find_tree, with_tree, distinct_trees, tree_number_of}
use Rattle.mc_cert.specs.Trees.{trees_of, IsTreeNumberMap, AreSharedTrees}
use Rattle.mc_cert.proofs.DistinctLemmas.{same_tree-Decides, same_tree-flip_false, find_tree-push_new}
use Rattle.mc_cert.proofs.DistinctLemmas.{position-push_failing, find_tree-with_tree, tree_at-with_tree}
use Rattle.mc_cert.proofs.DistinctLemmas.{length-fold_with_tree, slice_get-find_tree, All-with_tree}

-- ---- trees in the map

-- Trees are equal exactly where the order by entries finds them equal.
same_tree-is_eq : (a b : Tree) → same_tree a b ≡ is_eq (slice_cmp by_order.cmp a b)
same_tree-is_eq = lists_ties by_order.cmp (λ x y. matches_eq-law x y)

module _ {K : Type 0} (tree : K → Tree) where
  -- the order of keys
  abbrev tree_order : K → K → Ordering
  tree_order x y = slice_cmp by_order.cmp (tree x) (tree y)

  -- a new tree is added at the end, and to the map with its number
  IsTreeNumberMap-push : (numbers now : BTreeMap K ℕ) (key : K) (n : ℕ) (trees : List Tree)
      → IsTreeNumberMap by_order.cmp tree numbers trees → find_tree trees (tree key) ≡ None
      → n ≡ length trees → Updates tree_order numbers now key (Some n)
      → IsTreeNumberMap by_order.cmp tree now (trees ++ tree key ∷ [])
  IsTreeNumberMap-push numbers now key n trees are none last updates k =
      updates.0 k ∙ ap (λ b. cond b (Some n) (get tree_order numbers k))
      (sym (same_tree-is_eq (tree key) (tree k))) ∙ here (same_tree (tree key) (tree k)) refl
    where
      here : (b : Bool) → same_tree (tree key) (tree k) ≡ b
          → cond b (Some n) (get tree_order numbers k)
          ≡ find_tree (trees ++ tree key ∷ []) (tree k)
      here true same = ap Some last ∙ sym (find_tree-push_new trees (tree key) none)
          ∙ ap (find_tree (trees ++ tree key ∷ [])) ((same_tree-Decides (tree key) (tree k)).0 same)
      here false differs = are k
          ∙ sym (position-push_failing (same_tree (tree k)) trees (tree key)
          (same_tree-flip_false (tree key) (tree k) differs))

  -- so is a tree for which the map has no number
  pub IsTreeNumberMap-insert : (numbers now : BTreeMap K ℕ) (old new : List K) (x key : K) (n : ℕ)
      → IsTreeNumberMap by_order.cmp tree numbers (map tree old)
      → get_by (λ k. slice_cmp by_order.cmp (tree x) (tree k)) numbers ≡ None
      → new ≡ old ++ x ∷ [] → tree key ≡ tree x → n ≡ length old
      → Updates tree_order numbers now key (Some n)
      → IsTreeNumberMap by_order.cmp tree now (map tree new) × (find_tree (map tree new) (tree x) ≡ Some n)
  IsTreeNumberMap-insert numbers now old new x key n are absent made same last updates =
      let trees = map tree old in
      let none : find_tree trees (tree key) ≡ None =
      ap (find_tree trees) same ∙ sym (are x) ∙ absent in
      let grown : trees ++ tree key ∷ [] ≡ map tree new =
      ap (λ t. trees ++ t ∷ []) same ∙ sym (map-append tree old (x ∷ []))
      ∙ ap (map tree) (sym made) in
      let long : n ≡ length trees = omega (arith, last, length-map old tree) in (
        subst (λ (ts : List Tree). IsTreeNumberMap by_order.cmp tree now ts) grown
            (IsTreeNumberMap-push numbers now key n trees are none long updates),
        ap₂ find_tree (sym grown) (sym same) ∙ find_tree-push_new trees (tree key) none
            ∙ ap Some (sym long),
      )

-- ---- an added tree

-- there are no more distinct trees than flows
pub length-AreSharedTrees : (trees : List Tree) (numbers : List ℕ) → AreSharedTrees trees numbers
    → length trees ≤ length (trees_of trees numbers)
length-AreSharedTrees trees numbers shared =
    omega (
      arith,
      ap (λ (ts : List Tree). length ts) shared.distinct,
      length-fold_with_tree [] (trees_of trees numbers),
    )

module _ (trees now : List Tree) (es : Tree) (n : ℕ) (grown : now ≡ with_tree trees es)
    (here : find_tree now es ≡ Some n) where
  -- a tree keeps its number
  tree_at-with_tree_same : (m : ℕ) → find_tree trees (tree_at trees m) ≡ Some m
      → tree_at now m ≡ tree_at trees m
  tree_at-with_tree_same m at = ap (λ (ts : List Tree). tree_at ts m) grown
      ∙ tree_at-with_tree trees es m (slice_get-find_tree trees (tree_at trees m) m at).0

  trees_of-with_tree : (numbers : List ℕ) → All (λ m. find_tree trees (tree_at trees m) ≡ Some m) numbers
      → trees_of now numbers ≡ trees_of trees numbers
  trees_of-with_tree [] named = refl
  trees_of-with_tree (m ∷ numbers) named =
      ap₂ (λ t ts. t ∷ ts) (tree_at-with_tree_same m (named zero m (omega arith)))
      (trees_of-with_tree numbers (λ k d lt. named (suc k) d (omega (arith, lt))))

  -- after a tree and its number are added, the flows have that tree as the last one
  pub trees_of-push : (numbers : List ℕ) → AreSharedTrees trees numbers
      → trees_of now (numbers ++ n ∷ []) ≡ trees_of trees numbers ++ es ∷ []
  trees_of-push numbers shared =
      map-append (tree_at now) numbers (n ∷ [])
      ∙ ap₂ (λ ts t. ts ++ t ∷ []) (trees_of-with_tree numbers shared.named)
      (ap (λ o. unwrap_or o []) (slice_get-find_tree now es n here).1)

  -- what is kept of shared trees stays so, for a tree that a text can have and fewer than 4,096 flows
  pub AreSharedTrees-push : (numbers : List ℕ) → AreSharedTrees trees numbers → length numbers < 4096
      → IsWritableTree es → AreSharedTrees now (numbers ++ n ∷ [])
  AreSharedTrees-push numbers shared few list =
      let at : (m : ℕ) → find_tree trees (tree_at trees m) ≡ Some m
      → find_tree now (tree_at now m) ≡ Some m =
      λ m is. ap (find_tree now) (tree_at-with_tree_same m is)
      ∙ ap (λ (ts : List Tree). find_tree ts (tree_at trees m)) grown
      ∙ find_tree-with_tree trees (tree_at trees m) es m is in
      let mine : tree_at now n ≡ es = ap (λ o. unwrap_or o []) (slice_get-find_tree now es n here).1 in
      record {
        distinct =
            grown ∙ ap (λ (ts : List Tree). with_tree ts es) shared.distinct
            ∙ sym (fold-append with_tree [] (trees_of trees numbers) (es ∷ []))
            ∙ ap distinct_trees (sym (trees_of-push numbers shared));
        named = All-push (λ m. find_tree now (tree_at now m) ≡ Some m) numbers n
            (λ k d lt. at _ (shared.named k d lt)) (ap (find_tree now) mine ∙ here);
        lists = subst (λ (ts : List Tree). All IsWritableTree ts) (sym grown)
            (All-with_tree IsWritableTree trees es shared.lists list);
        few = omega (arith, few, length-append numbers (n ∷ []));
      }

-- ---- the text

-- the stored numbers are those of the flows' trees
tree_numbers-AreSharedTrees : (trees : List Tree) (numbers : List ℕ)
    → All (λ n. find_tree trees (tree_at trees n) ≡ Some n) numbers
    → numbers ≡ map (tree_number_of trees) (trees_of trees numbers)
tree_numbers-AreSharedTrees trees [] named = refl
tree_numbers-AreSharedTrees trees (n ∷ numbers) named =
    ap₂ (λ m ms. m ∷ ms) (ap (λ o. unwrap_or o 0) (sym (named zero n (omega arith))))
    (tree_numbers-AreSharedTrees trees numbers (λ k d lt. named (suc k) d (omega (arith, lt))))

-- the text of the distinct trees and the flows' numbers is the certificate's
pub version_two_text-AreSharedTrees : (t : TopologyValue) (trees : List Tree) (numbers : List ℕ)
    → AreSharedTrees trees numbers
    → version_two_text t numbers trees ≡ certificate_json t (trees_of trees numbers)
version_two_text-AreSharedTrees t trees numbers shared =
    ap (λ ns. version_two_text t ns trees) (tree_numbers-AreSharedTrees trees numbers shared.named)
    ∙ ap (λ (ts : List Tree). version_two_text t (map (tree_number_of ts) (trees_of trees numbers)) ts)
    shared.distinct
