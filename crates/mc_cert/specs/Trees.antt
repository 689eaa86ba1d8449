-- The trees of flows that are added one after another, of which equal ones are stored once.
use Rattle.std.specs.Prelude.{◌≡◌, ℕ, ◌≤◌, All, List, length, map, Some}
use Rattle.std.specs.declared.cmp.Ordering.{Ordering}
use Rattle.std.specs.BTreeMap.{BTreeMap, get_by}
use Rattle.std.specs.Cmp.Lexicographic.{slice_cmp}
use Rattle.mc_theory.specs.Certificates.{Entry}
use Rattle.mc_cert.specs.Certificate.{Tree, tree_at, IsWritableTree}
use Rattle.mc_cert.specs.Distinct.{find_tree, distinct_trees}

-- the distinct trees that have these numbers
abbrev pub trees_of : List Tree → List ℕ → List Tree
trees_of distinct numbers = map (tree_at distinct) numbers

-- To look a key up by its tree gives the number that the tree has among the distinct ones, if it is
-- one of them. Trees are looked up by this order of their entries.
abbrev pub IsTreeNumberMap : {K : Type 0} → (Entry → Entry → Ordering) → (K → Tree) → BTreeMap K ℕ
    → List Tree → Type 0
IsTreeNumberMap {K} order tree numbers distinct = (key : K)
    → get_by (λ other. slice_cmp order (tree key) (tree other)) numbers ≡ find_tree distinct (tree key)

-- the trees are the distinct ones of the flows' trees, in the order of first use, and each flow has
-- the number of its own; there are at most 4,096 flows
pub record AreSharedTrees (trees : List Tree) (numbers : List ℕ) : Type 0 where
  pub distinct : trees ≡ distinct_trees (trees_of trees numbers)
  pub named : All (λ number. find_tree trees (tree_at trees number) ≡ Some number) numbers
  pub lists : All IsWritableTree trees
  pub few : length numbers ≤ 4096
