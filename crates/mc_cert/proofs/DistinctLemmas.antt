-- The distinct trees among trees, and the number of a tree among them.
use Rattle.std.proofs.Common.{◌≡◌, ℕ, zero, suc, ◌+◌, ◌<◌, ◌≤◌, Bool, true, false, cond, not}
use Rattle.std.proofs.Common.{nat_lt, ◌==◌, List, [], ◌∷◌, ◌++◌, length, get_or, fold, All, Option}
use Rattle.std.proofs.Common.{Some, None, option_map, refl, sym, ap, subst, ◌∙◌, arith}
use Rattle.std.proofs.Common.{length-append, eqb-true, eq-eqb}
use Rattle.std.specs.Prelude.{position, slice_get}
use Rattle.std.specs.List.{position_or_len}
use Rattle.std.specs.Option.{option_eq, is_some}
use Rattle.std.specs.Cmp.Lexicographic.{pointwise_decides}
use Rattle.std.proofs.lemmas.Bool.{and_parts}
use Rattle.std.proofs.lemmas.Bool.Decides.{nat_tests}
use Rattle.std.proofs.lemmas.List.Elements.{All-push}
use Rattle.std.proofs.lemmas.List.Quantifiers.{position-Some}
use Rattle.std.proofs.lemmas.Option.{slice_get-get_or}
use Rattle.mc_theory.specs.Nets.{Interface}
use Rattle.mc_theory.specs.Certificates.{Entry}
use Rattle.mc_cert.specs.Certificate.{Tree, tree_at}
use Rattle.mc_cert.specs.Distinct.{same_interface, same_entry, same_tree, find_tree, with_tree}
use Rattle.mc_cert.specs.Distinct.{distinct_trees}

-- ---- the first place

module _ {X : Type 0} (p : X → Bool) where
  cond_lt-suc : (b : Bool) (n m : ℕ) → nat_lt n m ≡ b → cond (nat_lt (1 + n) (suc m)) (Some (1 + n)) None
      ≡ option_map suc (cond b (Some n) None)
  cond_lt-suc true n m e = grind (arith, nat_tests)
  cond_lt-suc false n m e = grind (arith, nat_tests)

  position_or_len-cons : (b : Bool) (n m : ℕ) → cond (nat_lt (cond (not b) (1 + n) 0) (suc m))
      (Some (cond (not b) (1 + n) 0)) None ≡ cond b (Some 0)
      (option_map suc (cond (nat_lt n m) (Some n) None))
  position_or_len-cons true n m = grind (arith, nat_tests)
  position_or_len-cons false n m = cond_lt-suc (nat_lt n m) n m refl

  -- the place of the first item that passes is 0 if the first one does, or else one more than in the rest
  pub position-cons : (x : X) (xs : List X) → position p (x ∷ xs)
      ≡ cond (p x) (Some 0) (option_map suc (position p xs))
  position-cons x xs = position_or_len-cons (p x) (position_or_len p xs) (length xs)

  None-from_cond : (b : Bool) (o : Option ℕ) → cond b (Some 0) (option_map suc o) ≡ None
      → (b ≡ false) × (o ≡ None)
  None-from_cond b o e = grind (arith, e)

  -- an added item that passes is the first to pass, where no other does
  pub position-push_new : (xs : List X) (y : X) → position p xs ≡ None → p y ≡ true
      → position p (xs ++ y ∷ []) ≡ Some (length xs)
  position-push_new [] y none passes = position-cons y [] ∙ rw passes refl
  position-push_new (x ∷ xs) y none passes =
      let parts = None-from_cond (p x) (position p xs) (sym (position-cons x xs) ∙ none) in
      position-cons x (xs ++ y ∷ []) ∙ rw (parts.0, position-push_new xs y parts.1 passes) refl

  -- an added item that fails changes nothing
  pub position-push_failing : (xs : List X) (y : X) → p y ≡ false
      → position p (xs ++ y ∷ []) ≡ position p xs
  position-push_failing [] y fails = position-cons y [] ∙ rw fails refl
  position-push_failing (x ∷ xs) y fails =
      position-cons x (xs ++ y ∷ []) ∙ ap (λ o. cond (p x) (Some 0) (option_map suc o))
      (position-push_failing xs y fails) ∙ sym (position-cons x xs)

  position-append_by_cases : (b : Bool) (o : Option ℕ) (k : ℕ) (more : Option ℕ)
      → cond b (Some 0) (option_map suc o) ≡ Some k → ((n : ℕ) → o ≡ Some n → more ≡ Some n)
      → cond b (Some 0) (option_map suc more) ≡ Some k
  position-append_by_cases true o k more e same = e
  position-append_by_cases false None k more e same = absurd cc
  position-append_by_cases false (Some n) k more e same = ap (option_map suc) (same n refl) ∙ e

  -- appended items don't change the first that passes
  pub position-append : (xs ys : List X) (k : ℕ) → position p xs ≡ Some k
      → position p (xs ++ ys) ≡ Some k
  position-append [] ys k e = absurd cc
  position-append (x ∷ xs) ys k e =
      position-cons x (xs ++ ys) ∙ position-append_by_cases (p x) (position p xs) k (position p (xs ++ ys))
      (sym (position-cons x xs) ∙ e) (λ n here. position-append xs ys n here)

-- ---- which trees are equal

-- the test of two interfaces is whether they are equal, part by part
same_interface-Decides : (i j : Interface) → (same_interface i j ≡ true → i ≡ j)
    × (i ≡ j → same_interface i j ≡ true)
same_interface-Decides (r, v) (s, w) = (
  λ e.
      let parts = and_parts (r == s) (v == w) e in
      let routers : r ≡ s = eqb-true r s parts.0 in
      let vifs : v ≡ w = eqb-true v w parts.1 in
      λ k. (routers k, vifs k),
  λ e.
      let routers : r ≡ s = ap (λ (i : Interface). i.0) e in
      let vifs : v ≡ w = ap (λ (i : Interface). i.1) e in
      rw (eq-eqb r s routers, eq-eqb v w vifs) refl,
)

-- so is that of two forwarders
same_forwarder-Decides : (a b : Option Interface) → (option_eq same_interface a b ≡ true → a ≡ b)
    × (a ≡ b → option_eq same_interface a b ≡ true)
same_forwarder-Decides None None = (λ _. refl, λ _. refl)
same_forwarder-Decides None (Some j) = (λ e. absurd cc, λ e. absurd cc)
same_forwarder-Decides (Some i) None = (λ e. absurd cc, λ e. absurd cc)
same_forwarder-Decides (Some i) (Some j) = (
  λ e. ap Some ((same_interface-Decides i j).0 e),
  λ e. (same_interface-Decides i j).1 cc,
)

-- so is that of two entries
same_entry-Decides : (a b : Entry) → (same_entry a b ≡ true → a ≡ b) × (a ≡ b → same_entry a b ≡ true)
same_entry-Decides a b = (
  λ e.
      let position_or_len-cons = and_parts (a.lan == b.lan) _ e in
      let second = and_parts (a.rank == b.rank) _ position_or_len-cons.1 in
      let third = and_parts (a.need == b.need) _ second.1 in
      let lan : a.lan ≡ b.lan = eqb-true a.lan b.lan position_or_len-cons.0 in
      let rank : a.rank ≡ b.rank = eqb-true a.rank b.rank second.0 in
      let need : a.need ≡ b.need = eqb-true a.need b.need third.0 in
      let forwarder : a.forwarder ≡ b.forwarder =
      (same_forwarder-Decides a.forwarder b.forwarder).0 third.1 in
      λ i. record { lan = lan i; rank = rank i; need = need i; forwarder = forwarder i },
  λ e.
      rw (
        eq-eqb a.lan b.lan (ap (λ (x : Entry). x.lan) e),
        eq-eqb a.rank b.rank (ap (λ (x : Entry). x.rank) e),
        eq-eqb a.need b.need (ap (λ (x : Entry). x.need) e),
      )
      ((same_forwarder-Decides a.forwarder b.forwarder).1 (ap (λ (x : Entry). x.forwarder) e)),
)

-- two trees are called the same exactly if they are equal
pub same_tree-Decides : (a b : Tree) → (same_tree a b ≡ true → a ≡ b) × (a ≡ b → same_tree a b ≡ true)
same_tree-Decides = pointwise_decides same_entry-Decides

-- trees that differ also differ the other way round
pub same_tree-flip_false : (a b : Tree) → same_tree a b ≡ false → same_tree b a ≡ false
same_tree-flip_false a b e = other (same_tree b a) refl where
  other : (c : Bool) → same_tree b a ≡ c → same_tree b a ≡ false
  other false is = is
  other true is =
      let back = (same_tree-Decides a b).1 (sym ((same_tree-Decides b a).0 is)) in
      absurd cc

-- ---- numbers of trees

-- a tree that is added as a new one has the last number
pub find_tree-push_new : (trees : List Tree) (es : Tree) → find_tree trees es ≡ None
    → find_tree (trees ++ es ∷ []) es ≡ Some (length trees)
find_tree-push_new trees es none = position-push_new (same_tree es) trees es none
    ((same_tree-Decides es es).1 refl)

-- a known tree isn't added
pub with_tree-known : (trees : List Tree) (es : Tree) (tree_no : ℕ) → find_tree trees es ≡ Some tree_no
    → with_tree trees es ≡ trees
with_tree-known trees es tree_no e = rw e refl

-- a new tree is added at the end
pub with_tree-new : (trees : List Tree) (es : Tree) → find_tree trees es ≡ None
    → with_tree trees es ≡ trees ++ es ∷ []
with_tree-new trees es e = rw e refl

-- a tree keeps its number
pub find_tree-with_tree : (trees : List Tree) (es more : Tree) (tree_no : ℕ)
    → find_tree trees es ≡ Some tree_no
    → find_tree (with_tree trees more) es ≡ Some tree_no
find_tree-with_tree trees es more tree_no e = by (is_some (find_tree trees more)) where
  by : (b : Bool) → find_tree (cond b trees (trees ++ more ∷ [])) es ≡ Some tree_no
  by true = e
  by false = position-append (same_tree es) trees (more ∷ []) tree_no e

-- a tree keeps its number when further trees are added
pub find_tree-fold_with_tree : (trees : List Tree) (es : Tree) (tree_no : ℕ) (flows : List Tree)
    → find_tree trees es ≡ Some tree_no → find_tree (fold with_tree trees flows) es ≡ Some tree_no
find_tree-fold_with_tree trees es tree_no [] e = e
find_tree-fold_with_tree trees es tree_no (f ∷ flows) e =
    find_tree-fold_with_tree (with_tree trees f) es tree_no flows
    (find_tree-with_tree trees es f tree_no e)

-- ---- an added tree

-- trees that are added behind change none before
tree_at-append : (trees more : List Tree) (n : ℕ) → n < length trees
    → tree_at (trees ++ more) n ≡ tree_at trees n
tree_at-append [] more n lt = absurd (omega (arith, lt))
tree_at-append (t ∷ trees) more zero lt = refl
tree_at-append (t ∷ trees) more (suc n) lt = tree_at-append trees more n (omega (arith, lt))

-- a number keeps its tree
pub tree_at-with_tree : (trees : List Tree) (es : Tree) (n : ℕ) → n < length trees
    → tree_at (with_tree trees es) n ≡ tree_at trees n
tree_at-with_tree trees es n lt = by (is_some (find_tree trees es)) where
  by : (b : Bool) → tree_at (cond b trees (trees ++ es ∷ [])) n ≡ tree_at trees n
  by true = refl
  by false = tree_at-append trees (es ∷ []) n lt

-- adding a tree makes at most one more
pub length-with_tree : (trees : List Tree) (es : Tree) → length (with_tree trees es) ≤ length trees + 1
length-with_tree trees es = by (is_some (find_tree trees es)) where
  by : (b : Bool) → length (cond b trees (trees ++ es ∷ [])) ≤ length trees + 1
  by true = omega arith
  by false = omega (arith, length-append trees (es ∷ []))

-- there are no more distinct trees than flows
pub length-fold_with_tree : (trees flows : List Tree)
    → length (fold with_tree trees flows) ≤ length trees + length flows
length-fold_with_tree trees [] = omega arith
length-fold_with_tree trees (f ∷ flows) =
    omega (arith, length-fold_with_tree (with_tree trees f) flows, length-with_tree trees f)

-- the tree with the number of a tree is that tree
pub slice_get-find_tree : (trees : List Tree) (es : Tree) (n : ℕ) → find_tree trees es ≡ Some n
    → (n < length trees) × (slice_get trees n ≡ Some es)
slice_get-find_tree trees es n e =
    let at = position-Some (same_tree es) trees n es e in
    let same : es ≡ get_or trees n es = (same_tree-Decides es (get_or trees n es)).0 at.1 in
    (at.0, slice_get-get_or trees n es at.0 ∙ ap Some (sym same))

-- what holds of the trees of all flows holds of the distinct trees
module _ (P : Tree → Type 0) where
  -- what holds of all trees and of one more holds after that one is added
  pub All-with_tree : (trees : List Tree) (es : Tree) → All P trees → P es → All P (with_tree trees es)
  All-with_tree trees es all here = by (is_some (find_tree trees es)) where
    by : (b : Bool) → All P (cond b trees (trees ++ es ∷ []))
    by true = all
    by false = All-push P trees es all here

  All-fold_with_tree : (trees flows : List Tree) → All P trees → All P flows
      → All P (fold with_tree trees flows)
  All-fold_with_tree trees [] all each = all
  All-fold_with_tree trees (f ∷ flows) all each =
      All-fold_with_tree (with_tree trees f) flows (All-with_tree trees f all (each zero [] (omega arith)))
      (λ k d lt. each (suc k) d (omega (arith, lt)))

  -- what holds of the trees of all flows holds of the distinct ones
  pub All-distinct_trees : (flows viewed trees : List Tree) → viewed ≡ flows → All P flows
      → trees ≡ distinct_trees viewed → All P trees
  All-distinct_trees flows viewed trees same all made =
      let distinct : All P (distinct_trees flows) = All-fold_with_tree []
      flows (λ k d lt. absurd (omega (arith, lt))) all in
      subst (λ (ts : List Tree). All P ts) (ap distinct_trees (sym same) ∙ sym made) distinct
