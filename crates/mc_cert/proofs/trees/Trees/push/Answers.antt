use Rattle.std.proofs.Common.{◌<◌, ◌∙◌, ◌++◌, ◌∷◌, [], List, ℕ, length, sym, ap, subst, arith}
use Rattle.std.proofs.lemmas.List.{length-map}
use Rattle.mc_cert.specs.Certificate.{Tree, tree_at}
use Rattle.mc_cert.specs.Trees.{AreSharedTrees, trees_of}
use Rattle.mc_cert.proofs.TreeLemmas.{length-AreSharedTrees, trees_of-push, AreSharedTrees-push}
use Rattle.mc_cert.proofs.trees.Trees.push.Goals as goal

-- The distinct trees are no more than the flows.
pub number_of-requires : goal.number_of-requires
number_of-requires c = record {
  bounded = (
      omega (
        arith,
        c.requires.few,
        length-AreSharedTrees c.self.inside.distinct c.self.inside.numbers.items c.self.invariant,
        ap (λ (ts : List Tree). length ts) c.self.view_is,
      ));
}

-- The trees, with this one added if it is new, are the distinct ones of the flows' trees with this flow's;
-- and the number is that of its tree.
pub invariant_of-self-2 : goal.invariant_of-self-2
invariant_of-self-2 c =
    let distinct = c.self.inside.distinct in
    let numbers = c.self.inside.numbers.items in
    let grown = c.in_ok-push.ensures.items
    ∙ ap (λ ns. ns ++ c.in_ok-number.number ∷ []) c.in_ok-reserve.ensures.items in
    let few : length numbers < 4096 =
    omega (
      arith,
      c.requires.few,
      length-map numbers (tree_at distinct),
      ap (λ (ts : List Tree). length ts) c.self.view_is,
    ) in
    subst (λ (ns : List ℕ). AreSharedTrees c.number_of.new.self ns) (sym grown)
    (AreSharedTrees-push distinct c.number_of.new.self c.args.tree.items c.in_ok-number.number
    c.in_ok-number.ensures.trees c.in_ok-number.ensures.number numbers c.self.invariant few
    c.requires.list)

-- A tree that is added behind the others changes none of their numbers, so that the earlier flows keep
-- their trees.
pub returns-clause-pushed : goal.returns-clause-pushed
returns-clause-pushed c =
    let grown = c.in_ok-push.ensures.items
    ∙ ap (λ ns. ns ++ c.in_ok-number.number ∷ []) c.in_ok-reserve.ensures.items in
    ap (trees_of c.number_of.new.self) grown
    ∙ trees_of-push c.self.inside.distinct c.number_of.new.self c.args.tree.items
    c.in_ok-number.number c.in_ok-number.ensures.trees c.in_ok-number.ensures.number
    c.self.inside.numbers.items c.self.invariant
    ∙ ap (λ (ts : List Tree). ts ++ c.args.tree.items ∷ []) c.self.view_is
