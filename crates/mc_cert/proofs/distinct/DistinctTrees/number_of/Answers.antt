use Rattle.std.proofs.Common.{◌++◌, ◌∷◌, [], ◌∙◌, List, map, sym, ap, ap₂, arith}
use Rattle.mc_cert.specs.Distinct.{find_tree}
use Rattle.mc_cert.specs.Certificate.{Tree}
use Rattle.mc_cert.proofs.DistinctLemmas.{with_tree-known, with_tree-new}
use Rattle.mc_cert.proofs.SeparatorLemmas.{map-next}
use Rattle.mc_cert.proofs.TreeLemmas.{IsTreeNumberMap-insert}
use Rattle.mc_cert.proofs.distinct.DistinctTrees.number_of.Goals as goal

-- The map gives a tree's number among the distinct ones, by the invariant.
pub returns-in-Some-clause-number : goal.returns-in-Some-clause-number
returns-in-Some-clause-number c =
    ap₂ find_tree (sym c.self.view_is) (ap (λ t. t.items) (sym c.in_ok-tree.ensures.ok))
    ∙ sym (c.self.invariant c.in_ok-tree.tree) ∙ sym c.get.ensures.value ∙ sym c.copied.ensures
    ∙ c.in-Some.is

-- A tree that has a number is there already, so that adding it changes nothing.
pub returns-in-Some-clause-trees : goal.returns-in-Some-clause-trees
returns-in-Some-clause-trees c =
    sym (with_tree-known c.args.self.now c.args.tree.items c.in-Some.number
    (returns-in-Some-clause-number c))

-- The map got the new tree with the number of its place, and its other answers are as before.
pub invariant_of-self-2 : goal.invariant_of-self-2
invariant_of-self-2 c =
    (IsTreeNumberMap-insert (λ t. t.value.items) c.self.inside.numbers c.insert.new.self
    c.self.inside.trees.items
    c.push.new.self.items c.in_ok-tree.tree c.in_ok-key.key c.len-number.result c.self.invariant
    (sym c.get.ensures.value ∙ sym c.copied.ensures ∙ c.in_default.is)
    (c.in_ok-push.ensures.items
    ∙ ap (λ ts. ts ++ c.in_ok-tree.tree ∷ []) c.in_ok-reserve.ensures.items)
    (ap (λ t. t.items) c.in_ok-key.ensures.cases) (omega (arith, c.len-number.ensures))
    c.in_ok-insert.ensures.updates).0

-- The new tree is at the end, and none before equals it.
pub returns-clause-number : goal.returns-clause-number
returns-clause-number c =
    ap (λ t. find_tree (map (λ t. t.value.items) c.push.new.self.items) t.items)
    (sym c.in_ok-tree.ensures.ok)
    ∙ (IsTreeNumberMap-insert
    (λ t. t.value.items) c.self.inside.numbers c.insert.new.self c.self.inside.trees.items
    c.push.new.self.items c.in_ok-tree.tree c.in_ok-key.key c.len-number.result c.self.invariant
    (sym c.get.ensures.value ∙ sym c.copied.ensures ∙ c.in_default.is)
    (c.in_ok-push.ensures.items
    ∙ ap (λ ts. ts ++ c.in_ok-tree.tree ∷ []) c.in_ok-reserve.ensures.items)
    (ap (λ t. t.items) c.in_ok-key.ensures.cases) (omega (arith, c.len-number.ensures))
    c.in_ok-insert.ensures.updates).1

-- A tree without a number is none of the distinct ones, so that it is added behind them.
pub returns-clause-trees : goal.returns-clause-trees
returns-clause-trees c =
    map-next (λ t. t.value.items) c.self.inside.trees.items c.push.new.self.items c.in_ok-tree.tree
    (c.in_ok-push.ensures.items
    ∙ ap (λ ts. ts ++ c.in_ok-tree.tree ∷ []) c.in_ok-reserve.ensures.items)
    ∙ ap₂ (λ (ts : List Tree) (es : Tree). ts ++ es ∷ []) c.self.view_is
    (ap (λ t. t.items) c.in_ok-tree.ensures.ok)
    ∙ sym (with_tree-new c.args.self.now c.args.tree.items
    (ap₂ find_tree (sym c.self.view_is) (ap (λ t. t.items) (sym c.in_ok-tree.ensures.ok))
    ∙ sym (c.self.invariant c.in_ok-tree.tree) ∙ sym c.get.ensures.value ∙ sym c.copied.ensures
    ∙ c.in_default.is))
