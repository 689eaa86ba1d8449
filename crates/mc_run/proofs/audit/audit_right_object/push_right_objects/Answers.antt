use Rattle.std.proofs.Common.{refl, ◌∙◌}
use Rattle.mc_run.specs.AuditPieces.{audited_value}
use Rattle.mc_run.specs.AuditedFiles.{is_whole}
use Rattle.mc_run.proofs.ShownTrees.{is_whole-no_names, right_objects-pushed, shown_trees-pushed}
use Rattle.mc_run.proofs.audit.audit_right_object.push_right_objects.Goals as goal

-- The key of the tree joins the printed ones, unless it is among them: the view is that of this flow.
pub returns-clause-shown_trees : goal.returns-clause-shown_trees
returns-clause-shown_trees c =
    shown_trees-pushed c.args.audited.now.domain.now c.args.flow c.new-view.result c.args.entries.now
    c.args.shown_trees.now c.push_tree_once.new.shown_trees c.push_right_line.result
    c.new-view.ensures.flow c.in_ok-tree.ensures.shown_trees

-- The tree's line comes first where it is new, and the flow's line cites the number that the tree has then.
pub returns-clause-lines : goal.returns-clause-lines
returns-clause-lines c =
    let a = c.args.audited.now in
    right_objects-pushed a.domain.now (is_whole (audited_value a)) c.is_empty-whole.result c.args.flow _
    c.in_ok-tree.tree c.new-view.result c.topology-topology.result.now c.args.entries.now
    c.args.wanted.now c.args.shown_trees.now c.push_tree_once.new.shown_trees c.push_right_line.result _ _ _
    c.new-view.ensures.flow c.topology-topology.ensures.topology
    (c.is_empty-whole.ensures ∙ is_whole-no_names a) refl c.in_ok-tree.ensures.shown_trees
    c.in_ok-tree.ensures.number c.in_ok-tree.ensures.line c.push_right_line.ensures.line
