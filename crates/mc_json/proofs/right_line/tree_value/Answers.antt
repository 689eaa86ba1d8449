use Rattle.mc_json.proofs.right_line.tree_value.Goals as goal

-- The two members are the list of the tree's LANs, and its number.
pub returns : goal.returns
returns c = c.object.ensures _ (c.count.ensures _ (c.list.ensures _ _ c.new.ensures
    c.reached_values.ensures))
