use Rattle.mc_json.proofs.TreeKeyLemmas.{tree_data-same_key}
use Rattle.mc_json.proofs.laws.trees_with_one_key_have_one_line.Goals as goal

-- The key has all that the line shows of an entry, the vif that the copy came in by included.
pub returns : goal.returns
returns c = tree_data-same_key
