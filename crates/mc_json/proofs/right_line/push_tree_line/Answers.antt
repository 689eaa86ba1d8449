use Rattle.std.proofs.Common.{ap, ◌∙◌}
use Rattle.serde_json.specs.Written.{has_float}
use Rattle.mc_forward.specs.FlightsInDomain.{net_in}
use Rattle.mc_json.proofs.NoFloatLemmas.{no_float-tree_data}
use Rattle.mc_json.proofs.right_line.push_tree_line.Goals as goal

-- The object holds names, whole numbers and nulls, and no float.
pub push_line-requires : goal.push_line-requires
push_line-requires c = record {
  no_float = (
      let view = c.args.view.now in
      ap has_float c.in_ok-value.ensures
      ∙ no_float-tree_data view.domain.topology (net_in view) c.args.entries.now c.args.tree);
}
