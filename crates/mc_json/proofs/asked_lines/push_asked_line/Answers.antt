use Rattle.std.proofs.Common.{ap, ◌∙◌}
use Rattle.serde_json.specs.Written.{has_float}
use Rattle.mc_json.proofs.NoFloatLemmas.{no_float-asked_data}
use Rattle.mc_json.proofs.asked_lines.push_asked_line.Goals as goal

-- The object holds texts, lists and nulls, and no float, so that the printer's text of it is fixed.
pub push_line-requires : goal.push_line-requires
push_line-requires c = record {
  no_float = (
      ap has_float c.in_ok-value.ensures
      ∙ no_float-asked_data c.args.topology.now c.args.line.now);
}
