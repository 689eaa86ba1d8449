use Rattle.std.proofs.Common.{ap, ◌∙◌}
use Rattle.serde_json.specs.Written.{has_float}
use Rattle.mc_json.proofs.NoFloatLemmas.{no_float-unlisted_data}
use Rattle.mc_json.proofs.end_lines.push_unlisted_line.Goals as goal

-- The object holds texts and lists, and no float, so that the printer's text of it is fixed.
pub push_line-requires : goal.push_line-requires
push_line-requires c = record {
  no_float = (
      let pair = c.args.pair.now in
      ap has_float c.in_ok-value.ensures
      ∙ no_float-unlisted_data c.args.topology.now pair.0.1 pair.0.0 pair.1);
}
