use Rattle.std.proofs.Common.{ap, map, sym, subst, ◌∙◌}
use Rattle.serde_json.specs.View.{view as data_of}
use Rattle.serde_json.specs.Written.{has_float}
use Rattle.mc_json.proofs.NoFloatLemmas.{HaveNoFloat, no_float-lans, no_float-right_data}
use Rattle.mc_json.proofs.right_line.push_right_line.Goals as goal

-- The object holds texts, a list of names, a boolean or null, and whole numbers; none is a float.
pub push_line-requires : goal.push_line-requires
push_line-requires c = record {
  no_float = (
      let plain = subst HaveNoFloat (sym c.in_ok-wanted.ensures)
      (no_float-lans c.args.topology.now c.args.right.now.wanted.now) in
      ap has_float c.in_ok-value.ensures
      ∙ no_float-right_data c.args.whole c.args.right.now.flow c.flow-listed.result.now
      c.args.right.now.copies c.args.right.now.tree (map data_of c.in_ok-wanted.wanted.items) plain);
}
