use Rattle.std.proofs.Common.{List, ap, ◌∙◌, sym}
use Rattle.serde_json.specs.Data.{Data}
use Rattle.serde_json.specs.Written.{has_float}
use Rattle.mc_json.specs.RowData.{list_data}
use Rattle.mc_json.proofs.NoFloatLemmas.{no_float-routers}
use Rattle.mc_json.proofs.end_lines.push_without_line.Goals as goal

-- The names are texts, and no float.
pub push_list_line-requires : goal.push_list_line-requires
push_list_line-requires c = record {
  no_float = (
      ap (λ (ds : List Data). has_float (list_data ds)) c.in_ok-names.ensures
      ∙ no_float-routers c.args.topology.now c.args.routers.now);
}

-- The line is that of the list of these names, which is no line where the list is empty.
pub returns : goal.returns
returns c = rw (sym c.in_ok-names.ensures) c.in_ok-push_list_line.ensures
