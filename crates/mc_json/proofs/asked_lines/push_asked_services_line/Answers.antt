use Rattle.std.proofs.Common.{List, ap, ◌∙◌, sym}
use Rattle.serde_json.specs.Data.{Data}
use Rattle.serde_json.specs.Written.{has_float}
use Rattle.mc_json.specs.RowData.{list_data}
use Rattle.mc_json.proofs.NoFloatLemmas.{no_float-services}
use Rattle.mc_json.proofs.asked_lines.push_asked_services_line.Goals as goal

-- The services hold texts and lists, and no float.
pub push_list_line-requires : goal.push_list_line-requires
push_list_line-requires c = record {
  no_float = (
      ap (λ (ds : List Data). has_float (list_data ds)) c.in_ok-values.ensures
      ∙ no_float-services c.args.topology.now c.args.services.now);
}

-- The line is that of the list of these services, which is no line where the list is empty.
pub returns : goal.returns
returns c = rw (sym c.in_ok-values.ensures) c.in_ok-push_list_line.ensures
