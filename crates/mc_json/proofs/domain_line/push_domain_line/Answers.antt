use Rattle.std.proofs.Common.{ap, map, ◌∙◌}
use Rattle.std.specs.String.{string_bytes}
use Rattle.serde_json.specs.Written.{has_float}
use Rattle.mc_forward.specs.ListedTables.{facts}
use Rattle.mc_json.proofs.DomainNoFloatLemmas.{no_float-domain_data}
use Rattle.mc_json.proofs.domain_line.push_domain_line.Goals as goal

-- The object holds texts, lists, nulls and whole numbers, and no float, so that the printer's text of it is
-- fixed.
pub push_line-requires : goal.push_line-requires
push_line-requires c = record {
  no_float = (
      ap has_float c.in_ok-value.ensures
      ∙ no_float-domain_data (facts c.args.domain.now) (map string_bytes c.args.words.now));
}
