-- An index repeats one exactly if an earlier row has it.
use Rattle.std.proofs.Common.{ℕ, ◌∙◌, ap}
use Rattle.mc_tables.specs.VifTable.{VifValue}
use Rattle.mc_tables.specs.VifReading.{index_repeats}
use Rattle.mc_tables.proofs.VifLookupLemmas.{list_any-index}
use Rattle.mc_tables.proofs.vifs.vif_table.repeats_index.Goals as goal

pub returns : goal.returns
returns c =
    c.any_has_index.ensures ∙ list_any-index c.row.inside.index c.args.earlier.now
    ∙ ap (λ (row : ℕ × VifValue). index_repeats c.args.earlier.now row) c.row.view_is
