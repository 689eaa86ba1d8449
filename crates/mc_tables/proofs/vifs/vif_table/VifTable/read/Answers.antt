use Rattle.std.proofs.Common.{◌∙◌}
use Rattle.mc_tables.proofs.VifLemmas.{vifs_in-from_denotes, vifs_result-denotes}
use Rattle.mc_tables.proofs.vifs.vif_table.VifTable.read.Goals as goal

-- A table that `vifs_in` answers is denoted by the text.
pub returns-clause-found : goal.returns-clause-found
returns-clause-found c = vifs_result-denotes c.args.text.now c.from_text.result c.from_text.ensures

-- A table that the text denotes is what `vifs_in` answers.
pub returns-clause-only : goal.returns-clause-only
returns-clause-only c =
    λ vifs denotes there. c.from_text.ensures there ∙ vifs_in-from_denotes c.args.text.now vifs denotes
