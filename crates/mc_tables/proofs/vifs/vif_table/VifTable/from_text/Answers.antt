-- Reading the whole text in one piece ends with what the text is read as.
use Rattle.std.proofs.Common.{refl, ◌∙◌}
use Rattle.mc_tables.specs.VifReading.{vifs_in}
use Rattle.mc_tables.specs.VifsSoFar.{vifs_if}
use Rattle.mc_tables.proofs.PieceLemmas.{whole_if-is}
use Rattle.mc_tables.proofs.vifs.vif_table.VifTable.from_text.Goals as goal

pub returns : goal.returns
returns c = λ there.
    c.read_whole.ensures.table there
    ∙ whole_if-is (vifs_if c.new.result) c.args.text.now (vifs_in c.args.text.now)
    (c.new.ensures.reads c.args.text.now) (λ more. rw more refl)
