-- Lines are read one after the other, and no rows break no rule.
use Rattle.mc_tables.proofs.VifPieceLemmas.{vif_rows-valid_none, vifs_read_in_steps}
use Rattle.mc_tables.proofs.vifs.vif_reader.VifReader.new.Goals as goal

pub with_rows-requires : goal.with_rows-requires
with_rows-requires c = record { steps = vifs_read_in_steps; valid = rw c.new.ensures vif_rows-valid_none }
