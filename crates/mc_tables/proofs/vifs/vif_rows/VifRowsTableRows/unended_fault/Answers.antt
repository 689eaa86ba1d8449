-- A line without a line feed is refused, whatever is in it.
use Rattle.std.proofs.Common.{Err, ◌∙◌, ap, sym}
use Rattle.mc_tables.proofs.VifPieceLemmas.{vifs_from_lines-unended}
use Rattle.mc_tables.proofs.vifs.vif_rows.VifRowsTableRows.unended_fault.Goals as goal

pub returns : goal.returns
returns c = λ bytes.
    vifs_from_lines-unended c.args.self.now c.args.number bytes ∙ ap Err (sym c.at.ensures)
