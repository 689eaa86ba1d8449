-- The new row was read as one that repeats neither an index nor a device.
use Rattle.std.proofs.Common.{sym, subst}
use Rattle.mc_text.specs.LineView.{line_text}
use Rattle.mc_tables.specs.VifTable.{AreValidVifRows}
use Rattle.mc_tables.proofs.VifPieceLemmas.{vif_rows-valid_push}
use Rattle.mc_tables.proofs.vifs.vif_rows.VifRows.add_row.Goals as goal

pub returns-clause-is_valid : goal.returns-clause-is_valid
returns-clause-is_valid c = λ is_valid.
    let line = line_text c.args.line.now in
    let read = rw c.as_slice.ensures.value at (sym c.in_ok-row.ensures) in
    let kept = vif_rows-valid_push c.self.inside.vifs.items line c.in_ok-row.row read
    (subst AreValidVifRows (sym c.self.view_is) is_valid) in
    rw c.in_ok-push.ensures.items kept
