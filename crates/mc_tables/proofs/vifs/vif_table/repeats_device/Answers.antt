-- The device isn't `none`, so that it repeats one exactly if an earlier row has it.
use Rattle.std.proofs.Common.{ℕ, ◌∙◌, sym, ap, ◌≡◌, false}
use Rattle.std.specs.List.{list_any}
use Rattle.std.specs.Str.{bytes_eq}
use Rattle.mc_tables.specs.VifTable.{VifValue, no_device}
use Rattle.mc_tables.specs.VifReading.{device_repeats}
use Rattle.mc_tables.proofs.VifLookupLemmas.{device_repeats-by_rows}
use Rattle.mc_tables.proofs.vifs.vif_table.repeats_device.Goals as goal

pub returns : goal.returns
returns c =
    let device = c.device-device.ensures in
    let some : bytes_eq c.row.inside.vif.device no_device ≡ false =
    ap (λ d. bytes_eq d no_device) (sym device) ∙ sym c.eq.ensures ∙ c.if-eq.false in
    c.any_has_device.ensures
    ∙ ap (λ d. list_any (λ row. bytes_eq row.1.device d) c.args.earlier.now) device
    ∙ device_repeats-by_rows c.args.earlier.now (c.row.inside.index, c.row.inside.vif) some
    ∙ ap (λ (row : ℕ × VifValue). device_repeats c.args.earlier.now row) c.row.view_is
