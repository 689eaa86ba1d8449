use Rattle.std.proofs.Common.{◌∙◌, sym, ap, subst}
use Rattle.std.specs.Prelude.{IfSome}
use Rattle.mc_tables.specs.VifLookups.{HasDevice, IsValidVifTable, first_index_with}
use Rattle.mc_tables.proofs.VifLookupLemmas.{has_device-first_index_with, first_index_with-has_device}
use Rattle.mc_tables.proofs.VifLookupLemmas.{index_of-value}
use Rattle.mc_tables.proofs.TableRuleLemmas.{vif_rows-valid_table, answer-iff_has_device}
use Rattle.mc_tables.proofs.vifs.vif_table.VifTable.index_of.Goals as goal

-- Indexes differ, so that the first row with the device has it at its index. Devices other than `none`
-- differ, so that no other row has it.
pub returns-clause-exact : goal.returns-clause-exact
returns-clause-exact c =
    let device = c.args.device.now in
    let rows = c.self.inside.vifs.items in
    let first = c.index_with_device.ensures ∙ ap (first_index_with device) c.as_slice-vifs.ensures.value in
    let found = subst (λ vifs. IfSome c.index_with_device.result (λ index. HasDevice vifs index device))
    c.self.view_is
    (has_device-first_index_with device rows c.index_with_device.result c.self.invariant.0 first) in
    answer-iff_has_device c.args.self.now device c.index_with_device.result
    (sym c.eq.ensures ∙ c.if-eq.false) found
    (λ index some has. first ∙ first_index_with-has_device device rows index some c.self.invariant.1
    (subst (λ vifs. HasDevice vifs index device) (sym c.self.view_is) has))

-- The rows keep the rules, and so does the table that is made of them.
pub returns-clause-rules : goal.returns-clause-rules
returns-clause-rules c =
    subst IsValidVifTable c.self.view_is
    (vif_rows-valid_table c.self.inside.vifs.items c.self.invariant.1 c.self.invariant.2)

-- So they do where no device is asked for.
pub returns-then-eq-clause-rules : goal.returns-then-eq-clause-rules
returns-then-eq-clause-rules c =
    subst IsValidVifTable c.self.view_is
    (vif_rows-valid_table c.self.inside.vifs.items c.self.invariant.1 c.self.invariant.2)

-- In a valid table the definition's answer has the device as well, and only one index does.
pub returns-clause-value : goal.returns-clause-value
returns-clause-value c =
    index_of-value c.args.self.now c.args.device.now c.index_with_device.result
    (returns-clause-rules c) (returns-clause-exact c)
