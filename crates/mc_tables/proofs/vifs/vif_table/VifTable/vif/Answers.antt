use Rattle.std.proofs.Common.{◌∙◌, sym, ap, subst}
use Rattle.std.specs.Prelude.{IsSome}
use Rattle.std.specs.Ordering.{nat_cmp}
use Rattle.std.specs.FinMap.{get, find, get-from_entries}
use Rattle.std.proofs.lemmas.Cmp.{nat_cmp_total}
use Rattle.mc_tables.specs.VifLookups.{IsValidVifTable}
use Rattle.mc_tables.proofs.VifLookupLemmas.{find-index, get-at_most_31}
use Rattle.mc_tables.proofs.TableRuleLemmas.{vif_rows-valid_table}
use Rattle.mc_tables.proofs.vifs.vif_table.VifTable.vif.Goals as goal

-- Indexes differ, so that the first row with the index is the map's.
pub returns-clause-found : goal.returns-clause-found
returns-clause-found c =
    c.vif_with_index.ensures ∙ find-index c.args.index c.as_slice.result.now
    ∙ ap (λ rows. find nat_cmp c.args.index rows) c.as_slice.ensures.value
    ∙ sym (get-from_entries nat_cmp_total c.self.inside.vifs.items c.args.index)
    ∙ ap (λ vifs. get vifs c.args.index) c.self.view_is

-- Each row has an index of at most 31.
pub returns-clause-numbered : goal.returns-clause-numbered
returns-clause-numbered c =
    λ i there. get-at_most_31 c.self.inside.vifs.items i c.self.invariant.2
    (subst (λ vifs. IsSome (get vifs i)) (sym c.self.view_is) there)

-- The rows keep the rules, and so does the table that is made of them.
pub returns-clause-rules : goal.returns-clause-rules
returns-clause-rules c =
    subst IsValidVifTable c.self.view_is
    (vif_rows-valid_table c.self.inside.vifs.items c.self.invariant.1 c.self.invariant.2)
