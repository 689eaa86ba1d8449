use Rattle.std.proofs.Common.{List, ◌++◌, [], ◌∷◌, ap, subst, sym, ◌∙◌}
use Rattle.std.specs.List.{AllByRecursion}
use Rattle.std.proofs.lemmas.List.{length-set}
use Rattle.mc_theory.specs.Nets.{Row}
use Rattle.mc_forward.specs.Domains.{IsValidRow}
use Rattle.mc_forward.specs.FlatRows.{rows_of}
use Rattle.mc_forward.specs.RowValues.{row_value}
use Rattle.mc_forward.proofs.RowLemmas.{all-push, is_valid_row-row_value, map_take-one_row_more}
use Rattle.mc_forward.proofs.flow_rows.flow_rows_of.Goals as goal

-- The row of the next flow follows those of the flows before it; a hint is overwritten in its place.
pub loop-flow-preserved : goal.loop-flow-preserved
loop-flow-preserved c =
    let flow = c.flow.result.now in
    let row = row_value c.row_of-row.result in
    record {
      rows = c.in_ok-push_row.ensures.added
          ∙ ap (λ (rs : List Row). rs ++ row ∷ []) c.loop-flow.invariant.rows
          ∙ map_take-one_row_more c.args.cache.now c.args.topology.now.flows c.loop-flow.flow flow row
          c.flow.ensures.flow c.row_of-row.ensures.row;
      valid = subst (AllByRecursion IsValidRow) (sym c.in_ok-push_row.ensures.added)
          (all-push IsValidRow (rows_of c.loop-flow.rows.lists) row c.loop-flow.invariant.valid
          (is_valid_row-row_value c.row_of-row.result c.row_of-row.ensures.valid));
      hints = length-set c.loop-flow.hints.items c.loop-flow.flow c.row_of-row.new.hint
          ∙ c.loop-flow.invariant.hints;
    }
