use Rattle.std.proofs.Common.{◌≡◌, ◌+◌, ◌<◌, length, take, cond, Some, arith, sym, ◌∙◌, ap}
use Rattle.std.proofs.lemmas.List.{get_or_default}
use Rattle.mc_tables.specs.UnlistedRows.{UnlistedRow, repeats, lesser_or, first_repeat}
use Rattle.mc_tables.proofs.SortedRowLemmas.{first_repeat-scan_none, first_repeat-scan_step}
use Rattle.mc_tables.proofs.summary.unlisted_rows.first_repeat_of_sorted.Goals as goal
use Rattle.mc_tables.proofs.summary.unlisted_rows.first_repeat_of_sorted.Goals.{then-repeats, else-repeats}

-- One row repeats none.
pub loop-i-init : goal.loop-i-init
loop-i-init c = sym (first_repeat-scan_none c.args.rows.now)

-- In sorted rows, one that repeats an earlier line has the same key as the one before it.
pub loop-i-preserved : goal.loop-i-preserved
loop-i-preserved c =
    let rows = c.args.rows.now in
    let i = c.loop-i.i in
    let first = c.loop-i.first in
    let a : UnlistedRow = c.index-rows-i-in-loop-i.result in
    let b : UnlistedRow = c.index-rows-i.result in
    let fits : i < length rows = omega arith in
    let step : cond (repeats b a) (Some (lesser_or b.1 first)) first ≡ first_repeat (take (i + 1) rows) =
    first_repeat-scan_step rows c.requires.sorted i first a b (omega arith) fits c.loop-i.invariant
    c.index-rows-i-in-loop-i.is c.index-rows-i.is in
    elim c.if-repeats.branch [
      | then-repeats w ↦
          w.first-is
          ∙ ap Some w.lesser_or.ensures
          ∙ ap (λ (r : UnlistedRow). Some (lesser_or r.1 first))
          (get_or_default rows i w.index-rows-i-then-repeats.result b fits
          ∙ sym c.index-rows-i.is)
          ∙ ap (λ t. cond t (Some (lesser_or b.1 first)) first)
          (sym w.if-repeats.true ∙ c.repeats.ensures)
          ∙ step
      | else-repeats w ↦
          w.first-is
          ∙ ap (λ t. cond t (Some (lesser_or b.1 first)) first)
          (sym w.if-repeats.false ∙ c.repeats.ensures)
          ∙ step
    ]
