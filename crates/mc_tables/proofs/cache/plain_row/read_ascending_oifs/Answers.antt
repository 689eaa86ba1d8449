use Rattle.std.proofs.Common.{◌∙◌, sym, ap, arith, drop}
use Rattle.mc_text.specs.Lines.{words_of}
use Rattle.std.proofs.lemmas.List.{take_rest}
use Rattle.mc_tables.specs.OutgoingSteps.{oifs_after_words}
use Rattle.mc_tables.proofs.PlainRowLemmas.{greater_oif_is_appended}
use Rattle.mc_tables.proofs.FourOifLemmas.{oifs_after_words-ascending}
use Rattle.mc_tables.proofs.cache.plain_row.read_ascending_oifs.Goals as goal

-- A vif that isn't below the next one is greater than all before it, and goes behind them.
pub oifs-preserved : goal.oifs-preserved
oifs-preserved c =
    let found = c.in-Some-oif_at_front in
    let word = found.ensures.word in
    let oifs = c.oifs.oifs.items in
    let step = greater_oif_is_appended oifs found.oif c.oifs.next word.0 (words_of found.after.now) word.2
    c.oifs.invariant.1 (omega (arith, c.if-oif-next.false)) in
    let pushed = c.in_ok-push.ensures.items in (
      rw pushed
          (sym step.0 ∙ ap (oifs_after_words oifs) (sym word.1) ∙ c.oifs.invariant.0),
      rw pushed step.1,
    )

-- Four that ascend from the next one go behind those before them, one after another.
pub fours-preserved : goal.fours-preserved
fours-preserved c =
    let added = rw c.in-Some.is at c.in_ok-after.ensures.added in
    let oifs = c.fours.oifs.items in
    let rest = words_of (drop 28 c.fours.rest.now) in
    let step = oifs_after_words-ascending oifs c.fours.next added.0 added.1 c.in-Some.after rest added.4
    c.fours.invariant.1 in
    let pushed = added.3 in (
      rw (pushed, take_rest c.fours.rest.now 28)
          (sym step.0 ∙ ap (oifs_after_words oifs) (sym added.2) ∙ c.fours.invariant.0),
      rw pushed step.1,
    )
