-- Digits, a colon, digits and a space: the first word is an outgoing vif with these two numbers.
use Rattle.std.proofs.Common.{sym, ◌∙◌}
use Rattle.mc_tables.proofs.PlainRowLemmas.{words_of-oif}
use Rattle.mc_tables.proofs.cache.plain_row.unprinted_oif_at_front.Goals as goal

pub returns-clause-word : goal.returns-clause-word
returns-clause-word c =
    let found = words_of-oif c.without_spaces.result.now c.in_ok-vif.vif.now c.in_ok-vif.rest.now
    c.in_ok-threshold.threshold.now c.in_ok-threshold.rest.now c.in_ok-vif-2.vif
    c.in_ok-threshold-2.threshold c.in_ok-vif.ensures.parts c.in_ok-threshold.ensures.parts
    c.in_ok-vif.ensures.digits c.in_ok-threshold.ensures.digits (sym c.in_ok-vif-2.ensures)
    (sym c.in_ok-threshold-2.ensures) in
    (found.0, sym c.without_spaces.ensures.words ∙ found.1, found.2)
