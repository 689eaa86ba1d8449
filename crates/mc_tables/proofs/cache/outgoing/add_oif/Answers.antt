-- A vif above all others has its place by ascending vif at the end, and repeats none.
use Rattle.std.proofs.Common.{sym, ap, ◌∙◌, Ok}
use Rattle.std.specs.Prelude.{nat_lt}
use Rattle.std.specs.List.{list_all}
use Rattle.mc_tables.proofs.OifLemmas.{oifs_with_word-last}
use Rattle.mc_tables.proofs.cache.outgoing.add_oif.Goals as goal

pub returns-then-all_below-clause-added : goal.returns-then-all_below-clause-added
returns-then-all_below-clause-added c =
    let vif = c.in_ok-vif.vif in
    let above = sym (c.all_below.ensures
    ∙ ap (list_all (λ other. nat_lt other.vif vif)) c.as_slice.ensures.value)
    ∙ c.if-all_below.true in
    oifs_with_word-last c.args.oifs.now.items c.args.word.now vif c.in_ok-vif.threshold
    (sym c.oif_of_word.ensures ∙ c.in_ok-vif.was) above
    ∙ ap Ok (sym c.in_ok-push.ensures.items)
