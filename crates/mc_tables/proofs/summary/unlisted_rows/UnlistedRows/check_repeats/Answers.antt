use Rattle.std.proofs.Common.{◌≡◌, List, Err, sym, ◌∙◌, ap, subst}
use Rattle.std.specs.Prelude.{map}
use Rattle.mc_tables.specs.Distinct.{AreDistinct}
use Rattle.mc_tables.specs.UnlistedRows.{UnlistedRow, first_repeat, key_number, repeat_fault}
use Rattle.mc_tables.proofs.DistinctLemmas.{if_ok-from_unwrap_or}
use Rattle.mc_tables.proofs.UnlistedRowLemmas.{first_repeat-distinct, first_repeat-permuted}
use Rattle.mc_tables.proofs.summary.unlisted_rows.UnlistedRows.check_repeats.Goals as goal
use Rattle.mc_tables.proofs.summary.unlisted_rows.UnlistedRows.check_repeats.Goals.{in-Some, in-None}

-- Rows whose keys differ have no repeat.
pub returns-then-unwrap_or : goal.returns-then-unwrap_or
returns-then-unwrap_or c =
    let rows = c.self.inside.rows.items in
    let apart : AreDistinct (map key_number rows) =
    subst (λ (l : List UnlistedRow). AreDistinct (map key_number l)) c.deref.ensures.value
    (if_ok-from_unwrap_or c.are_keys_distinct.result (AreDistinct (map key_number c.deref.result.now))
    c.are_keys_distinct.ensures (sym c.unwrap_or.ensures ∙ c.if-unwrap_or.true)) in
    ap repeat_fault (sym (first_repeat-distinct rows apart) ∙ ap first_repeat c.self.view_is)

-- Which line repeats an earlier one first doesn't depend on the order of the rows.
pub returns : goal.returns
returns c =
    let found : c.first_repeat_of_sorted.result ≡ first_repeat c.args.self.now =
    c.first_repeat_of_sorted.ensures.value
    ∙ ap first_repeat c.as_slice.ensures.value
    ∙ first_repeat-permuted c.self.inside.rows.items c.sort_unstable.new.self.items
    c.sort_unstable.ensures.permutation
    ∙ ap first_repeat c.self.view_is in
    elim c.match-first_repeat_of_sorted.branch [
      | in-Some w ↦
          w.result-is ∙ ap Err w.at.ensures
          ∙ ap repeat_fault (sym w.in-Some.is ∙ found)
      | in-None w ↦ w.result-is ∙ ap repeat_fault (sym w.in-None.is ∙ found)
    ]
