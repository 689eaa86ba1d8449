use Rattle.std.proofs.Common.{ℕ, List, ap, sym, subst, ◌∙◌}
use Rattle.std.specs.List.Sorted.{IsStrictlySortedBy}
use Rattle.std.proofs.lemmas.List.Folds.{flat_map-map}
use Rattle.mc_tables.specs.CacheTable.{key_cmp}
use Rattle.mc_tables.specs.Summary.{in_order, shown_pairs}
use Rattle.mc_asked.specs.LanWants.{LanWantsValue}
use Rattle.mc_asked.proofs.SharedPairLemmas.{is_strictly_sorted_by-shown_pairs}
use Rattle.mc_asked.proofs.asked_lines.shown_of_lans.Goals as goal

-- The kept wants of all LANs in order, each once, and of these all or the 20 lowest: that is what is shown
-- by the definition.
pub returns-clause-value : goal.returns-clause-value
returns-clause-value c =
    c.shown_wants.ensures
    ∙ ap (shown_pairs c.args.all) (c.sorted_without_repeats-wants.ensures
    ∙ ap in_order (c.in_ok-kept_wants_of.ensures
    ∙ sym (flat_map-map (λ (part : List (ℕ × ℕ)). part) (λ (own : LanWantsValue). own.lowest)
    c.args.lans.now)))

-- What is in order ascends, and so do its first pairs.
pub returns-clause-ascending : goal.returns-clause-ascending
returns-clause-ascending c =
    subst (IsStrictlySortedBy key_cmp)
    (sym (c.shown_wants.ensures ∙ ap (shown_pairs c.args.all) c.sorted_without_repeats-wants.ensures))
    (is_strictly_sorted_by-shown_pairs c.args.all c.in_ok-kept_wants_of.field-0.items)
