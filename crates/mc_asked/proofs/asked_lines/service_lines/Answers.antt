use Rattle.std.proofs.Common.{ℕ, List, map, ap, sym, subst, ◌∙◌}
use Rattle.std.specs.List.Sorted.{IsStrictlySortedBy}
use Rattle.std.proofs.lemmas.List.Folds.{flat_map-map}
use Rattle.std.proofs.lemmas.Result.{IfOk-weaker}
use Rattle.mc_tables.specs.CacheTable.{key_cmp}
use Rattle.mc_tables.specs.Summary.{in_order}
use Rattle.mc_asked.specs.AskedLines.{service_pairs, services_of_lans}
use Rattle.mc_asked.specs.PairParts.{with_parts}
use Rattle.mc_asked.proofs.MergeLemmas.{is_strictly_sorted_by-in_order}
use Rattle.mc_asked.proofs.asked_lines.service_lines.Goals as goal

-- What is sorted without repeats ascends strictly.
pub with_service_lans-requires : goal.with_service_lans-requires
with_service_lans-requires c = record {
  sorted = subst (IsStrictlySortedBy key_cmp)
      (sym (c.deref.ensures.value ∙ c.sorted_without_repeats-services.ensures))
      (is_strictly_sorted_by-in_order c.in_ok-all_service_pairs.field-0.items);
  few = c.requires.few;
}

-- The services of all LANs in order, each once, are what `shared_pairs` shows where it shows all; each then
-- has its LANs.
pub returns : goal.returns
returns c =
    let shown = c.deref.ensures.value ∙ c.sorted_without_repeats-services.ensures
    ∙ ap in_order (c.in_ok-all_service_pairs.ensures
    ∙ sym (flat_map-map (λ (part : List (ℕ × ℕ)). part) service_pairs c.args.lans.now)) in
    IfOk-weaker c.with_service_lans.result _ _ (λ lines is.
    is ∙ ap (map (with_parts (services_of_lans c.args.lans.now))) shown) c.with_service_lans.ensures
