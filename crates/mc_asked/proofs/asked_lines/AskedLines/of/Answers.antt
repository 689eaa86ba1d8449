use Rattle.std.proofs.Common.{◌≡◌, ℕ, ◌-◌, List, map, sym, ap, ap₂, subst, ◌∙◌}
use Rattle.std.specs.List.Sorted.{IsStrictlySortedBy}
use Rattle.mc_tables.specs.CacheTable.{key_cmp}
use Rattle.mc_asked.specs.AskedLines.{asked_lines, count_shown, wants_of_lans}
use Rattle.mc_asked.specs.PairParts.{with_parts}
use Rattle.mc_asked.proofs.SharedPairLemmas.{map-with_parts}
use Rattle.mc_asked.proofs.asked_lines.AskedLines.of.Goals as goal

-- The shown wants ascend, as `shown_of_lans` ensures.
pub with_lans-requires : goal.with_lans-requires
with_lans-requires c = record {
  sorted = subst (IsStrictlySortedBy key_cmp) (sym c.deref.ensures.value) c.in_ok-wants.ensures.ascending;
  few = c.requires.few;
}

-- The lines are the shown wants with their LANs, as defined. Their keys are the shown wants themselves,
-- which ascend; and what the lines don't count of all wants are the further ones.
pub returns : goal.returns
returns c =
    let lans = c.args.lans.now in
    let lines : c.in_ok-lines.lines.items ≡ asked_lines c.args.all lans =
    c.in_ok-lines.ensures.ok
    ∙ ap (map (with_parts (wants_of_lans lans))) (c.deref.ensures.value ∙ c.in_ok-wants.ensures.value) in
    record {
      lines = lines;
      ascending = subst (IsStrictlySortedBy key_cmp)
          (sym (ap (map (λ (line : (ℕ × ℕ) × List ℕ). line.0)) c.in_ok-lines.ensures.ok
          ∙ map-with_parts (wants_of_lans lans) c.deref.result.now))
          (subst (IsStrictlySortedBy key_cmp) (sym c.deref.ensures.value) c.in_ok-wants.ensures.ascending);
      further = c.saturating_sub-further.ensures
          ∙ ap₂ (λ (a b : ℕ). a - b) c.count_wants.ensures
          (c.count_shown.ensures ∙ ap count_shown (c.deref-2.ensures.value ∙ lines));
    }
