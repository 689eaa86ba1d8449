use Rattle.std.proofs.Common.{◌≡◌, ℕ, ◌-◌, List, length, map, flat_map, sum_by, sym, ap, ap₂, subst}
use Rattle.std.proofs.Common.{◌∙◌, arith}
use Rattle.std.specs.List.Sorted.{IsStrictlySortedBy}
use Rattle.mc_tables.specs.CacheTable.{key_cmp}
use Rattle.mc_tables.specs.Summary.{SummaryValue}
use Rattle.mc_shown.specs.UnlistedPairs.{with_routers}
use Rattle.mc_shown.specs.UnlistedText.{shown_unlisted_pairs, count_rows_of_pairs}
use Rattle.mc_asked.proofs.SharedPairLemmas.{is_strictly_sorted_by-shown_pairs, sum_by-map_lengths}
use Rattle.mc_shown.proofs.unlisted.unlisted_pairs.UnlistedPairs.new.Goals as goal

-- The shown pairs are in ascending order, each once, so a pair can be found by halving.
pub with_routers-requires : goal.with_routers-requires
with_routers-requires c = record {
  sorted = (
      subst (IsStrictlySortedBy key_cmp) (sym (c.deref.ensures.value ∙ c.in_ok-pairs.ensures))
      (is_strictly_sorted_by-shown_pairs c.args.all (flat_map (λ (own : SummaryValue). own.lowest)
      c.args.summary.now)));
}

-- Each row of a shown pair is counted for the router that has it; the rows that are left are the further
-- ones. They are no more than all rows, of which each summary counts fewer than 2^32.
pub returns : goal.returns
returns c =
    let t = c.args.topology.now in
    let summary = c.args.summary.now in
    let pairs = shown_unlisted_pairs c.args.all summary in
    let shown : c.in_ok-shown.shown.items ≡ map (with_routers t summary) pairs =
    c.in_ok-shown.ensures.ok
    ∙ ap (map (with_routers t summary)) (c.deref.ensures.value ∙ c.in_ok-pairs.ensures) in
    let pair_rows : c.count_rows_of_pairs.result ≡ count_rows_of_pairs t summary pairs =
    c.count_rows_of_pairs.ensures
    ∙ ap (sum_by (λ (s : (ℕ × ℕ) × List ℕ). length s.1)) (c.deref-2.ensures.value ∙ shown)
    ∙ sum_by-map_lengths (with_routers t summary) pairs in
    record {
      shown = shown;
      further = c.saturating_sub-further.ensures
          ∙ ap₂ (λ (a b : ℕ). a - b) c.count_unlisted_rows.ensures.rows pair_rows;
      bounded = omega (arith, c.saturating_sub-further.ensures, c.count_unlisted_rows.ensures.bounded);
    }
