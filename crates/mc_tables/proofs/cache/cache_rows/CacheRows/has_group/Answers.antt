-- The groups are sorted, so that a binary search finds those that are there and no others.
use Rattle.std.proofs.Common.{List, ℕ, ◌∙◌, ap, subst, sym}
use Rattle.std.proofs.lemmas.Cmp.{nat_cmp_total}
use Rattle.std.specs.FinSet as set
use Rattle.std.specs.List.Sorted.{IsSorted}
use Rattle.std.specs.Ordering.{nat_cmp}
use Rattle.mc_tables.specs.CacheNumbers.{KeptRowsValue}
use Rattle.mc_tables.proofs.ListedLemmas.{is_ok-binary_search}
use Rattle.mc_tables.proofs.cache.cache_rows.CacheRows.has_group.Goals as goal

pub returns : goal.returns
returns c = record {
  value = (
      let groups : List ℕ = c.deref.result.now in
      let is = c.deref.ensures.value in
      let up : IsSorted nat_cmp groups =
      subst (λ (l : List ℕ). IsSorted nat_cmp l)
      (sym (is ∙ ap (λ (kept : KeptRowsValue). kept.groups) c.self.view_is)) c.requires.sorted in
      c.is_ok.ensures.value
      ∙ is_ok-binary_search nat_cmp_total groups c.args.group c.binary_search.result up
      c.binary_search.ensures.bound c.binary_search.ensures.position
      ∙ ap (λ (l : List ℕ). set.contains (set.from_list {R = nat_cmp} l) c.args.group) is
      ∙ ap (λ (kept : KeptRowsValue). set.contains kept.table.wildcards c.args.group) c.self.view_is);
}
