-- Sorting permutes the groups, and a set doesn't depend on their order.
use Rattle.std.proofs.Common.{◌∙◌, List, ℕ, ap, arith, drop, length, subst}
use Rattle.std.proofs.lemmas.Cmp.{nat_cmp_total}
use Rattle.std.proofs.lemmas.List.{take_at}
use Rattle.std.specs.FinMap.{nat_cmp-IsAntisymmetric}
use Rattle.std.specs.FinSet as set
use Rattle.std.specs.List.Sorted.{IsPermutation}
use Rattle.std.specs.Ordering.{nat_cmp}
use Rattle.mc_tables.specs.CacheNumbers.{KeptRowsValue}
use Rattle.mc_tables.specs.FlatRows.{entries_of}
use Rattle.mc_tables.proofs.CacheMapLemmas.{table_from_numbers}
use Rattle.mc_tables.proofs.ListedLemmas.{from_list-permutation}
use Rattle.mc_tables.proofs.cache.cache_rows.CacheRows.with_sorted_groups.Goals as goal

pub returns-clause-table : goal.returns-clause-table
returns-clause-table c =
    let inside = c.self.inside in
    let groups = inside.groups in
    let es = entries_of inside.entries.lists in
    let sorted = c.sort_by_digits.new.addresses in
    let whole = take_at sorted (drop (length sorted) groups.items) groups.len
    (omega (arith, c.sort_by_digits.auto.addresses, c.deref_mut.ensures.len)) in
    let moved = subst (λ (l : List ℕ). IsPermutation l sorted) c.deref_mut.ensures.value
    c.sort_by_digits.ensures.permutation in
    ap (table_from_numbers inside.numbers.numbers es)
    (ap (set.from_list {R = nat_cmp}) whole
    ∙ from_list-permutation nat_cmp_total nat_cmp-IsAntisymmetric groups.items sorted moved)
    ∙ ap (λ (kept : KeptRowsValue). kept.table) c.self.view_is
