-- The set of a list with one more group behind it is the set of the list with the group put in.
use Rattle.std.proofs.Common.{List, ℕ, ◌∙◌, ap}
use Rattle.std.proofs.lemmas.Cmp.{nat_cmp_total}
use Rattle.std.specs.FinMap.{nat_cmp-IsAntisymmetric}
use Rattle.std.specs.FinSet as set
use Rattle.mc_tables.specs.CacheNumbers.{KeptRowsValue}
use Rattle.mc_tables.specs.CacheSteps.{group_added}
use Rattle.mc_tables.specs.FlatRows.{entries_of}
use Rattle.mc_tables.proofs.CacheMapLemmas.{table_from_numbers}
use Rattle.mc_tables.proofs.cache.cache_rows.CacheRows.add_group.Goals as goal

pub returns-clause-added : goal.returns-clause-added
returns-clause-added c =
    let inside = c.self.inside in
    ap (table_from_numbers inside.numbers.numbers (entries_of inside.entries.lists))
    (ap (λ (groups : List ℕ). set.from_list groups) c.in_ok-push.ensures.items
    ∙ set.from_list_push nat_cmp_total nat_cmp-IsAntisymmetric inside.groups.items c.args.group)
    ∙ ap (λ (kept : KeptRowsValue). group_added kept.table c.args.group) c.self.view_is
