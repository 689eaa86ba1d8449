use Rattle.std.proofs.Common.{sym, subst}
use Rattle.std.specs.List.Sorted.{IsStrictlySortedBy}
use Rattle.mc_tables.specs.CacheTable.{key_cmp}
use Rattle.mc_asked.proofs.SharedPairLemmas.{is_strictly_sorted_by-shown}
use Rattle.mc_asked.proofs.classified_wants.ClassifiedWants.into_kept.Goals as goal

-- The wants ascend, and so do the first of them.
pub invariant_of-result : goal.invariant_of-result
invariant_of-result c =
    subst (IsStrictlySortedBy key_cmp) (sym c.shown_wants.ensures)
    (is_strictly_sorted_by-shown c.args.all c.args.self.asked.items c.requires.ascending)
