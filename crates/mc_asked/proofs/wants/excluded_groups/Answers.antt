-- The distinct records are EXCLUDE records for the same groups.
use Rattle.std.proofs.Common.{IsTrue, ◌↔◌, Contains, subst}
use Rattle.std.proofs.lemmas.Result.{IfOk-weaker}
use Rattle.mc_filter.specs.FilterBuilding.{is_exclude_for}
use Rattle.mc_filter.proofs.SameRecordLemmas.{list_any-same}
use Rattle.mc_asked.proofs.wants.excluded_groups.Goals as goal

pub returns : goal.returns
returns c = IfOk-weaker c.excluded_groups_of.result _ _ (λ index of_distinct group.
    subst (λ b. Contains index group ↔ IsTrue b)
    (list_any-same (is_exclude_for group) c.distinct_records.result c.args.list.now c.distinct_records.ensures)
    (of_distinct group)) c.excluded_groups_of.ensures
