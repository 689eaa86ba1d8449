use Rattle.std.proofs.Common.{◌≡◌, filter, ap, rules, ◌∙◌}
use Rattle.std.proofs.lemmas.Fn.{filter_same}
use Rattle.mc_asked.specs.Indexes.{is_of_merged_filter_by}
use Rattle.mc_asked.specs.ListWants.{is_of_merged_filter}
use Rattle.mc_asked.proofs.WantLemmas.{filter-equal_tests, is_of_merged_filter-by_index}
use Rattle.mc_asked.proofs.wants.wants_among.Goals as goal

-- `retain` keeps what passes the test by the index of EXCLUDE groups, and that test agrees with the search
-- through the records.
pub returns : goal.returns
returns c =
    let records = c.args.list.now in
    let excluded = c.in_ok-excluded.excluded in
    let kept : c.retain.new.self.items
    ≡ filter (is_of_merged_filter_by excluded) c.in_ok-wants.wants.items =
    filter_same _ _ _ (λ x b f' k. search rules) _ _ c.retain.ensures.filtered in
    kept ∙ filter-equal_tests (is_of_merged_filter_by excluded) (is_of_merged_filter records)
    c.in_ok-wants.wants.items
    (is_of_merged_filter-by_index records excluded c.in_ok-excluded.ensures)
    ∙ ap (filter (is_of_merged_filter records))
    c.in_ok-wants.ensures
