use Rattle.std.proofs.Common.{ap, sym, ◌∙◌}
use Rattle.std.specs.Prelude.{◌&&◌, Some}
use Rattle.mc_tables.specs.ListedRows.{is_listed}
use Rattle.mc_asked.proofs.SharedPairLemmas.{is_ok-search}
use Rattle.mc_asked.proofs.unadmitted_sources.is_shared_any.Goals as goal

-- Among ascending wants a binary search succeeds exactly where the want is one of them.
pub returns-then-is_unspecified : goal.returns-then-is_unspecified
returns-then-is_unspecified c =
    let wants = c.args.wants.now in
    let want = c.args.want.now in
    c.is_ok.ensures.value
    ∙ is_ok-search wants want c.binary_search.result c.requires.sorted c.binary_search.ensures.bound
    c.binary_search.ensures.position
    ∙ ap (λ b. b && is_listed (Some wants) want) (sym c.if-is_unspecified.true ∙ c.is_unspecified.ensures)
