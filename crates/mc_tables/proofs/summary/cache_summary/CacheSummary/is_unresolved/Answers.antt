-- The keys that have a number are those with an unresolved row.
use Rattle.std.proofs.Common.{ℕ, ◌∙◌, sym, ap}
use Rattle.std.specs.Prelude.{is_some}
use Rattle.std.specs.FinSet as set
use Rattle.mc_tables.specs.Summary.{SummaryValue}
use Rattle.mc_tables.proofs.SummaryStepLemmas.{contains-numbered_keys}
use Rattle.mc_tables.proofs.summary.cache_summary.CacheSummary.is_unresolved.Goals as goal

pub returns : goal.returns
returns c =
    let key : ℕ × ℕ = (c.args.source, c.args.group) in
    c.is_some.ensures
    ∙ ap is_some c.number_with_hint.ensures
    ∙ sym (contains-numbered_keys c.self.inside.unresolved.numbers key)
    ∙ ap (λ (s : SummaryValue). set.contains s.unresolved key) c.self.view_is
