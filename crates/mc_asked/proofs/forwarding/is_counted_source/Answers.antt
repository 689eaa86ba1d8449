use Rattle.std.proofs.Common.{ap, ◌∙◌, sym, not}
use Rattle.mc_filter.proofs.AscendingLemmas.{binary_search-is_ok}
use Rattle.mc_asked.proofs.ForwardingLemmas.{is_err-not_ok, counted_any}
use Rattle.mc_asked.proofs.forwarding.is_counted_source.Goals as goal

-- For a want of any source a source counts where it isn't among the unadmitted ones, which is where a
-- binary search among them fails, since they ascend.
pub returns-then-is_unspecified : goal.returns-then-is_unspecified
returns-then-is_unspecified c =
    c.is_err.ensures.value ∙ is_err-not_ok c.binary_search.result
    ∙ ap not (binary_search-is_ok _ _ _ c.requires.ascending c.binary_search.ensures.position)
    ∙ counted_any c.args.unadmitted.now c.args.want.now c.args.origin
    (sym c.is_unspecified.ensures ∙ c.if-is_unspecified.true)
