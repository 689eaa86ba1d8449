use Rattle.std.proofs.Common.{◌∙◌}
use Rattle.mc_filter.proofs.AscendingLemmas.{binary_search-is_ok}
use Rattle.mc_asked.proofs.unadmitted.has_address.Goals as goal

-- Among ascending addresses a binary search succeeds exactly where the address is one of them.
pub returns : goal.returns
returns c =
    c.is_ok.ensures.value
    ∙ binary_search-is_ok _ _ _ c.requires.ascending c.binary_search.ensures.position
