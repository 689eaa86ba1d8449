use Rattle.std.proofs.Common.{◌∙◌}
use Rattle.mc_filter.proofs.AscendingLemmas.{binary_search-is_ok}
use Rattle.mc_filter.proofs.addresses.is_listed.Goals as goal

-- In an ascending list the binary search answers a place exactly if the address stands in the list.
pub returns : goal.returns
returns c = record {
  value = (
      c.is_ok.ensures.value
      ∙ binary_search-is_ok _ _ _ c.requires.ascending c.binary_search.ensures.position);
}
