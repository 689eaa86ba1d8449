-- Each router on a searched LAN has a line: an excluded one says so, and of another one its row or its
-- interface gives a line, or, where its row takes from the LAN itself, the line that it expects copies from
-- there.
use Rattle.mc_search.proofs.SearchNameLemmas.{names_router-search_lines}
use Rattle.mc_search.proofs.laws.a_search_names_each_router.Goals as goal

pub returns : goal.returns
returns c = λ d s missed i is listed h. names_router-search_lines d s missed i is.domain is.same listed h
