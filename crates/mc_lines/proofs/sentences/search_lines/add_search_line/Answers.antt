-- The line that is added is the one of this kind of line of a search.
use Rattle.mc_lines.proofs.sentences.search_lines.add_search_line.Goals as goal

pub returns-in-Unresolved : goal.returns-in-Unresolved
returns-in-Unresolved g c = rw c.in-Unresolved.is c.add_router_line-in-Unresolved.ensures

pub returns-in-NoRouter : goal.returns-in-NoRouter
returns-in-NoRouter g c = rw c.in-NoRouter.is c.add_lan_line.ensures
