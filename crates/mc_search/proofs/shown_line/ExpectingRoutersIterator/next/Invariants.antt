use Rattle.std.proofs.Common.{◌≡◌, drop}
use Rattle.mc_search.specs.ExpectingRouters.{expecting_routers}
use Rattle.mc_search.proofs.shown_line.ExpectingRoutersIterator.next.Given as goal

-- no line so far is about an expecting router, so the routers are those of the lines that are left
abbrev pub invariant-loop-index : goal.invariant-loop-index
invariant-loop-index l = expecting_routers (drop l.index l.lines) ≡ expecting_routers l.lines
