use Rattle.std.proofs.Common.{◌≡◌, ◌+◌, drop}
use Rattle.mc_search.specs.ExpectingRouters.{leading_expected}
use Rattle.mc_search.proofs.shown_line.leading_expected.Given as goal

-- all lines so far are about routers that expect copies from the LAN, so the count is theirs and that of
-- the leading ones left
abbrev pub invariant-loop-index : goal.invariant-loop-index
invariant-loop-index l = l.index + leading_expected l.fn.lan (drop l.index l.fn.lines)
    ≡ leading_expected l.fn.lan l.fn.lines
