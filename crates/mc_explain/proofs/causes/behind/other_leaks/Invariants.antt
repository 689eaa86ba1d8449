use Rattle.std.proofs.Common.{◌≡◌, filter, take}
use Rattle.mc_forward.specs.FlightsInDomain.{net_in}
use Rattle.mc_explain.specs.Behind.{is_other_leak}
use Rattle.mc_explain.proofs.causes.behind.other_leaks.Given as goal

-- the list has the strays so far that routers sent by other interfaces than the finding's
abbrev pub invariant-loop-stray : goal.invariant-loop-stray
invariant-loop-stray l =
    l.others.items ≡ filter (is_other_leak (net_in l.fn.view) l.fn.own) (take l.stray-index l.strays)
