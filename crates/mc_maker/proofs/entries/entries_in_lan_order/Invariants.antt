use Rattle.std.proofs.Common.{◌≡◌, ◌++◌, drop}
use Rattle.mc_maker.specs.EntriesByLan.{held_entries}
use Rattle.mc_maker.proofs.entries.entries_in_lan_order.Given as goal

-- what is collected so far, and then what the places that are left hold, is what all hold
abbrev pub invariant-loop-place : goal.invariant-loop-place
invariant-loop-place l = l.entries.items ++ held_entries (drop l.place-index l.fn.by_lan)
    ≡ held_entries l.fn.by_lan
