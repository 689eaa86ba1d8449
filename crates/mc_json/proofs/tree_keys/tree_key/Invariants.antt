use Rattle.std.proofs.Common.{◌≡◌, ◌++◌, map, take}
use Rattle.mc_forward.specs.FlightsInDomain.{net_in}
use Rattle.mc_json.specs.TreeKey.{taking_entry}
use Rattle.mc_json.proofs.tree_keys.tree_key.Given as goal

-- the entries so far
abbrev pub invariant-loop-entry : goal.invariant-loop-entry
invariant-loop-entry l =
    l.key.items ≡ l.entries ++ map (taking_entry (net_in l.view)) (take l.entry-index l.entries)
