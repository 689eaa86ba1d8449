use Rattle.std.proofs.Common.{map}
use Rattle.std.specs.Option.{option_copied}
use Rattle.mc_check.proofs.FirstEntriesLemmas.{FirstEntriesSoFar}
use Rattle.mc_check.proofs.entries_by_lan.put_first_entries.Given as goal

-- the entries so far name different LANs, and each is stored at the number of its LAN
abbrev pub invariant-loop-entry : goal.invariant-loop-entry
invariant-loop-entry l = FirstEntriesSoFar (map option_copied l.firsts) (map option_copied l.fn.firsts)
    l.fn.entries l.entry-index
