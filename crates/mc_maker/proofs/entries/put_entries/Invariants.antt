use Rattle.mc_forward.specs.FlightsInDomain.{net_in}
use Rattle.mc_maker.proofs.FilledLemmas.{EntriesSoFar}
use Rattle.mc_maker.proofs.entries.put_entries.Given as goal

-- the places hold the first entry of each LAN, of the entries of the copies so far
abbrev pub invariant-loop-copy : goal.invariant-loop-copy
invariant-loop-copy l = EntriesSoFar (net_in l.fn.flow) l.by_lan l.fn.by_lan l.fn.copies
    l.copy-index
