use Rattle.std.proofs.Common.{◌≡◌, ◌++◌, not, map, filter, length, take}
use Rattle.mc_theory.specs.Flights.{hearers, is_sender, waits_at}
use Rattle.mc_forward.specs.FlightsInDomain.{net_in}
use Rattle.mc_forward.proofs.copies.wait_at_hearers.Given as goal

-- The copies that wait so far, and those for the interfaces that are left, are together what is to
-- wait.
abbrev pub invariant-loop-interface : goal.invariant-loop-interface
invariant-loop-interface l = record {
  rest : l.waiting.items ++ map (waits_at l.fn.copy.ttl)
      (filter (λ i. not (is_sender l.fn.copy.sender i)) l.interface-iterator)
      ≡ l.fn.waiting.items ++ map (waits_at l.fn.copy.ttl) (hearers (net_in l.fn.view) l.fn.copy);
  kept : take (length l.fn.waiting.items) l.waiting.items ≡ l.fn.waiting.items;
}
