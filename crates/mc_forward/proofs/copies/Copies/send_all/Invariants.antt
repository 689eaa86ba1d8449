use Rattle.std.proofs.Common.{◌≡◌, ◌+◌, ◌≤◌, drop}
use Rattle.mc_theory.specs.Flights.{sends}
use Rattle.mc_theory.specs.Events.{onto_lan_count, astray_count}
use Rattle.mc_forward.specs.Domains.{oif_pairs}
use Rattle.mc_forward.specs.FlightsInDomain.{net_in, Extends}
use Rattle.mc_forward.proofs.copies.Copies.send_all.Given as goal

-- Sending by the pairs that are left, from the copies so far, leads where sending by all pairs leads
-- from the old copies; and the counts so far and those of the pairs that are left make up those of all
-- pairs.
abbrev pub invariant-loop-oif : goal.invariant-loop-oif
invariant-loop-oif l = record {
  rest : sends (net_in l.fn.view) l.fn.taken.router l.fn.taken.ttl
      (oif_pairs (drop l.oif-index l.fn.oifs)) l.self
      ≡ sends (net_in l.fn.view) l.fn.taken.router l.fn.taken.ttl (oif_pairs l.fn.oifs) l.fn.self;
  copies : l.copies + onto_lan_count (net_in l.fn.view) l.fn.taken.router l.fn.taken.ttl
      (oif_pairs (drop l.oif-index l.fn.oifs))
      ≡ onto_lan_count (net_in l.fn.view) l.fn.taken.router l.fn.taken.ttl (oif_pairs l.fn.oifs);
  strays : l.strays + astray_count (net_in l.fn.view) l.fn.taken.router l.fn.taken.ttl
      (oif_pairs (drop l.oif-index l.fn.oifs))
      ≡ astray_count (net_in l.fn.view) l.fn.taken.router l.fn.taken.ttl (oif_pairs l.fn.oifs);
  few : l.copies + l.strays ≤ l.oif-index;
  kept : Extends l.fn.self l.self;
}
