use Rattle.std.proofs.Common.{◌≡◌, length, ap, ◌∙◌, arith}
use Rattle.std.proofs.lemmas.List.{length-replicate}
use Rattle.mc_theory.specs.Flights.{Copy}
use Rattle.mc_forward.proofs.PerLanLemmas.{holds_first-start}
use Rattle.mc_search.proofs.first_copies.FirstCopies.new.Goals as goal

-- No copy is stored yet, as none was seen.
pub record_first_copies-second-requires-clause-firsts : goal.record_first_copies-second-requires-clause-firsts
record_first_copies-second-requires-clause-firsts c =
    holds_first-start (λ (x : Copy). x.lan) c.in_ok-by_lan.by_lan _ c.in_ok-by_lan.ensures

-- There is a place for each LAN of the topology.
pub record_first_copies-second-requires-clause-lans : goal.record_first_copies-second-requires-clause-lans
record_first_copies-second-requires-clause-lans c = λ i x lt.
    let within = c.requires.within i x lt in
    let places : length c.in_ok-by_lan.by_lan ≡ c.lans.result =
    ap length c.in_ok-by_lan.ensures ∙ length-replicate _ _ in
    omega (arith, within, places, c.lans.ensures.count)
