use Rattle.std.proofs.Common.{◌≡◌, ℕ, ◌+◌, List, [], ◌∷◌, ◌++◌, length, map, take, sym, ap, ◌∙◌, arith}
use Rattle.std.proofs.Common.{length-take}
use Rattle.std.proofs.lemmas.List.{length-map, map-append, take_all, take_more}
use Rattle.mc_theory.specs.Lists.{below}
use Rattle.mc_asked.specs.AskedLines.{service_pairs, services_of_lans}
use Rattle.mc_asked.specs.LanWants.{LanWantsValue}
use Rattle.mc_asked.specs.PairParts.{with_parts}
use Rattle.mc_asked.proofs.asked_lines.with_service_lans.Goals as goal

-- Before the first LAN no service has any.
pub loop-number-init : goal.loop-number-init
unfolding below
loop-number-init c = record {
  count = ap (λ (l : List ((ℕ × ℕ) × List ℕ)). length l) c.in_ok-lines.ensures ∙ length-map
      c.args.services.now _;
  lines = c.in_ok-lines.ensures;
}

-- The LAN's services are one part more, and its number is the count of the parts before.
pub loop-number-preserved : goal.loop-number-preserved
loop-number-preserved c =
    let lans = c.args.lans.now in
    let i = c.loop-number.number in
    let own : LanWantsValue = c.index-lans-number.result in
    let parts = services_of_lans (take i lans) in
    let size : length parts ≡ i =
    omega (arith, length-map (take i lans) service_pairs, length-take i lans, c.loop-number-test.true) in
    let next : parts ++ c.deref.result.now ∷ [] ≡ services_of_lans (take (i + 1) lans) =
    ap (λ (o : List (ℕ × ℕ)). parts ++ o ∷ []) (c.deref.ensures.value ∙ c.in_ok-own.ensures)
    ∙ sym (map-append service_pairs (take i lans) (own ∷ []))
    ∙ ap (map service_pairs) (sym (take_more lans i own c.loop-number-test.true
    ∙ ap (λ (l : LanWantsValue). take i lans ++ l ∷ []) (sym c.index-lans-number.is))) in
    record {
      count = c.in_ok-add_lan.ensures.count;
      lines = c.in_ok-add_lan.ensures.added parts size c.loop-number.invariant.lines
          ∙ ap (λ (ps : List (List (ℕ × ℕ))). map (with_parts ps) c.args.services.now) next;
    }

-- After the last LAN the parts are the services of all.
pub returns : goal.returns
returns c =
    c.loop-number.invariant.lines
    ∙ ap (λ (ls : List LanWantsValue). map (with_parts (services_of_lans ls)) c.args.services.now)
    (take_all c.loop-number.number c.args.lans.now c.loop-number-test.false)
