use Rattle.std.proofs.Common.{◌≡◌, ℕ, List, [], length, get_or, None, sym, ap, ◌∙◌}
use Rattle.std.proofs.Common.{arith}
use Rattle.std.proofs.lemmas.List.{get_or_default, length-map}
use Rattle.mc_theory.specs.Lists.{below}
use Rattle.mc_theory.specs.Nets.{Interface}
use Rattle.mc_forward.specs.Assembling.{interfaces_by_vif_lans}
use Rattle.mc_forward.proofs.BelowLemmas.{length-below}
use Rattle.mc_forward.proofs.IndexLemmas.{map_below-from_items}
use Rattle.mc_forward.proofs.VifLanLemmas.{lists-before_first_router, lists-after_next_router}
use Rattle.mc_forward.proofs.interfaces.interfaces_of_lans.Goals as goal

-- Before the first router each LAN has an empty list, which is that of no router's vifs.
pub loop-number-init : goal.loop-number-init
loop-number-init c = record {
  count = ap length c.in_ok-lists.ensures ∙ length-map {B = List Interface} (below c.args.lans)
      (λ lan. []) ∙ length-below c.args.lans;
  each = lists-before_first_router c.in_ok-lists.lists.items c.args.vif_lans.now c.args.lans
      c.in_ok-lists.ensures;
}

-- Each LAN has a list, and a vif of this router is placed on one of the LANs, as any router's is.
pub add_router-requires : goal.add_router-requires
add_router-requires c = record {
  listed_lans = (λ vif lan at.
      let row : c.index-vif_lans-number.result ≡ get_or c.args.vif_lans.now c.loop-number.number [] =
      c.index-vif_lans-number.is ∙ get_or_default c.args.vif_lans.now c.loop-number.number
      c.index-vif_lans-number.result [] c.loop-number-test.true in
      let lt = c.requires.listed c.loop-number.number vif lan (ap (λ os. get_or os vif None) (sym row)
      ∙ at) in
      omega (arith, lt, c.loop-number.invariant.count));
}

-- The next router's vifs stand behind those of the routers before it, on each LAN.
pub loop-number-preserved : goal.loop-number-preserved
loop-number-preserved c = record {
  count = c.in_ok-add_router.ensures.count ∙ c.loop-number.invariant.count;
  each = lists-after_next_router c.loop-number.lists.items c.add_router.new.lists.items c.args.vif_lans.now
      c.index-vif_lans-number.result c.args.lans
      c.loop-number.number c.loop-number.invariant.count c.loop-number-test.true
      c.index-vif_lans-number.is c.loop-number.invariant.each c.in_ok-add_router.ensures.each;
}

-- After the last router the list of each LAN has the vifs of them all.
pub returns : goal.returns
returns c = record {
  ok = (
      let end : c.loop-number.number ≡ length c.args.vif_lans.now =
      omega (arith, c.loop-number-test.false, c.loop-number.auto.number-end) in
      map_below-from_items c.loop-number.lists.items
      (interfaces_by_vif_lans c.args.vif_lans.now (length c.args.vif_lans.now))
      c.args.lans [] c.loop-number.invariant.count
      (λ lan lt. c.loop-number.invariant.each lan lt
      ∙ ap (λ (n : ℕ). interfaces_by_vif_lans c.args.vif_lans.now n lan) end));
}
