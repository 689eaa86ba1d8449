use Rattle.std.proofs.Common.{◌<◌, Some, length, refl, sym, ap, ◌∙◌, arith}
use Rattle.std.proofs.lemmas.List.{length-set}
use Rattle.mc_forward.proofs.VifLanLemmas.{have_vifs-start, have_vifs-more_unplaced}
use Rattle.mc_forward.proofs.VifLanLemmas.{have_vifs-more_placed, slice_index_or-from_read}
use Rattle.mc_forward.proofs.interfaces.add_router.Goals as goal
use Rattle.mc_forward.proofs.interfaces.add_router.Goals.{in-Some+in_ok-push, in_default}

-- Before the first vif no list has grown.
pub loop-vif-init : goal.loop-vif-init
loop-vif-init c = record { count = refl; have = have_vifs-start _ _ _ }

-- The LAN that a vif is placed on has a list.
pub index_mut-list-requires : goal.index_mut-list-requires
index_mut-list-requires c =
    let inside : c.loop-vif.vif < length c.args.vif_lans.now =
    omega (arith, c.loop-vif-test.true, c.type_inv.vif_lans) in
    let lt = c.requires.listed_lans c.loop-vif.vif c.in-Some.lan
    (slice_index_or-from_read c.args.vif_lans.now c.loop-vif.vif _ _ inside c.in-Some.is) in
    omega (arith, lt, c.lan.view_is, c.loop-vif.invariant.count, c.loop-vif.lists.ok.0)

-- A placed vif is pushed on its own LAN's list and no other; one that is placed nowhere changes no
-- list.
pub loop-vif-preserved : goal.loop-vif-preserved
loop-vif-preserved c =
    let lists = c.loop-vif.lists.items in
    let inside : c.loop-vif.vif < length c.args.vif_lans.now =
    omega (arith, c.loop-vif-test.true, c.type_inv.vif_lans) in
    elim c.match-vif_lans-vif.branch [
      | in-Some+in_ok-push w ↦ (
          let at = slice_index_or-from_read c.args.vif_lans.now c.loop-vif.vif _ _ inside w.in-Some.is in
          let lt = c.requires.listed_lans c.loop-vif.vif w.in-Some.lan at in
          let within : w.lan.inside.0 < length lists =
          omega (arith, lt, w.lan.view_is, c.loop-vif.invariant.count) in
          rw w.lists-is (record {
            count = length-set lists w.lan.inside.0 w.push.new.self ∙ c.loop-vif.invariant.count;
            have = have_vifs-more_placed c.args.lists.now.items lists c.args.vif_lans.now c.args.router
                c.loop-vif.vif w.lan.inside.0 w.index_mut-list.result.now
                w.push.new.self within w.index_mut-list.ensures.value w.in_ok-push.ensures
                (at ∙ ap Some (sym w.lan.view_is)) c.loop-vif.invariant.have;
          }))
      | in_default w ↦ (
          let at = slice_index_or-from_read c.args.vif_lans.now c.loop-vif.vif _ _ inside w.in_default.is in
          rw w.lists-is (record {
            count = c.loop-vif.invariant.count;
            have = have_vifs-more_unplaced c.args.lists.now.items lists c.args.vif_lans.now c.args.router
                c.loop-vif.vif at c.loop-vif.invariant.have;
          }))
    ]
