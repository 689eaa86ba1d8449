use Rattle.std.proofs.Common.{◌≡◌, ◌<◌, Some, length, map, slice_get, ap, subst, ◌∙◌, arith}
use Rattle.std.specs.Option.{option_map}
use Rattle.std.proofs.lemmas.List.{length-map}
use Rattle.std.proofs.lemmas.Option.{slice_get-map, slice_get_within}
use Rattle.mc_tables.specs.VifLookups.{IsValidVifTable}
use Rattle.mc_forward.specs.Assembling.{vif_lans_by_vifs}
use Rattle.mc_forward.specs.Domains.{VifsValue}
use Rattle.mc_forward.proofs.IndexLemmas.{slice_get-from_read, each_before-more}
use Rattle.mc_forward.proofs.VifLanLemmas.{map_below-none, map_below-push, vif_lans_by_vifs-own}
use Rattle.mc_forward.proofs.vif_lans.vif_lans_of_routers.Goals as goal

-- Before the first router there is no list, and no table to be valid.
pub loop-number-init : goal.loop-number-init
loop-number-init g c = record {
  done = map_below-none _ _ c.new-vif_lans.ensures.items;
  rules = λ router vifs lt at. absurd (omega (arith, lt));
}

-- The next router's list was made from its own table, which is a valid one as every `VifTable` is.
pub loop-number-preserved : goal.loop-number-preserved
loop-number-preserved g c =
    let t = c.args.topology.now in
    let ts = c.args.tables.now in
    let number = c.loop-number.number in
    let vifs_of = g.T.HasVifs.vifs_of in
    let own = c.index-tables-number.result in
    let lt : number < length ts =
    omega (
      arith,
      c.loop-number-test.true,
      c.routers-number-end.ensures.count,
      c.requires.vifs_per_router,
    ) in
    let at : slice_get (map vifs_of ts) number ≡ Some (vifs_of own) = slice_get-map vifs_of ts number
    ∙ ap (option_map vifs_of) (slice_get-from_read ts number own lt c.index-tables-number.is) in
    record {
      done = map_below-push _ c.loop-number.vif_lans.items c.push.new.self.items number
          c.vif_lans_of_router.result c.loop-number.invariant.done c.in_ok-push.ensures.items
          (c.vif_lans_of_router.ensures.vif_lans
          ∙ ap (λ (vifs : VifsValue). vif_lans_by_vifs t number vifs) c.vif_table-vifs.ensures
          ∙ vif_lans_by_vifs-own t (map vifs_of ts) number (vifs_of own) at);
      rules = each_before-more IsValidVifTable (map vifs_of ts) number (vifs_of own) at
          (subst IsValidVifTable c.vif_table-vifs.ensures c.vif_lans_of_router.ensures.rules)
          c.loop-number.invariant.rules;
    }

-- There is a table for each router, and each was seen to be valid.
pub returns-clause-rules : goal.returns-clause-rules
returns-clause-rules g c =
    let all = map g.T.HasVifs.vifs_of c.args.tables.now in
    let size = length-map c.args.tables.now g.T.HasVifs.vifs_of in
    record {
      routers = size ∙ c.requires.vifs_per_router;
      valid = λ router vifs at.
          let within = slice_get_within all router vifs at in
          c.loop-number.invariant.rules router vifs
          (omega (
            arith,
            within,
            size,
            c.loop-number-test.false,
            c.routers-number-end.ensures.count,
            c.requires.vifs_per_router,
          )) at;
    }
