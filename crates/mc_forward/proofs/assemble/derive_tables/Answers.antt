use Rattle.std.proofs.Common.{ℕ, Option, List, map, length, ap, ◌∙◌, arith, []}
use Rattle.mc_theory.specs.Lists.{below}
use Rattle.mc_forward.specs.Assembling.{domain_with, interfaces_by_vif_lans}
use Rattle.mc_forward.proofs.DomainLemmas.{length-vif_lans_of}
use Rattle.mc_forward.proofs.VifLanLemmas.{vif_lan_in-below_lan_count, interfaces_by_vif_lans-interfaces_of}
use Rattle.mc_forward.proofs.WantsLemmas.{is_domain-from_parts}
use Rattle.mc_forward.proofs.assemble.derive_tables.Goals as goal

-- There is one list of LANs for each router, and a topology has at most 256 routers.
pub interfaces_of_lans-requires-clause-at_most_256 : goal.interfaces_of_lans-requires-clause-at_most_256
interfaces_of_lans-requires-clause-at_most_256 g c =
    let d = domain_with c.args.topology.now (map g.T.HasVifs.vifs_of c.args.tables.now) [] [] in
    let size = ap length c.in_ok-vif_lans.ensures.vif_lans ∙ length-vif_lans_of d in
    let at_most_256 = c.lans.ensures.rules.few_routers in
    omega (arith, size, at_most_256, ap length c.deref.ensures.value)

-- A vif is placed by an interface of the topology, which is on one of its LANs.
pub interfaces_of_lans-requires-clause-listed : goal.interfaces_of_lans-requires-clause-listed
interfaces_of_lans-requires-clause-listed g c = λ router vif lan at.
    let d = domain_with c.args.topology.now (map g.T.HasVifs.vifs_of c.args.tables.now) [] [] in
    let lt = vif_lan_in-below_lan_count d c.deref.result.now c.lans.ensures.rules
    c.in_ok-vif_lans.ensures.rules (c.deref.ensures.value ∙ c.in_ok-vif_lans.ensures.vif_lans)
    router vif lan at in
    omega (arith, lt, c.lans.ensures.count)

-- Both look-up tables were computed from the topology and the vifs, which are the domain's, whatever
-- rows and answers it is given.
pub returns : goal.returns
returns g c = λ rows wants are_rows answers.
    let t = c.args.topology.now in
    let vifs = map g.T.HasVifs.vifs_of c.args.tables.now in
    let d = domain_with t vifs rows wants in
    let by : List (List (Option ℕ)) → ℕ → List (List (ℕ × ℕ)) =
    λ ps lans. map (interfaces_by_vif_lans ps (length ps)) (below lans) in
    record {
      domain = is_domain-from_parts t vifs rows wants c.lans.ensures.rules
          c.in_ok-vif_lans.ensures.rules are_rows answers;
      vif_lans = c.in_ok-vif_lans.ensures.vif_lans;
      interfaces = c.in_ok-interfaces.ensures.ok ∙ ap (λ ps. by ps c.lans.result) c.deref.ensures.value
          ∙ ap (by c.in_ok-vif_lans.vif_lans.items) c.lans.ensures.count
          ∙ interfaces_by_vif_lans-interfaces_of d c.in_ok-vif_lans.vif_lans.items
          c.in_ok-vif_lans.ensures.rules c.in_ok-vif_lans.ensures.vif_lans;
    }
