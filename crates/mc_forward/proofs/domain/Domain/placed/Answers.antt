use Rattle.std.proofs.Common.{ℕ, length, get_or, sym, ap, subst, arith, ◌∙◌}
use Rattle.mc_forward.specs.Domains.{IsDomain}
use Rattle.mc_forward.specs.DomainParts.{vif_lans_of}
use Rattle.mc_forward.proofs.DomainLemmas.{length-vif_lans_of, vif_lans-placed_of, placed-below_lan_count}
use Rattle.mc_forward.proofs.domain.Domain.placed.Goals as goal

-- There is a list of LANs for each router.
pub index-vif_lans-requires : goal.index-vif_lans-requires
index-vif_lans-requires c =
    let derived = c.self.invariant.vif_lans ∙ ap vif_lans_of c.self.view_is in
    omega (arith, ap length derived, length-vif_lans_of c.args.self.now, c.router.view_is)

-- The list at the router's number has at each vif the LAN on which the topology places it.
pub returns-clause-lan : goal.returns-clause-lan
returns-clause-lan c =
    let all = c.self.inside.derived.vif_lans.items in
    let ok = subst IsDomain c.self.view_is c.self.invariant.domain in
    let derived = c.self.invariant.vif_lans ∙ ap vif_lans_of c.self.view_is in
    c.vif_lan.ensures
    ∙ vif_lans-placed_of c.args.self.now all _ c.args.router c.args.vif ok.vifs derived
    c.requires.listed_router
    (c.index-vif_lans.ensures
    ∙ ap (λ (k : ℕ). get_or all k c.index-vif_lans.result.now) c.router.view_is)

-- A vif is placed by an interface of the topology, which is on one of its LANs.
pub returns-clause-listed : goal.returns-clause-listed
returns-clause-listed c =
    let ok = subst IsDomain c.self.view_is c.self.invariant.domain in
    placed-below_lan_count c.args.self.now c.args.router c.args.vif ok c.vif_lan.result
    (sym (returns-clause-lan c))
