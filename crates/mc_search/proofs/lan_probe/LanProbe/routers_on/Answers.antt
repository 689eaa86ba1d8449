-- On one of the LANs.
use Rattle.std.proofs.Common.{ℕ, ◌<◌, length, sym, ap, subst, ◌∙◌}
use Rattle.std.proofs.lemmas.List.{length-map}
use Rattle.mc_theory.specs.Lists.{below}
use Rattle.mc_forward.specs.ListedTables.{facts}
use Rattle.mc_forward.proofs.BelowLemmas.{length-below}
use Rattle.mc_search.specs.SearchLine.{group_by_router}
use Rattle.mc_search.specs.TopologyLans.{interfaces_on_lan}
use Rattle.mc_search.proofs.lan_probe.LanProbe.routers_on.Goals as goal

-- There is a list of interfaces for each LAN.
pub on-requires : goal.on-requires
on-requires c = record {
  known = (
      let d = facts c.args.self.now.view.now.domain in
      let lans = length d.topology.lans in
      let size = ap length c.requires.valid.interfaces
      ∙ length-map (below lans) (interfaces_on_lan d) ∙ length-below lans in
      subst (λ (n : ℕ). c.args.lan < n) (sym size) c.requires.lan);
}

-- The interfaces that are kept for the LAN are those that the topology has on it.
pub returns : goal.returns
returns c = record {
  value = (
      c.new.ensures ∙ ap group_by_router (c.on.ensures.item (facts c.args.self.now.view.now.domain)
      c.requires.valid.interfaces c.requires.lan));
}
