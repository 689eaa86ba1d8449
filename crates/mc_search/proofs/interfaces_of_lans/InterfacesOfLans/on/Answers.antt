-- The list at a LAN's number is that of the LAN, as there is one for each LAN, in their order.
use Rattle.std.proofs.Common.{ℕ, List, length, get_or, ap, ap₂, ◌∙◌}
use Rattle.std.proofs.lemmas.Option.{get_or_from_slice_get}
use Rattle.std.specs.Prelude.{slice_get}
use Rattle.mc_forward.proofs.BelowLemmas.{slice_get-map_below}
use Rattle.mc_search.specs.declared.listed_interface.ListedInterface.{ListedInterface}
use Rattle.mc_search.specs.TopologyLans.{interfaces_on_lan}
use Rattle.mc_search.proofs.interfaces_of_lans.InterfacesOfLans.on.Goals as goal

pub returns : goal.returns
returns c = record {
  item = (λ d same lt.
      let found = ap (λ (ls : List (List ListedInterface)). slice_get ls c.args.lan) same
      ∙ slice_get-map_below (interfaces_on_lan d) (length d.topology.lans) c.args.lan lt in
      c.deref.ensures.value ∙ c.behind-self.view_is ∙ c.index.ensures
      ∙ ap₂ (λ (ls : List (List ListedInterface)) (n : ℕ). get_or ls n c.index.result.now)
      c.self.view_is c.lan.view_is
      ∙ get_or_from_slice_get c.args.self.now c.args.lan (interfaces_on_lan d c.args.lan) c.index.result.now
      found);
}
