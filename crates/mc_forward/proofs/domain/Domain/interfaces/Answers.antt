use Rattle.std.proofs.Common.{ℕ, length, get_or, ap, arith, ◌∙◌}
use Rattle.mc_forward.specs.DomainParts.{interfaces_of}
use Rattle.mc_forward.proofs.DomainLemmas.{length-interfaces_of, interfaces_of-at_index}
use Rattle.mc_forward.proofs.domain.Domain.interfaces.Goals as goal

-- There is a list of interfaces for each LAN.
pub index-interfaces-requires : goal.index-interfaces-requires
index-interfaces-requires c =
    let derived = c.self.invariant.interfaces ∙ ap interfaces_of c.self.view_is in
    omega (arith, ap length derived, length-interfaces_of c.args.self.now, c.lan.view_is)

-- The list at the LAN's number was derived from the vifs alone, which are the same for every flow.
pub returns : goal.returns
returns c = record {
  each_flow = (λ flow.
      let all = c.self.inside.derived.interfaces.items in
      let derived = c.self.invariant.interfaces ∙ ap interfaces_of c.self.view_is in
      c.new.ensures
      ∙ interfaces_of-at_index c.args.self.now all _ c.args.lan flow derived c.requires.listed_lan
      (c.index-interfaces.ensures
      ∙ ap (λ (k : ℕ). get_or all k c.index-interfaces.result.now) c.lan.view_is));
}
