-- The index is one of the wants.
use Rattle.std.proofs.Common.{◌==◌, ◌∙◌, ℕ, ap}
use Rattle.std.specs.Prelude.{◌&&◌}
use Rattle.std.specs.List.{list_any}
use Rattle.mc_asked.specs.WantStates.{WantStatesValue, is_among_wants}
use Rattle.mc_asked.proofs.IndexLemmas.{has_pair-value}
use Rattle.mc_asked.proofs.want_states.WantStates.has.Goals as goal

pub returns : goal.returns
returns c =
    let want = c.args.want.now in
    has_pair-value c.self.inside.index c.self.inside.keys.items c.pair_number.result want c.has_number.result
    c.self.invariant.2 c.pair_number.ensures.number c.pair_number.ensures.pair c.has_number.ensures.means
    ∙ ap (list_any (λ (p : ℕ × ℕ). (p.0 == want.0) && (p.1 == want.1))) c.self.invariant.0
    ∙ ap (λ (s : WantStatesValue). is_among_wants s want) c.self.view_is
