use Rattle.std.proofs.Common.{◌≡◌, ℕ, List, sym, ap, ◌∙◌}
use Rattle.mc_asked.specs.WantStates.{StatedWantValue, WantStatesValue, states_with_row_if_want}
use Rattle.mc_asked.proofs.WantStateLemmas.{rows-at_both, rows-of_group}
use Rattle.mc_asked.proofs.want_states.WantStatesRowFold.add.Goals as goal

-- An (S,G) entry counts only for two wants, that of any source of G and that of S and G. Every other want
-- keeps its state.
pub returns-then-not-is_unspecified : goal.returns-then-not-is_unspecified
returns-then-not-is_unspecified c =
    let before = c.args.self.now in
    let key = c.args.key.now in
    let entry = c.args.entry.now in
    let first : c.add_at.new.self ≡ states_with_row_if_want (key.1, 0) before key entry =
    c.add_at.ensures ∙ ap (λ (u : ℕ). states_with_row_if_want (key.1, u) before key entry)
    c.unspecified.ensures in
    c.add_at-then-not-is_unspecified.ensures
    ∙ ap (λ (s : WantStatesValue). states_with_row_if_want (key.1, key.0) s key entry) first
    ∙ ap (λ (l : List StatedWantValue). record { vifs = before.vifs; wants = l })
    (rows-at_both before.vifs key entry before.wants
    (sym c.if-not-is_unspecified.ensures))

-- A (*,G) entry counts only for the wants of G. Every other want keeps its state.
pub returns-else-is_unspecified : goal.returns-else-is_unspecified
returns-else-is_unspecified c =
    let before = c.args.self.now in
    c.add_to_group.ensures
    ∙ ap (λ (l : List StatedWantValue). record { vifs = before.vifs; wants = l })
    (rows-of_group before.vifs c.args.key.now c.args.entry.now before.wants
    (sym c.if-not-is_unspecified.ensures) (sym c.if-is_unspecified.ensures))
