use Rattle.std.proofs.Common.{◌≡◌, List, length, map, refl, sym, ap, ◌∙◌}
use Rattle.mc_asked.specs.GroupRun.{with_run}
use Rattle.mc_asked.specs.WantStates.{StatedWantValue, WantStatesValue, states_with_row, want_with_row}
use Rattle.mc_asked.proofs.GroupRunLemmas.{with_run-all}
use Rattle.mc_asked.proofs.OneKeyLemmas.{map-same_keys}
use Rattle.mc_asked.proofs.want_states.WantStates.add_to_all.Goals as goal
use Rattle.mc_asked.proofs.want_states.WantStates.add_to_all.Goals.{After-add_to_run}

-- The run from place 0 to the count is the whole list.
rows : (c : After-add_to_run)
    → c.add_to_run.new.wants.items
    ≡ map (want_with_row c.self.inside.vifs.now c.args.key.now c.args.entry.now) c.self.inside.wants.items
rows c =
    let ws = c.self.inside.wants.items in
    let row = want_with_row c.self.inside.vifs.now c.args.key.now c.args.entry.now in
    let count : c.len.result ≡ length ws = c.len.ensures ∙ c.self.inside.wants.ok.0 in
    c.add_to_run.ensures ∙ ap (λ n. with_run row (0, n) ws) count ∙ with_run-all row ws

-- A row changes no want, only its state, so that the keys are still the wants.
pub invariant_of-self : goal.invariant_of-self
invariant_of-self c =
    let row = want_with_row c.self.inside.vifs.now c.args.key.now c.args.entry.now in (
      c.self.invariant.0
          ∙ sym (ap (map (λ (w : StatedWantValue). w.want)) (rows c)
          ∙ map-same_keys (λ (w : StatedWantValue). w.want) row c.self.inside.wants.items (λ w. refl)),
      c.self.invariant.1,
      c.self.invariant.2,
    )

-- Each want has the row, and the vifs are the same.
pub returns : goal.returns
returns c =
    let vifs = c.self.inside.vifs.now in
    ap (λ (l : List StatedWantValue). record { vifs = vifs; wants = l }) (rows c)
    ∙ ap (λ (s : WantStatesValue). states_with_row s c.args.key.now c.args.entry.now) c.self.view_is
