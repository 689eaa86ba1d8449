use Rattle.std.proofs.Common.{◌≡◌, ◌==◌, Bool, true, false, cond, List, arith, length, map, refl, subst}
use Rattle.std.proofs.Common.{sym, ap, ◌∙◌}
use Rattle.std.specs.List.Sorted.{IsStrictlySortedBy}
use Rattle.std.proofs.lemmas.List.{length-map}
use Rattle.mc_tables.specs.CacheTable.{key_cmp}
use Rattle.mc_asked.specs.WantStates.{StatedWantValue, WantStatesValue, states_with_row_if_group}
use Rattle.mc_asked.specs.WantStates.{want_with_row, want_with_row_if_group}
use Rattle.mc_asked.proofs.GroupRunLemmas.{with_run-of_keys}
use Rattle.mc_asked.proofs.OneKeyLemmas.{map-same_keys}
use Rattle.mc_asked.proofs.want_states.WantStates.add_to_group.Goals as goal
use Rattle.mc_asked.proofs.want_states.WantStates.add_to_group.Goals.{After-add_to_run}

-- The wants ascend, so that those of the group are next to each other: the run has exactly these.
rows : (c : After-add_to_run)
    → c.add_to_run.new.wants.items
    ≡ map (want_with_row_if_group c.args.group c.self.inside.vifs.now c.args.key.now c.args.entry.now)
    c.self.inside.wants.items
rows c =
    let row = want_with_row c.self.inside.vifs.now c.args.key.now c.args.entry.now in
    c.add_to_run.ensures
    ∙ with_run-of_keys (λ (w : StatedWantValue). w.want) row c.args.group c.deref.result.now
    c.self.inside.wants.items c.run_of_group-run.result (c.deref.ensures.value ∙ c.self.invariant.0)
    c.run_of_group-run.ensures

-- The keys ascend by the invariant.
pub run_of_group-run-requires : goal.run_of_group-run-requires
run_of_group-run-requires c = record {
  sorted = subst (IsStrictlySortedBy key_cmp) (sym c.deref.ensures.value) c.self.invariant.1;
}

-- There are as many wants as keys, so that a run of the keys is one of the wants.
pub add_to_run-requires : goal.add_to_run-requires
add_to_run-requires c =
    let count = ap length (c.deref.ensures.value ∙ c.self.invariant.0)
    ∙ length-map c.self.inside.wants.items (λ (w : StatedWantValue). w.want) in
    record {
      ordered = c.run_of_group-run.ensures.ordered;
      within = omega (arith, c.run_of_group-run.ensures.within, count);
    }

-- What keeps a want keeps it also if a test decides whether it is done.
same_want : (row : StatedWantValue → StatedWantValue) → ((w : StatedWantValue) → (row w).want ≡ w.want)
    → (w : StatedWantValue) (b : Bool) → (cond b (row w) w).want ≡ w.want
same_want row same w true = same w
same_want row same w false = refl

-- A row changes no want, only its state, so that the keys are still the wants.
pub invariant_of-self : goal.invariant_of-self
invariant_of-self c =
    let row = want_with_row_if_group c.args.group c.self.inside.vifs.now c.args.key.now c.args.entry.now in (
      c.self.invariant.0
          ∙ sym (ap (map (λ (w : StatedWantValue). w.want)) (rows c)
          ∙ map-same_keys (λ (w : StatedWantValue). w.want) row c.self.inside.wants.items (λ w.
          same_want (want_with_row c.self.inside.vifs.now c.args.key.now c.args.entry.now) (λ w. refl) w
          (w.want.0 == c.args.group))),
      c.self.invariant.1,
      c.self.invariant.2,
    )

-- Each want of the group has the row, and the vifs are the same.
pub returns : goal.returns
returns c =
    let vifs = c.self.inside.vifs.now in
    ap (λ (l : List StatedWantValue). record { vifs = vifs; wants = l }) (rows c)
    ∙ ap (λ (s : WantStatesValue). states_with_row_if_group c.args.group s c.args.key.now c.args.entry.now)
    c.self.view_is
