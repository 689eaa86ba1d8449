use Rattle.std.proofs.Common.{◌≡◌, List, set, sym, ap, subst, ◌∙◌}
use Rattle.std.proofs.Common.{get_or}
use Rattle.std.specs.List.Sorted.{IsStrictlySortedBy}
use Rattle.mc_tables.specs.CacheTable.{key_cmp}
use Rattle.mc_asked.specs.WantStates.{StatedWantValue, WantStatesValue, states_with_row_if_want}
use Rattle.mc_asked.specs.WantStates.{want_with_row}
use Rattle.mc_asked.proofs.OneKeyLemmas.{absent-key, found-key, found-within, map-no_key, map-set_same}
use Rattle.mc_asked.proofs.OneKeyLemmas.{set-one_key}
use Rattle.mc_asked.proofs.SharedPairLemmas.{not_in-from_search}
use Rattle.mc_asked.proofs.want_states.WantStates.add_at.Goals as goal

-- A row changes no want, only its state, so that the keys are still the wants.
pub invariant_of-self : goal.invariant_of-self
invariant_of-self c =
    let ws = c.self.inside.wants.items in
    let same = ap (λ (w : StatedWantValue). w.want) (c.add_row.ensures) ∙
    ap (λ (w : StatedWantValue). w.want) c.index_mut.ensures.value in (
      c.self.invariant.0
          ∙ sym (map-set_same (λ (w : StatedWantValue). w.want) ws c.in-Ok.place c.add_row.new.self _ same),
      c.self.invariant.1,
      c.self.invariant.2,
    )

-- Each want is there once, so that changing the one which the search finds changes all that have this key.
pub returns-in-Ok : goal.returns-in-Ok
returns-in-Ok c =
    let ws = c.self.inside.wants.items in
    let vifs = c.self.inside.vifs.now in
    let want = c.args.want.now in
    let key = c.args.key.now in
    let entry = c.args.entry.now in
    let keys = c.deref.ensures.value ∙ c.self.invariant.0 in
    let up = subst (λ l. IsStrictlySortedBy key_cmp l) c.self.invariant.0 c.self.invariant.1 in
    let put : c.add_row.new.self ≡ want_with_row vifs key entry (get_or ws c.in-Ok.place _) =
    c.add_row.ensures ∙ ap (want_with_row vifs key entry) c.index_mut.ensures.value in
    let changed = ap (set ws c.in-Ok.place) put
    ∙ set-one_key (λ (w : StatedWantValue). w.want) (want_with_row vifs key entry) want ws c.in-Ok.place _ up
    (found-within (λ (w : StatedWantValue). w.want) c.deref.result.now ws c.in-Ok.place keys
    c.in-Ok.ensures.bound)
    (found-key (λ (w : StatedWantValue). w.want) c.deref.result.now ws c.in-Ok.place want _ keys
    c.in-Ok.ensures.bound (c.in-Ok.ensures.ok want)) in
    ap (λ (l : List StatedWantValue). record { vifs = vifs; wants = l }) changed
    ∙ ap (λ (s : WantStatesValue). states_with_row_if_want want s key entry) c.self.view_is

-- Where the search fails, none of the wants has this key, and none is to change.
pub returns-in_default : goal.returns-in_default
returns-in_default c =
    let ws = c.self.inside.wants.items in
    let vifs = c.self.inside.vifs.now in
    let want = c.args.want.now in
    let key = c.args.key.now in
    let entry = c.args.entry.now in
    let keys = c.deref.ensures.value ∙ c.self.invariant.0 in
    let absent = not_in-from_search c.self.inside.keys.items c.deref.result.now c.in_default.field-0 want
    c.deref.ensures.value c.self.invariant.1 c.in_default.ensures.bound c.in_default.ensures.position in
    let same = map-no_key (λ (w : StatedWantValue). w.want) (want_with_row vifs key entry) want ws
    (absent-key (λ (w : StatedWantValue). w.want) c.self.inside.keys.items ws want
    c.self.invariant.0 absent) in
    sym c.self.view_is ∙ ap (λ (l : List StatedWantValue). record { vifs = vifs; wants = l }) same
    ∙ ap (λ (s : WantStatesValue). states_with_row_if_want want s key entry) c.self.view_is
