use Rattle.std.proofs.Common.{◌≡◌, ℕ, ◌∙◌, List, cond, get_or, map, set, ap, subst, sym}
use Rattle.std.specs.List.Sorted.{IsStrictlySortedBy}
use Rattle.mc_tables.specs.CacheTable.{key_cmp}
use Rattle.mc_asked.specs.ListWants.{Want}
use Rattle.mc_asked.specs.WantSources.{WantSourcesValue, with_lan, with_lan_at}
use Rattle.mc_asked.specs.WantStates.{is_key}
use Rattle.mc_asked.proofs.OneKeyLemmas.{absent-key, found-key, found-within, map-no_key, map-set_same}
use Rattle.mc_asked.proofs.OneKeyLemmas.{set-one_key}
use Rattle.mc_asked.proofs.SharedPairLemmas.{not_in-from_search}
use Rattle.mc_asked.proofs.unadmitted_sources.UnadmittedSources.add_lan.Goals as goal

abbrev key : WantSourcesValue → Want
key s = s.want

-- The code's unspecified address is 0, the source of a want of any source.
any_of : (group any : ℕ) (own : List ℕ) (sources : List WantSourcesValue) → any ≡ 0
    → map (λ (s : WantSourcesValue). cond (is_key (group, any) s.want) (with_lan own s) s) sources
    ≡ map (with_lan_at group own) sources
any_of group any own sources is =
    ap (λ (a : ℕ). map (λ (s : WantSourcesValue). cond (is_key (group, a) s.want) (with_lan own s) s)
    sources) is

-- The entry that changes keeps its want, so that the keys are still the entries' wants.
pub invariant_of-self : goal.invariant_of-self
invariant_of-self c =
    let own = c.self.inside.sources.items in (
      c.self.invariant.0
          ∙ sym (map-set_same key own c.in-Ok.place c.add_lan.new.self _
          (c.in_ok-add_lan.ensures.same ∙ ap key c.index_mut.ensures.value)),
      c.self.invariant.1,
    )

-- The entry keeps its want also where memory runs out.
pub invariant_of-self-in_err-add_lan : goal.invariant_of-self-in_err-add_lan
invariant_of-self-in_err-add_lan c =
    let own = c.self.inside.sources.items in (
      c.self.invariant.0
          ∙ sym (map-set_same key own c.in-Ok.place c.add_lan.new.self _
          (c.in_err-add_lan.ensures.same ∙ ap key c.index_mut.ensures.value)),
      c.self.invariant.1,
    )

-- Each want is there once, so that changing the entry which the search finds changes all that have the
-- group's want of any source.
pub returns-in_ok-add_lan : goal.returns-in_ok-add_lan
returns-in_ok-add_lan c =
    let sources = c.self.inside.sources.items in
    let own = c.args.own.items in
    let want : Want = (c.args.group, c.unspecified-any_source.result) in
    let place = c.in-Ok.place in
    let keys = c.deref.ensures.value ∙ c.self.invariant.0 in
    let up = subst (λ l. IsStrictlySortedBy key_cmp l) c.self.invariant.0 c.self.invariant.1 in
    let put : c.add_lan.new.self ≡ with_lan own (get_or sources place _) =
    c.in_ok-add_lan.ensures.added ∙ ap (with_lan own) c.index_mut.ensures.value in
    ap (set sources place) put
    ∙ set-one_key key (with_lan own) want sources place _ up
    (found-within key c.deref.result.now sources place keys c.in-Ok.ensures.bound)
    (found-key key c.deref.result.now sources place want _ keys c.in-Ok.ensures.bound
    (c.in-Ok.ensures.ok want))
    ∙ any_of c.args.group c.unspecified-any_source.result own sources c.unspecified-any_source.ensures
    ∙ ap (map (with_lan_at c.args.group own)) c.self.view_is

-- Where the search fails, no entry has the group's want of any source, and none is to change.
pub returns-in_default : goal.returns-in_default
returns-in_default c =
    let sources = c.self.inside.sources.items in
    let want : Want = (c.args.group, c.unspecified-any_source.result) in
    let absent = not_in-from_search c.self.inside.keys.items c.deref.result.now c.in_default.field-0 want
    c.deref.ensures.value c.self.invariant.1 c.in_default.ensures.bound c.in_default.ensures.position in
    sym c.self.view_is
    ∙ map-no_key key (with_lan c.args.own.items) want sources
    (absent-key key c.self.inside.keys.items sources want c.self.invariant.0 absent)
    ∙ any_of c.args.group c.unspecified-any_source.result c.args.own.items sources
    c.unspecified-any_source.ensures
    ∙ ap (map (with_lan_at c.args.group c.args.own.items)) c.self.view_is
