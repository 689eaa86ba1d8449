use Rattle.std.proofs.Common.{◌≡◌, ℕ, ◌∙◌, List, [], ap, ap₂, map, sym, unwrap_or}
use Rattle.mc_igmp.specs.declared.record.Record.{Record}
use Rattle.mc_asked.specs.ListWants.{Want}
use Rattle.mc_asked.specs.Unadmitted.{list_of, unadmitted_in}
use Rattle.mc_asked.specs.WantSources.{groups_from_any, with_unadmitted_of}
use Rattle.mc_asked.proofs.LanByLanLemmas.{sources-with_list, wants-of_sources}
use Rattle.mc_asked.proofs.unadmitted_sources.UnadmittedSources.add_list.Goals as goal

-- The groups are those that the LAN and these wants share, from any source, and the sources those that the
-- LAN's list doesn't admit. Taking these in is what one LAN more means.
pub returns : goal.returns
returns c = λ lists lan at all a wants own_at are.
    let own = c.args.own.now in
    let old = c.args.self.now in
    let groups = groups_from_any wants own.lowest in
    let list : c.args.list.now ≡ list_of lists lan = sym (ap (λ o. unwrap_or o []) at) in
    let keys = wants-of_sources all a lists lan wants old are in
    let is_groups : c.in_ok-groups.groups.items ≡ groups =
    c.in_ok-groups.ensures.groups ∙ ap (λ (ws : List Want). groups_from_any ws own.lowest) keys in
    let new = c.in_ok-add_unadmitted.ensures
    ∙ ap₂ (λ (gs : List ℕ) (us : List (ℕ × ℕ)). map (with_unadmitted_of gs us) old)
    (c.deref-2.ensures.value ∙ is_groups)
    (c.deref-3.ensures.value ∙ c.in_ok-unadmitted.ensures.value
    ∙ ap₂ (λ (records : List Record) (gs : List ℕ). unadmitted_in records gs) list
    (c.deref.ensures.value ∙ is_groups)) in
    sources-with_list all a lists lan own own_at wants old c.add_unadmitted.new.self are new
