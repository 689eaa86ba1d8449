use Rattle.std.proofs.Common.{◌≡◌, ◌∙◌, List, ap, false, sym}
use Rattle.std.specs.List.{list_any}
use Rattle.std.proofs.lemmas.List.{take_all}
use Rattle.mc_asked.specs.ListWants.{Want}
use Rattle.mc_asked.specs.WantSources.{is_shared_any}
use Rattle.mc_asked.proofs.LanByLanLemmas.{sources-without_list, wants-of_sources}
use Rattle.mc_asked.proofs.unadmitted_sources.UnadmittedSources.needs_list.Goals as goal

-- Where the LAN shares no want of any source with these, its list changes none of them.
pub returns-clause-skipped : goal.returns-clause-skipped
returns-clause-skipped c = λ not_needed lists lan all a wants at are.
    let own = c.args.own.now in
    let sources = c.args.self.now in
    let items = c.lowest-want-items.result.now in
    let whole = take_all c.loop-want.want-index items c.loop-want-test.false
    ∙ c.lowest-want-items.ensures.value in
    let none : list_any (is_shared_any wants) own.lowest ≡ false =
    sym (ap (λ (ws : List Want). list_any (is_shared_any ws) own.lowest)
    (wants-of_sources all a lists lan wants sources are))
    ∙ sym (ap (list_any (is_shared_any _)) whole) ∙ c.loop-want.invariant in
    sources-without_list all a lists lan own at wants sources are none
