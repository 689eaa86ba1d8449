-- At first no LAN is marked, and then exactly those of the carried copies. So the unmarked LANs that want
-- the flow are those that carried none.
use Rattle.std.proofs.Common.{◌≡◌, ◌||◌, ◌∙◌, ap, filter, length, subst, IfOk}
use Rattle.std.specs.Prelude.{is_some}
use Rattle.mc_theory.specs.Lists.{below}
use Rattle.mc_theory.specs.Findings.{first_copy_on}
use Rattle.mc_forward.specs.FlightsInDomain.{FlowOfDomain}
use Rattle.mc_forward.specs.ListedTables.{facts}
use Rattle.mc_shown.specs.WantedText.{AreMarksOfCopies}
use Rattle.mc_shown.specs.WantedText.{is_also_missed}
use Rattle.mc_search.proofs.FilterLemmas.{slice_index_or-replicate_false}
use Rattle.mc_shown.proofs.wanted.also_missed.Goals as goal

pub returns : goal.returns
returns c =
    let copies = c.args.flight.now.flight.carried in
    let marked : AreMarksOfCopies c.mark_lans.new.marks copies = λ lan.
    c.mark_lans.ensures.marks lan
    ∙ (ap (λ b. b || is_some (first_copy_on c.copies.result.now lan)) (slice_index_or-replicate_false 1024
    lan)
    ∙ ap (λ cs. is_some (first_copy_on cs lan)) c.copies.ensures.copies) in
    subst (λ (v : FlowOfDomain). IfOk c.unmarked_lans.result (λ lans. lans.items
    ≡ filter (is_also_missed (facts v.domain) v.flow copies c.args.missed)
    (below (length v.domain.topology.lans)))) c.flow_view-view.ensures
    (c.unmarked_lans.ensures.marked copies marked)
