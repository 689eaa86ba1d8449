use Rattle.std.proofs.Common.{ap, ◌∙◌, sym, length}
use Rattle.mc_commands.specs.VerdictText.{are_yes}
use Rattle.mc_commands.proofs.CheckLemmas.{are_verdicts, keeps_headline, certificate_lans-of_topology}
use Rattle.mc_commands.proofs.CheckLemmas.{is_text_of_verdicts-check_text}
use Rattle.mc_commands.proofs.check.verdicts_of_domain.Goals as goal

-- A certificate that belongs to a topology has a list for each of its flows,
pub check_all-requires-clause-flows : goal.check_all-requires-clause-flows
check_all-requires-clause-flows c = c.requires.valid.count

-- and names only its LANs.
pub check_all-requires-clause-lans : goal.check_all-requires-clause-lans
check_all-requires-clause-lans c = certificate_lans-of_topology _ _ c.requires.valid

-- There is a verdict for each list, and a list for each flow.
pub check_text-requires : goal.check_text-requires
check_text-requires c = record {
  lengths = (
      ap length c.deref.ensures.value ∙ c.in_ok-verdicts.ensures.count ∙ c.requires.valid.count
      ∙ sym (ap (λ t. length t.flows) c.topology.ensures.topology));
}

-- The checker's three clauses on its answers are what a verdict means; the text and the yes are made of these
-- verdicts.
pub returns-clause-text : goal.returns-clause-text
returns-clause-text c =
    let read = c.args.read.now in
    let checked = c.in_ok-verdicts.ensures in
    let are = are_verdicts read.domain read.certificate c.in_ok-verdicts.verdicts.items checked.count
    c.requires.valid checked.accepted checked.copies checked.reason in
    is_text_of_verdicts-check_text read.domain read.certificate c.in_ok-verdicts.verdicts.items
    c.deref.result.now
    c.deref-2.result.now c.topology.result.now _ _ are c.deref.ensures.value
    c.deref-2.ensures.value c.topology.ensures.topology c.are_yes-yes.ensures c.in_ok-text.ensures.ok

-- If all verdicts are yes, each flow's yes carries its headline.
pub returns-clause-headline : goal.returns-clause-headline
returns-clause-headline c = λ all.
    let read = c.args.read.now in
    let checked = c.in_ok-verdicts.ensures in
    let same = ap are_yes c.deref-2.ensures.value in
    keeps_headline read.domain read.certificate c.in_ok-verdicts.verdicts.items checked.count
    c.requires.valid checked.copies checked.headline (sym same ∙ sym c.are_yes-yes.ensures ∙ all)
