-- Each copy was handled, none met a fault, and no LAN that wants the flow carried none.
use Rattle.std.proofs.Common.{◌≡◌, ◌∙◌, ◌∷◌, [], ap, refl, sym, subst, length, map, List, ℕ, Option, None}
use Rattle.std.specs.Prelude.{IfSome}
use Rattle.mc_text.proofs.StepLemmas.{None-from_is_some_false}
use Rattle.mc_theory.specs.Lists.{below}
use Rattle.mc_theory.specs.Certificates.{Entry}
use Rattle.mc_theory.specs.Findings.{missed}
use Rattle.mc_forward.specs.FlightsInDomain.{net_in}
use Rattle.mc_maker.specs.CleanRuns.{AreOfTheirCopies, EntriesSoFar, IsCleanRun, copies_so_far, copy_of}
use Rattle.mc_maker.specs.CleanRuns.{source_entry}
use Rattle.mc_maker.specs.EntriesByLan.{AreEntriesByLan}
use Rattle.mc_maker.proofs.CleanRunLemmas.{has_item-of_entries, is_clean_run-at_end}
use Rattle.mc_maker.proofs.clean_run.clean_entries.Goals as goal

pub returns : goal.returns
returns c =
    let net = net_in c.args.view.now in
    let lans = length c.args.view.now.domain.topology.lans in
    let a : EntriesSoFar = c.in-Some.clean in
    let b : EntriesSoFar = c.forward_all.new.self in
    let start : EntriesSoFar = record { lans = lans; entries = source_entry net ∷ [] } in
    let started : a ≡ start =
    subst (λ (o : Option EntriesSoFar). IfSome o (λ far. far ≡ start)) c.in-Some.is c.in_ok-clean.ensures in
    let es : List Entry = c.clean.inside.entries.items in
    let ended : b.entries ≡ es = sym (ap (λ (far : EntriesSoFar). far.entries) c.clean.view_is) in
    let none : missed net (map copy_of b.entries) (below lans) ≡ None =
    rw ended (None-from_is_some_false (missed net (map copy_of es) (below lans))
    (sym (c.misses_any_lan.ensures (map copy_of es)
    (has_item-of_entries c.clean.inside.by_lan es c.clean.invariant.0)) ∙ c.if-misses_any_lan.false)) in
    let lans_of : a.lans ≡ lans = ap (λ (far : EntriesSoFar). far.lans) started in
    let first : AreOfTheirCopies net a.entries = rw (ap (λ (far : EntriesSoFar). far.entries) started) refl in
    let own : AreOfTheirCopies net b.entries =
    (c.in_ok-forward_all.ensures.entries c.if-not-branch.false).entries first in
    record {
      copies = map copy_of b.entries;
      run = subst (λ (n : ℕ). IsCleanRun net n 255 (map copy_of b.entries)) lans_of
          (is_clean_run-at_end net 255 (copies_so_far a) (copies_so_far b)
          (ap (λ (far : EntriesSoFar). map copy_of far.entries) started)
          (c.in_ok-forward_all.ensures.run c.if-not-branch.false) (rw ended c.clean.invariant.1)
          (rw lans_of none));
      by_lan = c.clean.inside.by_lan;
      places = subst (AreEntriesByLan c.clean.inside.by_lan) (sym ended ∙ own) c.clean.invariant.0;
      held = c.in_ok-entries.ensures;
    }
