use Rattle.std.proofs.Common.{◌≡◌, ◌<◌, ℕ, List, length, Some, slice_get, ap, subst, sym, ◌∙◌}
use Rattle.std.specs.Prelude.{not}
use Rattle.mc_asked.specs.Forwarding.{routers_in}
use Rattle.mc_asked.specs.ListWants.{Want}
use Rattle.mc_asked.specs.declared.forwarding.RouterState.TheVariants.{EverySource, NoneOut, Forwards}
use Rattle.mc_shown.specs.AskedText.{listed_sources}
use Rattle.mc_forward.proofs.IndexLemmas.{slice_get-from_read}
use Rattle.mc_forward.specs.ListedTables.{flow_pairs}
use Rattle.mc_run.specs.AuditAsked.{states_of_line}
use Rattle.mc_run.specs.AuditPieces.{audited_value}
use Rattle.mc_run.specs.AuditedFiles.{is_whole}
use Rattle.mc_run.proofs.AuditAskedLemmas.{appended-same, few-states_of_line, line-by_number}
use Rattle.mc_run.proofs.ShownTrees.{is_whole-no_names}
use Rattle.mc_run.proofs.audit.audit_asked.push_numbered_line.Goals as goal

-- A line has at most as many states as the topology has routers.
pub of-requires : goal.of-requires
of-requires c = record {
  few = few-states_of_line c.topology-topology.result.now c.args.audited.now.domain.now.topology
      c.states.result.now c.args.number c.in_ok-states.states.items c.deref.result.now
      c.topology-topology.ensures.topology c.topology-topology.ensures.rules.topology c.deref.ensures.value
      c.in_ok-states.ensures;
}

-- What is written is the line at this number: its want and LANs as the list has them, the sources that the
-- flows list for its group, and the routers by their states.
pub returns : goal.returns
returns c =
    let v = audited_value c.args.audited.now in
    let t = c.topology-topology.result.now in
    let same = c.topology-topology.ensures.topology in
    let number = c.args.number in
    let line = c.index-lines-number.result in
    let inside : number < length c.lines.result.now =
    subst (λ (xs : List (Want × List ℕ)). number < length xs) (sym c.lines.ensures) c.requires.within in
    let at : slice_get v.asked.lines number ≡ Some line =
    subst (λ (xs : List (Want × List ℕ)). slice_get xs number ≡ Some line) c.lines.ensures
    (slice_get-from_read c.lines.result.now number line inside c.index-lines-number.is) in
    let states : c.deref.result.now ≡ states_of_line v.domain.topology v.asked.states number =
    c.deref.ensures.value ∙ c.in_ok-states.ensures
    ∙ (λ i. states_of_line (same i) (c.states.ensures i) number) in
    let listed : c.deref-2.result.now ≡ listed_sources (flow_pairs v.domain.topology.flows) line.0.0 =
    c.deref-2.ensures.value ∙ c.in_ok-listed.ensures
    ∙ (λ i. listed_sources (flow_pairs ((same i).flows)) ((c.pair.ensures i).0)) in
    appended-same c.push_line.result _ _ _ _
    (line-by_number c.args.json t v.domain.topology (not (is_whole v)) v.asked number line _ at same
    (ap not (c.is_empty.ensures ∙ is_whole-no_names c.args.audited.now)) c.pair-2.ensures
    c.lans.ensures listed (c.in_ok-routers.ensures.none_out ∙ ap (routers_in NoneOut) states)
    (c.in_ok-routers.ensures.forwards ∙ ap (routers_in Forwards) states)
    (c.in_ok-routers.ensures.every_source ∙ ap (routers_in EverySource) states)) c.push_line.ensures
