use Rattle.std.proofs.Common.{◌<◌, ◌++◌, ap, ◌∙◌, arith, length}
use Rattle.mc_forward.proofs.IndexLemmas.{slice_get-from_read}
use Rattle.mc_commands.specs.VerdictText.{flow_lines, last_line}
use Rattle.mc_commands.proofs.CheckTextLemmas.{flow_lines-all, flow_lines-more}
use Rattle.mc_commands.proofs.shown.verdict_text.check_text.Goals as goal

-- The line of the next flow is taken from the front of those that are left.
pub loop-flow-preserved : goal.loop-flow-preserved
loop-flow-preserved c =
    let inside : c.loop-flow.flow < length c.args.verdicts.now =
    omega (arith, c.loop-flow-test.true, c.flows-flow-end.ensures.count, c.requires.lengths) in
    let verdict_at = slice_get-from_read c.args.verdicts.now c.loop-flow.flow
    c.index-verdicts-flow.result inside
    c.index-verdicts-flow.is in
    flow_lines-more c.args.topology.now c.loop-flow.flow c.flow.result.now c.index-verdicts-flow.result
    c.args.verdicts.now _ _ c.flow.ensures.flow verdict_at c.in_ok-push_flow_verdict.ensures
    c.loop-flow.invariant

-- No flow is left, and the last line says whether all verdicts are yes.
pub returns : goal.returns
returns c = record {
  ok = (
      let lines = flow_lines-all c.args.topology.now c.loop-flow.flow c.args.verdicts.now _
      (omega (arith, c.loop-flow-test.false, c.flows-flow-end.ensures.count)) c.loop-flow.invariant in
      c.in_ok-push_overall_verdict.ensures ∙ ap (λ xs. xs ++ last_line c.are_yes.result) lines
      ∙ ap (λ xs. flow_lines c.args.topology.now c.args.topology.now.flows c.args.verdicts.now ++ xs)
      (ap last_line c.are_yes.ensures));
}
