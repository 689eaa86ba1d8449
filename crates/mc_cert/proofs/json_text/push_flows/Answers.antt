use Rattle.std.proofs.Common.{◌++◌, ◌<◌, ◌∙◌, length, get_or, ap, string_bytes, rules, arith}
use Rattle.mc_cert.specs.CertificateText.{flow_text}
use Rattle.mc_cert.proofs.TextLemmas.{flow_texts-more}
use Rattle.mc_cert.proofs.json_text.push_flows.Goals as goal

-- The separator and the flow's text are the next pieces of the list of texts.
pub loop-flow-preserved : goal.loop-flow-preserved
loop-flow-preserved c =
    let numbers = c.args.numbers.now in
    let within : c.loop-flow.flow < length numbers =
    omega (arith, c.requires.lengths, c.flows-flow-end.ensures.count, c.loop-flow-test.true) in
    record {
      is_text = search rules;
      so_far =
          flow_texts-more c.loop-flow.separator.now (string_bytes c.loop-flow.text) _
          (string_bytes c.push_flow.new.text) c.args.topology.now.flows numbers
          c.loop-flow.flow c.flow.result.now
          c.flow.ensures.flow within
          (c.in_ok-push_flow.ensures
          ∙ ap (λ s. s ++ flow_text c.flow.result.now (get_or numbers c.loop-flow.flow 0))
          c.in_ok-push_str.ensures.bytes) c.loop-flow.invariant.so_far;
    }
