use Rattle.std.proofs.Common.{◌≡◌, length, arith}
use Rattle.mc_cert.proofs.SeparatorLemmas.{flow_texts-none, separator_of-none, flow_texts-push}
use Rattle.mc_cert.proofs.compact.read_flows.Goals as goal

-- Before the first flow nothing has been read, and no comma is due.
pub loop-number-init : goal.loop-number-init
loop-number-init c =
    record {
      read = rw c.new-tree_numbers.ensures.items (flow_texts-none c.args.topology.now.flows c.args.text.now);
      separator = rw c.new-tree_numbers.ensures.items (separator_of-none c.args.topology.now.flows);
      count = omega arith;
    }

-- The separator and the flow's text are the next pieces of the list, and from then on a comma is due.
pub loop-number-preserved : goal.loop-number-preserved
loop-number-preserved c =
    let long : c.loop-number.number ≡ length c.loop-number.tree_numbers.items = omega arith in
    let next = flow_texts-push c.args.text.now c.loop-number.rest.now c.in-Some.after.now
    c.in-Some-read_flow.after.now c.loop-number.separator.now c.args.topology.now.flows
    c.loop-number.tree_numbers.items c.push.new.self.items c.flow.result.now c.in-Some-read_flow.tree_no
    c.loop-number.number long c.flow.ensures.flow c.in_ok-push.ensures.items
    c.loop-number.invariant.read c.in-Some.ensures c.in-Some-read_flow.ensures
    c.loop-number.invariant.separator in
    record {
      read = next.0;
      separator = next.1;
      count = omega (arith, c.in_ok-push.ensures.len);
    }
