use Rattle.std.proofs.Common.{◌≡◌, ◌++◌, ap, ◌∙◌, subst, arith, length, slice_get, Some}
use Rattle.std.specs.String.{string_bytes}
use Rattle.mc_commands.specs.MakeRun.{found_lines}
use Rattle.mc_commands.proofs.MadeSoFarLemmas.{is_examined-of_examination, are_made_so_far-certified}
use Rattle.mc_commands.proofs.MadeSoFarLemmas.{made_lists-at_most_flows, are_made_so_far-found}
use Rattle.mc_commands.proofs.MadeSoFarLemmas.{are_made_so_far-none}
use Rattle.mc_commands.proofs.make.examine_all.Goals.{in-Certified+in_ok-push-in-Certified}
use Rattle.mc_commands.proofs.make.examine_all.Goals.{in-Found+in_ok-push_found_lines-in-Found}
use Rattle.mc_commands.proofs.make.examine_all.Goals as goal

-- Of no flows there are no lists and no lines.
pub loop-flow-init : goal.loop-flow-init
loop-flow-init c = rw (c.new-lists.ensures, c.new-lines.ensures.bytes)
    (are_made_so_far-none c.args.domain.now)

-- There is at most one list for each flow so far, one flow is still to come, and a topology has at most
-- 4,096.
pub push-requires-clause-few : goal.push-requires-clause-few
push-requires-clause-few c =
    let few = made_lists-at_most_flows c.args.domain.now c.loop-flow.flow c.loop-flow.lists
    (string_bytes c.loop-flow.lines)
    c.loop-flow.invariant in
    omega (
      arith,
      few,
      c.loop-flow-test.true,
      c.flows-flow-end.ensures.count,
      c.flows-flow-end.ensures.rules.few_flows,
    )

-- The next flow is certified and adds its list, or is not and adds its lines; the other of the two stays as
-- it is.
pub loop-flow-preserved : goal.loop-flow-preserved
loop-flow-preserved c =
    let d = c.args.domain.now in
    let k = c.loop-flow.flow in
    let x = c.in_ok-entries.field-0 in
    let topology = c.topology-topology.ensures.topology in
    let examined = c.in_ok-entries.ensures in
    let is = is_examined-of_examination examined.accepted examined.ascending examined.listed
    examined.writable examined.made examined.travel
    examined.fault examined.ttl examined.right in
    elim c.match-branch-2.branch [
      | in-Certified+in_ok-push-in-Certified w ↦
          (let grown = w.lists-is ∙ w.in_ok-push-in-Certified.ensures.pushed in
          rw (w.lines-is) (are_made_so_far-certified d k c.loop-flow.lists _
          (string_bytes c.loop-flow.lines) x w.in-Certified.entries c.loop-flow.invariant
          (omega (
            arith,
            c.loop-flow-test.true,
            c.flows-flow-end.ensures.count,
            ap (λ t. length t.flows) topology,
          )) is w.in-Certified.is grown))
      | in-Found+in_ok-push_found_lines-in-Found w ↦
          (let here = subst (λ t. slice_get t.flows k ≡ Some w.flow.result.now) topology
          w.flow.ensures.flow in
          let grown = ap string_bytes w.lines-is ∙ w.in_ok-push_found_lines-in-Found.ensures
          ∙ ap (λ t. string_bytes c.loop-flow.lines ++ found_lines t w.flow.result.now
          w.in-Found.ttl
          w.in-Found.travel.finding) topology in
          rw (w.lists-is) (are_made_so_far-found d k c.loop-flow.lists
          (string_bytes c.loop-flow.lines) _ w.flow.result.now x w.in-Found.ttl w.in-Found.travel
          c.loop-flow.invariant here is w.in-Found.is grown))
    ]
