use Rattle.std.proofs.Common.{length, refl, sym, ap, ◌∙◌, arith}
use Rattle.mc_igmp.specs.ReadingList.{first_change}
use Rattle.mc_igmp.proofs.ListLemmas.{first_change-none}
use Rattle.mc_igmp.proofs.list.first_change_of.Goals as goal

-- Records that report no change have no first one that does.
pub returns-then-has_no_changes : goal.returns-then-has_no_changes
returns-then-has_no_changes c = record {
  value = (
      sym (first_change-none 1 c.args.records.now (c.if-has_no_changes.ensures refl)));
}

-- No record before this one reports a change.
pub returns-then-is_change : goal.returns-then-is_change
unfolding first_change
returns-then-is_change c = record {
  value = (
      let others = rw c.in-Some.ensures.steps at c.loop-record.invariant.others in
      let change = sym c.is_change.ensures ∙ c.if-is_change.true in
      rw (← others, change) refl);
}

-- This record reports no change, so that the first one to do so is among the others.
pub loop-record-preserved : goal.loop-record-preserved
unfolding first_change
loop-record-preserved c =
    let others = rw c.in-Some.ensures.steps at c.loop-record.invariant.others in
    let lasting = sym c.is_change.ensures ∙ c.if-is_change.false in
    record {
      others = rw lasting at others;
      counted = omega (arith, ap length c.in-Some.ensures.steps, c.loop-record.invariant.counted);
    }

-- No record is left.
pub returns : goal.returns
unfolding first_change
returns c = record { value = rw c.in-None.ensures.steps.0 at c.loop-record.invariant.others }
