use Rattle.std.proofs.Common.{sym, ◌∙◌}
use Rattle.std.proofs.lemmas.List.Elements.{All-cons}
use Rattle.mc_filter.specs.Tallies.{KeepsToChannels}
use Rattle.mc_filter.proofs.channels.tally_of_records.Goals as goal

-- Before the first record the tally counts none, and all records are left.
pub loop-group_record-init : goal.loop-group_record-init
loop-group_record-init c =
    let tally = c.in_ok-tally.ensures in
    rw c.into_iter-group_record-iterator.ensures.into_iter_gives
    (record {
      groups = tally.groups ∙ c.count.ensures;
      channels = tally.channels ∙ c.count-2.ensures;
      each = tally.each c.args.groups.now c.args.channels.now c.args.records
          (sym c.count.ensures) (sym c.count-2.ensures);
      more = λ _ all. all;
    })

-- The iterator's next record goes from those that are left to those that the tally counts.
pub loop-group_record-preserved : goal.loop-group_record-preserved
loop-group_record-preserved c =
    let before = c.loop-group_record.invariant in
    let added = c.in_ok-add_record.ensures in
    record {
      groups = added.groups;
      channels = added.channels;
      each = added.each c.args.records c.next.new.self (rw c.in-Some.ensures.steps at before.each);
      more = λ none all.
          let parts = added.more none in
          (rw c.in-Some.ensures.steps at before.more) parts.0 (All-cons (KeepsToChannels c.args.groups.now
          c.args.channels.now) c.in-Some.group_record c.next.new.self parts.1 all);
    }

-- No record is left, so that the tally counts them all.
pub returns-clause-each : goal.returns-clause-each
returns-clause-each c =
    rw c.in-None.ensures.steps.0 at c.loop-group_record.invariant.each

-- No record is left, so that nothing remains to be shown of those that are.
pub returns-clause-more : goal.returns-clause-more
returns-clause-more c =
    rw c.in-None.ensures.steps.0 at c.loop-group_record.invariant.more
