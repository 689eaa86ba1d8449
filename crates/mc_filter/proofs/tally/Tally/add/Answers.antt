use Rattle.std.proofs.Common.{◌≡◌, get_or, sym, ◌∙◌, arith}
use Rattle.std.proofs.lemmas.Grind.{common_steps}
use Rattle.std.proofs.lemmas.List.{get_or_default}
use Rattle.mc_filter.specs.Tallies.{excludes_after}
use Rattle.mc_filter.proofs.TallyLemmas.{AreTallied-more}
use Rattle.mc_filter.proofs.tally.Tally.add.Goals as goal

-- The channels of the record's group were updated, each by the count that its group had before, and
-- the group's own count rises by one if the record is an EXCLUDE record.
pub returns-clause-each : goal.returns-clause-each
returns-clause-each c = λ groups records left up count at before.
    let r = c.args.group_record.now in
    let read : c.index-before.result.now ≡ get_or c.args.self.now.excludes.items c.args.place 0 =
    c.index-before.ensures ∙ sym (get_or_default c.args.self.now.excludes.items c.args.place 0
    c.index-before.result.now c.requires.place) in
    let after : c.in_ok-after.after
    ≡ excludes_after r.kind (get_or c.args.self.now.excludes.items c.args.place 0) =
    grind (
      arith,
      common_steps,
      read,
      c.excludes_after.ensures,
      c.in_ok-after.ensures.value,
      c.in_ok-after.was,
    ) in
    rw (c.list_sources.ensures.excludes, after)
    (AreTallied-more groups c.args.channels.now records left c.args.self.now.excludes.items
    c.args.self.now.states.items c.list_sources.new.self.states.items r c.args.place
    (record { ascending = up; count = count; within = c.requires.place; group_is = at })
    (rw read at c.list_sources.ensures.each) before)
