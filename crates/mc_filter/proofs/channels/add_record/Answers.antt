use Rattle.std.proofs.Common.{sym, ◌∙◌}
use Rattle.mc_filter.proofs.TallyLemmas.{AreTallied-other_group}
use Rattle.mc_filter.proofs.channels.add_record.Goals as goal

-- The group's place was found by the record's own group, which is what the tally wants of that place.
pub returns-in_ok-add-in-Some-clause-each : goal.returns-in_ok-add-in-Some-clause-each
returns-in_ok-add-in-Some-clause-each c = λ records left before.
    c.in_ok-add-in-Some.ensures.each c.args.groups.now records left c.place_of.ensures.ascending
    (sym c.requires.groups) (c.in-Some.ensures.found.1 ∙ c.from-group.ensures ∙ c.to_bits.ensures) before

-- A record for a group that isn't in the index concerns no channel, so that the tally counts it
-- unchanged.
pub returns-in-None-clause-each : goal.returns-in-None-clause-each
returns-in-None-clause-each c = λ records left before.
    AreTallied-other_group c.args.groups.now c.args.channels.now records left
    c.args.tally.now.excludes.items c.args.tally.now.states.items c.args.group_record.now
    (rw (c.from-group.ensures, c.to_bits.ensures) at c.in-None.ensures.none) before
