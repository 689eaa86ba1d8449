use Rattle.mc_asked.proofs.LanByLanLemmas.{sources-with_group, sources-with_no_group}
use Rattle.mc_asked.proofs.unadmitted_sources.UnadmittedSources.add_unadmitted.Goals as goal

-- Of no groups, nothing is taken.
pub loop-group-init : goal.loop-group-init
loop-group-init c = sources-with_no_group c.args.unadmitted.now c.args.self.now

-- The groups ascend, so that the next is none of those before, and its want has not yet been changed.
pub loop-group-preserved : goal.loop-group-preserved
loop-group-preserved c =
    sources-with_group c.args.unadmitted.now c.args.groups.now c.loop-group.group-index c.group-item.result
    c.args.self.now c.loop-group.self c.add_group.new.self c.requires.groups c.loop-group-test.true
    c.group-item.is c.loop-group.invariant c.in_ok-add_group.ensures
