-- The same records follow both.
use Rattle.mc_igmp.proofs.SameRecordLemmas.{have_same_records-append}
use Rattle.mc_igmp.proofs.list.ReportList.append.Goals as goal

pub invariant_of-self : goal.invariant_of-self
invariant_of-self c = rw (c.in-Ok.ensures.some, c.in-Ok.ensures.others)
    (have_same_records-append c.self.inside.distinct c.self.inside.all c.args.records.now c.self.invariant)
