-- The records are in the list already, so that they are among the distinct ones too.
use Rattle.mc_igmp.proofs.SameRecordLemmas.{have_same_records-listed}
use Rattle.mc_igmp.proofs.list.ReportList.append_known.Goals as goal

pub invariant_of-self : goal.invariant_of-self
invariant_of-self c = rw c.in-Ok.ensures
    (have_same_records-listed c.self.inside.distinct c.self.inside.all c.args.known.now c.self.invariant
    (rw (← c.self.view_is) at c.requires.known))
