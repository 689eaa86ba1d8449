-- The distinct records are the same as all.
use Rattle.mc_igmp.proofs.list.ReportList.distinct_records.Goals as goal

pub returns : goal.returns
returns c = rw (c.records.ensures, ← c.self.view_is) c.self.invariant
