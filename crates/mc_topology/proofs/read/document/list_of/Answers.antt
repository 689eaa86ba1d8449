use Rattle.std.proofs.Common.{Ok, ap}
use Rattle.mc_topology.proofs.Tables.{rows_in-view}
use Rattle.mc_topology.proofs.read.document.list_of.Goals as goal

-- A list's items are read as they are, in their order.
pub returns : goal.returns
returns c =
    let found = rw c.in-Some.is at c.as_array.ensures in
    rw (← found, c.as_slice.ensures.value) (ap Ok (rows_in-view c.in-Some.values.now.items))
