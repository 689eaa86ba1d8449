use Rattle.std.proofs.Common.{Ok, ap}
use Rattle.mc_cert.proofs.Objects.{rows_in-view}
use Rattle.mc_cert.proofs.object.list_of.Goals as goal

-- The values of the vector are those of the list's items, in order.
pub returns-in-Some : goal.returns-in-Some
returns-in-Some c =
    let found = rw c.in-Some.is at c.as_array.ensures in
    rw (← found, c.as_slice.ensures.value) (ap Ok (rows_in-view c.in-Some.values.now.items))
