use Rattle.std.proofs.Common.{◌-◌, length, sym, ap, subst, ◌∙◌, arith}
use Rattle.mc_igmp.specs.Records.{records_in, HaveNoChanges}
use Rattle.mc_igmp.proofs.RecordsLemmas.{records_in-first, AreWholeRecords-rest}
use Rattle.mc_igmp.proofs.group_records.GroupRecordsIterator.next.Goals as goal

-- No record is left.
pub returns-then-self-eq0-clause-steps : goal.returns-then-self-eq0-clause-steps
unfolding records_in
returns-then-self-eq0-clause-steps c =
    let none = sym c.self.view_is
    ∙ ap (λ n. records_in n c.self.inside.bytes.now) c.if-self-eq0.true in
    (none, none)

-- The bytes don't hold another whole record, and what isn't whole isn't listed.
pub returns-in_err-record-clause-steps : goal.returns-in_err-record-clause-steps
returns-in_err-record-clause-steps c =
    let first = records_in-first c.self.inside.left (c.self.inside.left - 1)
    c.self.inside.bytes.now (omega arith) in
    let none = sym c.self.view_is ∙ (rw (← c.in_err-record.ensures) at first) in
    rw c.from_residual.ensures (none, none)

-- Without their first, whole records are whole records, and report no change if all of them report none.
pub invariant_of-self : goal.invariant_of-self
invariant_of-self c =
    let whole = AreWholeRecords-rest c.self.inside.left (c.self.inside.left - 1) c.self.inside.bytes.now _ _
    (omega arith) (sym c.in_ok-record.ensures) c.self.invariant.0 in
    let first = records_in-first c.self.inside.left (c.self.inside.left - 1)
    c.self.inside.bytes.now (omega arith) in
    let parts = rw (← c.in_ok-record.ensures) at first in
    (whole, λ known. (subst HaveNoChanges parts (c.self.invariant.1 known)).1)

-- The records are the first one and those of the bytes after it.
pub returns-clause-steps : goal.returns-clause-steps
returns-clause-steps c =
    let first = records_in-first c.self.inside.left (c.self.inside.left - 1)
    c.self.inside.bytes.now (omega arith) in
    sym c.self.view_is ∙ (rw (← c.in_ok-record.ensures) at first)

-- One record fewer is left.
pub returns-clause-goes : goal.returns-clause-goes
returns-clause-goes c =
    let shorter = ap length (returns-clause-steps c) in
    record { on = λ _. (tt, tt, omega (arith, shorter)); keeps = tt; rests = λ _. tt }
