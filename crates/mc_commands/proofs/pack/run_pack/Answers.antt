use Rattle.mc_commands.proofs.PackingLemmas as packing
use Rattle.mc_commands.proofs.pack.run_pack.Goals as goal

-- The run's fault is that of packing under the same name; so each clause on packing holds of the run, fault
-- by fault.
pub returns-in_err-pack-clause-answer : goal.returns-in_err-pack-clause-answer
returns-in_err-pack-clause-answer g c =
    packing.is_pack_answer-of_result (g.F.FileSource.contents c.args.files.now) c.args.certificate
    c.in_err-pack.field-0.0
    c.from_residual.result c.from_residual.ensures.1 c.in_err-pack.ensures.answer

pub returns-in_err-pack-clause-only : goal.returns-in_err-pack-clause-only
returns-in_err-pack-clause-only g c =
    λ contents parts is packed. packing.is_device_or_memory_fault-of_result c.in_err-pack.field-0.0
    c.from_residual.result
    c.from_residual.ensures.1 (c.in_err-pack.ensures.only contents parts is packed)

pub returns-in_err-pack-clause-unwritten : goal.returns-in_err-pack-clause-unwritten
returns-in_err-pack-clause-unwritten g c =
    packing.no_write_fault-of_result c.in_err-pack.field-0.0 c.from_residual.result _
    c.from_residual.ensures.1
    c.in_err-pack.ensures.unwritten

pub returns-in_err-pack-clause-read_failures : goal.returns-in_err-pack-clause-read_failures
returns-in_err-pack-clause-read_failures g c =
    packing.counted_reads-of_result c.in_err-pack.field-0.0 c.from_residual.result _ _
    c.from_residual.ensures.1
    c.in_err-pack.ensures.read_failures

pub returns-in_err-pack-clause-write_failures : goal.returns-in_err-pack-clause-write_failures
returns-in_err-pack-clause-write_failures g c =
    packing.counted_writes-of_result c.in_err-pack.field-0.0 c.from_residual.result _ _
    c.from_residual.ensures.1
    c.in_err-pack.ensures.write_failures

pub returns-in_err-pack-clause-part : goal.returns-in_err-pack-clause-part
returns-in_err-pack-clause-part g c =
    packing.write_fault-of_result c.in_err-pack.field-0.0 c.from_residual.result _ c.from_residual.ensures.1
    c.in_err-pack.ensures.part

pub returns-in_err-pack-clause-faults : goal.returns-in_err-pack-clause-faults
returns-in_err-pack-clause-faults g c =
    packing.is_fault_of_pack-of_result c.in_err-pack.field-0.0 c.from_residual.result
    c.from_residual.ensures.1
