use Rattle.std.proofs.Common.{sym}
use Rattle.std.proofs.lemmas.Result.{err_from_is_err_and}
use Rattle.mc_commands.proofs.WantsReadingLemmas.{is_wants_answer-reads_pieces, answers_wants-list_refused}
use Rattle.mc_commands.proofs.WantsReadingLemmas.{answers_wants-failed_run, is_not_write-read_or_memory}
use Rattle.mc_commands.proofs.WantsReadingLemmas.{is_no_device_fault-list_fault}
use Rattle.mc_commands.proofs.FaultLemmas.{is_fault_of_wants-read_or_memory, is_fault_of_wants-list_fault}
use Rattle.mc_commands.proofs.wants.wanted_in_input.Goals as goal

-- Before the list's end only a failed read or want of memory ends the run, and either may come with any list.
pub returns-in_err-wanted-clause-answer : goal.returns-in_err-wanted-clause-answer
returns-in_err-wanted-clause-answer g c =
    let p = err_from_is_err_and c.from_residual.result c.from_residual.ensures.1 in
    rw (p.1, p.2) (answers_wants-failed_run (g.R.Input.remaining c.args.input.now) c.args.group c.args.source
    c.in_err-wanted.field-0.0 c.in_err-wanted.ensures.kind)

-- Neither of the two is `Write`.
pub returns-in_err-wanted-clause-kind : goal.returns-in_err-wanted-clause-kind
returns-in_err-wanted-clause-kind g c =
    let p = err_from_is_err_and c.from_residual.result c.from_residual.ensures.1 in
    rw (p.1, p.2) (is_not_write-read_or_memory c.in_err-wanted.field-0.0 c.in_err-wanted.ensures.kind)

-- All pieces were read, so that the reader's fault at the end is the first fault of the list.
pub returns-in_err-last-clause-answer : goal.returns-in_err-last-clause-answer
returns-in_err-last-clause-answer g c =
    let p = err_from_is_err_and c.from_residual-in_err-last.result
    c.from_residual-in_err-last.ensures.1 in
    rw (p.1, p.2) (answers_wants-list_refused (g.R.Input.remaining c.args.input.now)
    (g.R.Input.remaining c.wanted_in_pieces.new.input) c.new-reader.result c.wanted_in_pieces.new.reader
    c.args.group c.args.source c.in_ok-wanted.wanted c.in_err-last.field-0.0
    c.new-reader.ensures.reads c.in_ok-wanted.ensures.pieces_read c.in_ok-wanted.ensures.end
    (sym c.in_err-last.ensures.ends))

-- A list's fault is no device's,
pub returns-in_err-last-clause-kind : goal.returns-in_err-last-clause-kind
returns-in_err-last-clause-kind g c =
    let p = err_from_is_err_and c.from_residual-in_err-last.result
    c.from_residual-in_err-last.ensures.1 in
    rw (p.1, p.2) (is_no_device_fault-list_fault c.in_err-last.field-0.0 c.in_err-last.field-0.0.kind).0

-- and counts as no failure.
pub returns-in_err-last-clause-failures : goal.returns-in_err-last-clause-failures
returns-in_err-last-clause-failures g c =
    let p = err_from_is_err_and c.from_residual-in_err-last.result
    c.from_residual-in_err-last.ensures.1 in
    let own = (is_no_device_fault-list_fault c.in_err-last.field-0.0 c.in_err-last.field-0.0.kind).1 in
    rw (p.1, p.2, own) c.in_ok-wanted.ensures.failures

-- The LAN wants the channel by the records of some piece or by the last ones, which together are those of the
-- list.
pub returns-clause-answer : goal.returns-clause-answer
returns-clause-answer g c =
    is_wants_answer-reads_pieces (g.R.Input.remaining c.args.input.now)
    (g.R.Input.remaining c.wanted_in_pieces.new.input)
    c.new-reader.result c.wanted_in_pieces.new.reader c.args.group c.args.source
    c.in_ok-wanted.wanted c.is_wanted-wanted_by_last.result c.in_ok-last.last
    c.new-reader.ensures.reads c.in_ok-wanted.ensures.pieces_read c.in_ok-wanted.ensures.end
    (sym c.in_ok-last.ensures.ends) (rw c.records.ensures at c.is_wanted-wanted_by_last.ensures)

-- `Read` and `Memory` are faults of `wants`,
pub returns-in_err-wanted-clause-faults : goal.returns-in_err-wanted-clause-faults
returns-in_err-wanted-clause-faults g c =
    let p = err_from_is_err_and c.from_residual.result c.from_residual.ensures.1 in
    rw (p.1, p.2) (is_fault_of_wants-read_or_memory c.in_err-wanted.field-0.0 c.in_err-wanted.ensures.kind)

-- and so is each fault of a list.
pub returns-in_err-last-clause-faults : goal.returns-in_err-last-clause-faults
returns-in_err-last-clause-faults g c =
    let p = err_from_is_err_and c.from_residual-in_err-last.result
    c.from_residual-in_err-last.ensures.1 in
    rw (p.1, p.2) (is_fault_of_wants-list_fault c.in_err-last.field-0.0 c.in_err-last.field-0.0.kind)
