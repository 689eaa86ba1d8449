-- The exit status of the program's answer, or of its failure (docs/FORMATS.md, the table of statuses in the
-- section "The program").
use Rattle.std.specs.Prelude.{ℕ, Bool, true, false, Result, Ok, Err}
use Rattle.mc_cli.specs.declared.fault.WordsFault.TheVariants as words
use Rattle.mc_commands.specs.declared.fault.RunFault.TheVariants as run
use Rattle.mcaudit.specs.declared.failure.Failure.{Failure}
use Rattle.mcaudit.specs.declared.failure.Failure.TheVariants.{Words, Run}

-- the status of a failure: 2 where the input is refused, 3 where a device failed, 4 where memory ran out, and
-- 5 for a usage error
abbrev pub exit_status_of_failure : Failure → ℕ
-- the input is refused
exit_status_of_failure (Run (run.Bundle fault)) = 2
exit_status_of_failure (Run (run.Parts place)) = 2
exit_status_of_failure (Run (run.Topology fault)) = 2
exit_status_of_failure (Run (run.Vif part fault)) = 2
exit_status_of_failure (Run (run.Cache part fault)) = 2
exit_status_of_failure (Run (run.PartReports part fault)) = 2
exit_status_of_failure (Run (run.Reports fault)) = 2
exit_status_of_failure (Run (run.Certificate fault)) = 2
exit_status_of_failure (Run (run.NoSuchFlow number)) = 2
exit_status_of_failure (Run (run.NoSuchRouter place)) = 2
-- a device failed
exit_status_of_failure (Run run.Read) = 3
exit_status_of_failure (Run run.Write) = 3
-- memory ran out
exit_status_of_failure (Run run.Memory) = 4
exit_status_of_failure (Words words.Memory) = 4
-- a usage error
exit_status_of_failure (Words (words.Wrong text)) = 5

-- the status of the program: 0 for a yes and for nothing else, 1 for a no, and otherwise the failure's
abbrev pub exit_status_of_answer : Result Bool Failure → ℕ
exit_status_of_answer (Ok true) = 0
exit_status_of_answer (Ok false) = 1
exit_status_of_answer (Err failure) = exit_status_of_failure failure
