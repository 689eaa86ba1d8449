-- The tasks that `run_task` runs, one for each command (docs/FORMATS.md, the section "The program"), and what
-- each task reads.
use Rattle.std.specs.Prelude.{ℕ, Bool, true, false, List, [], ⊤}
use Rattle.std.specs.String.{string_bytes}
use Rattle.mc_cli.specs.declared.audit_words.AuditWords.{AuditWords}
use Rattle.mc_cli.specs.declared.task.Task.{Task}
use Rattle.mc_cli.specs.declared.task.Task.TheVariants.{Wants, Check, Make, Replay, Pack, Audit, Help}
use Rattle.mc_cli.specs.declared.task.Task.TheVariants.{Version}

-- ---- facts of a task's arguments, by the kind of the task

-- P holds of the group and the source, if the task is `wants`
abbrev pub IfWants : Task → ((group source : ℕ) → Type 0) → Type 0
IfWants (Wants group source) P = P group source
IfWants _ P = ⊤

-- P holds, if the task is `check`
abbrev pub IfCheck : Task → Type 0 → Type 0
IfCheck Check P = P
IfCheck _ P = ⊤

-- P holds, if the task is `make`
abbrev pub IfMake : Task → Type 0 → Type 0
IfMake Make P = P
IfMake _ P = ⊤

-- P holds of the flow's number, the TTL and whether the last waiting copy is always handled, if the task is
-- `replay`
abbrev pub IfReplay : Task → ((flow ttl : ℕ) (last : Bool) → Type 0) → Type 0
IfReplay (Replay flow ttl last) P = P flow ttl last
IfReplay _ P = ⊤

-- P holds of whether a certificate is packed, too, if the task is `pack`
abbrev pub IfPack : Task → ((certificate : Bool) → Type 0) → Type 0
IfPack (Pack folder certificate) P = P certificate
IfPack _ P = ⊤

-- P holds of the arguments, if the task is `audit`
abbrev pub IfAudit : Task → (AuditWords → Type 0) → Type 0
IfAudit (Audit words) P = P words
IfAudit _ P = ⊤

-- P holds of the text, if the task is `help`
abbrev pub IfHelp : Task → ((text : List ℕ) → Type 0) → Type 0
IfHelp (Help text) P = P (string_bytes text)
IfHelp _ P = ⊤

-- P holds, if the task is `--version`
abbrev pub IfVersion : Task → Type 0 → Type 0
IfVersion Version P = P
IfVersion _ P = ⊤

-- ---- what a task reads

-- whether the task reads the standard input
abbrev pub reads_input : Task → Bool
reads_input (Wants group source) = true
reads_input Check = true
reads_input Make = true
reads_input (Replay flow ttl last) = true
reads_input _ = false

-- whether the task reads the files of a folder
abbrev pub reads_files : Task → Bool
reads_files (Pack folder certificate) = true
reads_files (Audit words) = true
reads_files _ = false

-- the path of the folder whose files the task reads; empty if it reads none
abbrev pub folder_of : Task → List ℕ
folder_of (Pack folder certificate) = folder.now
folder_of (Audit words) = words.folder.now
folder_of _ = []
