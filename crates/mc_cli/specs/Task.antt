-- Which values a task may have, and which words of the command line ask for it (docs/FORMATS.md, the section
-- "The program").
use Rattle.std.specs.Prelude.{◌≡◌, ◌≤◌, ◌⊎◌, ℕ, Bool, true, false, List, map, codes, Some, ⊤}
use Rattle.std.specs.Prelude.{IsSomeAnd, Option, [], ◌∷◌, drop, slice_get}
use Rattle.clap.specs.Walk.{Row}
use Rattle.mc_text.specs.Addr.{IsForwardedGroup, IsSource, dotted}
use Rattle.mc_text.specs.Number.{IsDecimal}
use Rattle.mc_cli.specs.AuditWords.{AreAuditWords, are_distinct_router_names}
use Rattle.mc_cli.specs.GivenWords.{is_option}
use Rattle.mc_cli.specs.Commands.{AreAcceptedByClap, IsFlagValue, subcommand_in, is_command, word_of}
use Rattle.mc_cli.specs.declared.audit_words.AuditWords.{AuditWords}
use Rattle.mc_cli.specs.declared.task.Task.{Task}
use Rattle.mc_cli.specs.declared.task.Task.TheVariants.{Wants, Check, Make, Replay, Pack, Audit}
use Rattle.mc_cli.specs.declared.task.Task.TheVariants.{Help, Version}

-- The folder doesn't begin with `-`, and the excluded routers have valid names, each once.
pub record IsAllowedAudit (words : AuditWords) : Type 0 where
  pub folder : is_option words.folder.now ≡ false
  pub without : are_distinct_router_names (map (λ word. word.now) words.without.items) ≡ true

-- The task's arguments are values that its command may have.
abbrev pub IsAllowed : Task → Type 0
IsAllowed (Wants group source) = IsForwardedGroup group × IsSource source
IsAllowed Check = ⊤
IsAllowed Make = ⊤
IsAllowed (Replay flow ttl last) = (1 ≤ flow) × (flow ≤ 4096) × (1 ≤ ttl) × (ttl ≤ 255)
IsAllowed (Pack folder certificate) = ⊤
IsAllowed (Audit words) = IsAllowedAudit words
IsAllowed (Help text) = ⊤
IsAllowed Version = ⊤

-- The words after `wants` are the group and the source of the task.
abbrev pub AreWantsWords : List ℕ → List ℕ → Task → Type 0
AreWantsWords group_word source_word (Wants group source) =
    (group_word ≡ dotted group) × (source_word ≡ dotted source)
AreWantsWords group_word source_word _ = ⊥

-- the word after `--order`, by whether the last waiting copy is always handled next, or the first
abbrev pub order_word : Bool → List ℕ
order_word false = codes "first"
order_word true = codes "last"

-- The words after `replay` are the flow's number, the TTL and the order of the task.
abbrev pub AreReplayWords : List ℕ → List ℕ → List ℕ → Task → Type 0
AreReplayWords flow_word ttl_word order (Replay flow ttl last) =
    IsDecimal flow_word flow × IsDecimal ttl_word ttl × (order ≡ order_word last)
AreReplayWords flow_word ttl_word order _ = ⊥

-- The task is the one that this command asks for, with what clap finds for its arguments.
abbrev pub IsTaskOfCommand : List ℕ → List Row → Task → Type 0
IsTaskOfCommand command rows (Wants group source) = (command ≡ codes "wants")
    × AreWantsWords (word_of rows (codes "group")) (word_of rows (codes "source")) (Wants group source)
IsTaskOfCommand command rows Check = command ≡ codes "check"
IsTaskOfCommand command rows Make = command ≡ codes "make"
IsTaskOfCommand command rows (Replay flow ttl last) = (command ≡ codes "replay")
    × AreReplayWords (word_of rows (codes "flow")) (word_of rows (codes "ttl"))
    (word_of rows (codes "order")) (Replay flow ttl last)
IsTaskOfCommand command rows (Pack folder certificate) = (command ≡ codes "pack")
    × (folder.now ≡ word_of rows (codes "folder")) × IsFlagValue rows (codes "certificate") certificate
IsTaskOfCommand command rows (Audit words) = ⊥
IsTaskOfCommand command rows (Help text) = ⊥
IsTaskOfCommand command rows Version = ⊥

-- The task is the one that the command asks for which clap finds.
abbrev pub IsTaskOfSubcommand : Option (List ℕ × List Row) → Task → Type 0
IsTaskOfSubcommand found task = IsSomeAnd found (λ command. IsTaskOfCommand command.0 command.1 task)

-- Clap accepts the words, and the task is that of the command which it finds in them.
abbrev pub IsClapTask : List (List ℕ) → Task → Type 0
IsClapTask words task = AreAcceptedByClap words × IsTaskOfSubcommand (subcommand_in words) task

-- This is the first word after the program's own name.
abbrev pub IsFirstWord : List ℕ → List (List ℕ) → Type 0
IsFirstWord word words = slice_get words 1 ≡ Some word

-- The first word after the program's own name asks for the version.
abbrev pub AskForVersion : List (List ℕ) → Type 0
AskForVersion words = IsFirstWord (codes "--version") words ⊎ IsFirstWord (codes "-V") words

-- whether the words after `help` are none, or the name of a command
abbrev pub is_topic : List (List ℕ) → Bool
is_topic [] = true
is_topic (name ∷ []) = is_command name
is_topic (name ∷ other ∷ more) = false

-- The words ask for help.
abbrev pub AskForHelp : List (List ℕ) → Type 0
AskForHelp words = IsFirstWord (codes "help") words × (is_topic (drop 2 words) ≡ true)

-- The task is a help.
abbrev pub IsHelp : Task → Type 0
IsHelp (Help text) = ⊤
IsHelp other = ⊥

-- The task is an audit with the arguments that these words give.
abbrev pub IsAuditFor : List (List ℕ) → Task → Type 0
IsAuditFor words (Audit audit) = AreAuditWords words audit
IsAuditFor words other = ⊥

-- The program's words, of which the first is its own name, ask for the task.
abbrev pub IsAskedFor : List (List ℕ) → Task → Type 0
IsAskedFor words Version = AskForVersion words
IsAskedFor words (Help text) = AskForHelp words
IsAskedFor words (Audit audit) = IsFirstWord (codes "audit") words × AreAuditWords (drop 2 words) audit
IsAskedFor words task = IsClapTask words task
