-- The commands whose words clap parses, which are all but `audit` and `help` (docs/FORMATS.md, the section
-- "The program"), and what clap finds in the words.
use Rattle.std.specs.Prelude.{◌≡◌, List, ℕ, Bool, true, false, [], ◌∷◌, Some, None, Option, codes}
use Rattle.std.specs.Prelude.{unwrap_or}
use Rattle.std.specs.List.{list_any}
use Rattle.std.specs.Str.{bytes_eq}
use Rattle.clap.specs.Faults.{fault_of}
use Rattle.clap.specs.Simple.{App, Shape, app_of, new_rule, new_shape, subcommand_of}
use Rattle.clap.specs.Walk.{Row, Rule, first_of, one_of}
use Rattle.clap.specs.declared.builder.action.ArgAction.TheVariants.{SetTrue}
use Rattle.clap.specs.declared.builder.command.Command.{Command}
use Rattle.clap.specs.declared.builder.command.Command.TheViews.{out-Command}

-- the required argument `<name>`
abbrev pub required_rule : List ℕ → Rule
required_rule name = record (new_rule name) { required = true }

-- the flag `--name`, at most once
abbrev pub flag_rule : List ℕ → Rule
flag_rule name = record (new_rule name) { long = Some name; action = Some SetTrue }

-- the option `--name` with a value, at most once, and this default value
abbrev pub option_rule : List ℕ → List ℕ → Rule
option_rule name value = record (new_rule name) { long = Some name; defaults = value ∷ [] }

-- a command with these arguments
abbrev pub command_shape : List ℕ → List Rule → Shape
command_shape name rules = record (new_shape name) { rules = rules }

-- `check`
abbrev pub check_shape : Shape
check_shape = command_shape (codes "check") []

-- `make`
abbrev pub make_shape : Shape
make_shape = command_shape (codes "make") []

-- `pack <folder> [--certificate]`
abbrev pub pack_shape : Shape
pack_shape = command_shape (codes "pack")
    (required_rule (codes "folder") ∷ flag_rule (codes "certificate") ∷ [])

-- `replay <flow> <ttl> [--order first or last]`
abbrev pub replay_shape : Shape
replay_shape = command_shape (codes "replay")
    (required_rule (codes "flow") ∷ required_rule (codes "ttl")
    ∷ option_rule (codes "order") (codes "first") ∷ [])

-- `wants <group> <source>`
abbrev pub wants_shape : Shape
wants_shape = command_shape (codes "wants")
    (required_rule (codes "group") ∷ required_rule (codes "source") ∷ [])

-- the program, which requires a command
abbrev pub program_shape : Shape
program_shape = record (new_shape (codes "mcaudit")) {
  subcommand_required = true;
  arg_required_else_help = true;
  disable_help_subcommand = true;
}

-- the program with these commands
abbrev pub commands : App
commands = record {
  top = record program_shape { is_leaf = false };
  subs = check_shape ∷ make_shape ∷ pack_shape ∷ replay_shape ∷ wants_shape ∷ [];
}

-- the names of the commands; `help` is none
abbrev pub command_names : List (List ℕ)
command_names = codes "audit" ∷ codes "check" ∷ codes "make" ∷ codes "pack" ∷ codes "replay"
    ∷ codes "wants" ∷ []

-- whether a command has this name
abbrev pub is_command : List ℕ → Bool
is_command name = list_any (λ command. bytes_eq name command) command_names

-- The command is this one for clap, and has no global argument.
pub record IsCommand (app : App) (command : Command) : Type 0 where
  pub same : app_of command ≡ app
  pub local : (out-Command command).has_globals ≡ false

-- The command has this shape, and no subcommand.
abbrev pub IsLeaf : Shape → Command → Type 0
IsLeaf shape = IsCommand (record { top = shape; subs = [] })

-- Clap finds no fault in the program's words.
abbrev pub AreAcceptedByClap : List (List ℕ) → Type 0
AreAcceptedByClap words = fault_of commands words ≡ []

-- the command that clap finds in the words, and what it finds for the command's arguments
abbrev pub subcommand_in : List (List ℕ) → Option (List ℕ × List Row)
subcommand_in = subcommand_of commands

-- the word that is found for an argument; empty if none is
abbrev pub word_of : List Row → List ℕ → List ℕ
word_of rows name = unwrap_or (first_of name rows) []

-- The flag is set if it is found as set, and isn't if it is found as not set or isn't found.
pub record IsFlagValue (rows : List Row) (name : List ℕ) (flag : Bool) : Type 0 where
  pub set : one_of name rows ≡ Some (codes "true") → flag ≡ true
  pub unset : one_of name rows ≡ Some (codes "false") → flag ≡ false
  pub absent : one_of name rows ≡ None → flag ≡ false
