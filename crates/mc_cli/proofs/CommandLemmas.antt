-- What clap's builders make of the program's commands.
use Rattle.std.proofs.Common.{◌≡◌, ◌∙◌, ◌||◌, false, ap, ap₂, Result, Ok, Err}
use Rattle.std.specs.Prelude.{IfOk}
use Rattle.clap.specs.Built.{AddsArg, AddsSubcommand}
use Rattle.clap.specs.Simple.{App, Shape, with_rule, with_subcommand}
use Rattle.clap.specs.Walk.{Rule, rule_of}
use Rattle.clap.specs.declared.builder.arg.Arg.{Arg}
use Rattle.clap.specs.declared.builder.command.Command.{Command}
use Rattle.mc_cli.specs.Commands.{IsCommand, IsLeaf}

-- a command with an added argument
pub IsCommand-with_rule : (old : Command) (argument : Arg) (new : Command) (app : App) (rule : Rule)
    → rule_of argument ≡ rule
    → argument.global ≡ false → IsCommand app old → AddsArg old argument new
    → IsCommand (with_rule app rule) new
IsCommand-with_rule old argument new app rule same local is adds = record {
  same = adds.shape local ∙ ap₂ (λ app rule. with_rule app rule) is.same same;
  local = adds.globals ∙ ap₂ (λ above own. above || own) is.local local;
}

-- a command with an added subcommand
pub IsCommand-with_subcommand : (old sub new : Command) (app : App) (shape : Shape) → IsCommand app old
    → IsLeaf shape sub
    → AddsSubcommand old sub new → IsCommand (with_subcommand app shape) new
IsCommand-with_subcommand old sub new app shape is leaf adds = record {
  same = adds.shape leaf.local
      ∙ ap₂ (λ app shape. with_subcommand app shape) is.same (ap (λ (app : App). app.top) leaf.same);
  local = adds.globals ∙ ap₂ (λ above own. above || own) is.local leaf.local;
}

-- a command with its first argument, unless memory runs out
pub IsCommand-with_first_rule : {E : Type 0} (old : Command) (argument : Arg) (app : App) (rule : Rule)
    (r : Result Command E)
    → rule_of argument ≡ rule → argument.global ≡ false → IsCommand app old
    → IfOk r (λ new. AddsArg old argument new) → IfOk r (IsCommand (with_rule app rule))
IsCommand-with_first_rule old argument app rule (Ok new) same local is adds =
    IsCommand-with_rule old argument new app rule same local is adds
IsCommand-with_first_rule old argument app rule (Err e) same local is adds = tt
