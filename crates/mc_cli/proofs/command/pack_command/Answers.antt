use Rattle.std.proofs.Common.{codes, []}
use Rattle.clap.specs.Simple.{App, with_rule}
use Rattle.mc_cli.specs.Commands.{command_shape, flag_rule, required_rule}
use Rattle.mc_cli.proofs.CommandLemmas.{IsCommand-with_first_rule}
use Rattle.mc_cli.proofs.command.pack_command.Goals as goal

-- The arguments that were added are those of the shape, in its order.
pub returns : goal.returns
returns c =
    let none : App = record { top = command_shape (codes "pack") []; subs = [] } in
    c.with_argument.ensures (with_rule none (required_rule (codes "folder")))
    (flag_rule (codes "certificate"))
    c.flag.ensures.rule c.flag.ensures.local
    (IsCommand-with_first_rule c.bare_command-command.result c.required.result none
    (required_rule (codes "folder")) c.arg.result
    c.required.ensures.rule c.required.ensures.local c.bare_command-command.ensures c.arg.ensures)
