use Rattle.std.proofs.Common.{[]}
use Rattle.clap.specs.Simple.{App, with_subcommand}
use Rattle.mc_cli.specs.Commands.{check_shape, make_shape, pack_shape, program_shape, replay_shape}
use Rattle.mc_cli.specs.Commands.{wants_shape}
use Rattle.mc_cli.proofs.command.with_commands.Goals as goal

-- The five commands that were added are those of `commands`, in its order.
pub returns : goal.returns
returns c = λ is.
    let none : App = record { top = program_shape; subs = [] } in
    let check : App = with_subcommand none check_shape in
    let make : App = with_subcommand check make_shape in
    let pack : App = with_subcommand make pack_shape in
    let replay : App = with_subcommand pack replay_shape in
    c.with_command.ensures replay wants_shape
    (c.with_command-program-4.ensures pack replay_shape
    (c.with_command-program-3.ensures make pack_shape
    (c.with_command-program-2.ensures check make_shape
    (c.with_command-program.ensures none check_shape is c.check_command.ensures)
    c.make_command.ensures)
    c.pack_command.ensures)
    c.replay_command.ensures)
    c.wants_command.ensures
