use Rattle.std.proofs.Common.{codes, []}
use Rattle.clap.specs.Simple.{App, with_rule}
use Rattle.mc_cli.specs.Commands.{command_shape, required_rule}
use Rattle.mc_cli.proofs.CommandLemmas.{IsCommand-with_first_rule}
use Rattle.mc_cli.proofs.command.wants_command.Goals as goal

-- The arguments that were added are those of the shape, in its order.
pub returns : goal.returns
returns c =
    let none : App = record { top = command_shape (codes "wants") []; subs = [] } in
    let group = c.required-group in
    c.with_argument.ensures (with_rule none (required_rule (codes "group"))) (required_rule (codes "source"))
    c.required.ensures.rule c.required.ensures.local
    (IsCommand-with_first_rule c.bare_command-command.result group.result none
    (required_rule (codes "group")) c.arg.result
    group.ensures.rule group.ensures.local c.bare_command-command.ensures c.arg.ensures)
