use Rattle.std.proofs.Common.{codes, []}
use Rattle.clap.specs.Simple.{App, with_rule}
use Rattle.mc_cli.specs.Commands.{command_shape, option_rule, required_rule}
use Rattle.mc_cli.proofs.CommandLemmas.{IsCommand-with_first_rule}
use Rattle.mc_cli.proofs.command.replay_command.Goals as goal

-- The arguments that were added are those of the shape, in its order.
pub returns : goal.returns
returns c =
    let none : App = record { top = command_shape (codes "replay") []; subs = [] } in
    let flow : App = with_rule none (required_rule (codes "flow")) in
    let ttl : App = with_rule flow (required_rule (codes "ttl")) in
    c.with_argument.ensures ttl (option_rule (codes "order") (codes "first"))
    c.option.ensures.rule c.option.ensures.local
    (c.with_argument-command.ensures flow (required_rule (codes "ttl"))
    c.required-2.ensures.rule c.required-2.ensures.local
    (IsCommand-with_first_rule c.bare_command-command.result c.required.result none
    (required_rule (codes "flow")) c.arg-command.result
    c.required.ensures.rule c.required.ensures.local c.bare_command-command.ensures c.arg-command.ensures))
