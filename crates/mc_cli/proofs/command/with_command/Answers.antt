use Rattle.std.proofs.lemmas.Result.{IfOk-at_ok, IfOk-weaker}
use Rattle.mc_cli.proofs.CommandLemmas.{IsCommand-with_subcommand}
use Rattle.mc_cli.proofs.command.with_command.Goals as goal

-- Adding a command without subcommands adds its shape to those of the program, and nothing else.
pub returns : goal.returns
returns c = λ app shape is leaf.
    let old = IfOk-at_ok _ c.in_ok-command.was is in
    let sub = IfOk-at_ok _ c.in_ok-below.was leaf in
    IfOk-weaker c.subcommand.result _ _
    (λ new adds. IsCommand-with_subcommand c.in_ok-command.command c.in_ok-below.below new app shape old sub
    adds)
    c.subcommand.ensures
