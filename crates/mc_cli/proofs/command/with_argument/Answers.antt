use Rattle.std.proofs.lemmas.Result.{IfOk-at_ok, IfOk-weaker}
use Rattle.mc_cli.proofs.CommandLemmas.{IsCommand-with_rule}
use Rattle.mc_cli.proofs.command.with_argument.Goals as goal

-- Adding an argument that isn't global adds its rule to those of the command, and nothing else.
pub returns : goal.returns
returns c = λ app rule same local is.
    let old = IfOk-at_ok _ c.in_ok-command.was is in
    IfOk-weaker c.arg.result _ _
    (λ new adds. IsCommand-with_rule c.in_ok-command.command c.args.argument new app rule same local old adds)
    c.arg.ensures
