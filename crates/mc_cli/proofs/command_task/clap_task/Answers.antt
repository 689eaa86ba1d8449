use Rattle.std.proofs.Common.{map}
use Rattle.std.proofs.lemmas.Result.{IfOk-weaker}
use Rattle.clap.specs.declared.parser.matches.ArgMatches.{ArgMatches}
use Rattle.mc_cli.proofs.ClapLemmas.{subcommand_rows_of-commands, OutOfMemory-from_clap_error}
use Rattle.mc_cli.proofs.ClapLemmas.{AreAcceptedByClap-from_Ok}
use Rattle.mc_cli.proofs.command_task.clap_task.Goals as goal

-- Clap reports no fault exactly where it accepts the words, and its matches have the command that it finds
-- in them.
pub returns-in-Ok-clause-found : goal.returns-in-Ok-clause-found
returns-in-Ok-clause-found c =
    let words = map (λ word. word.now) c.args.words.now in
    let program = c.in_ok-clap_program in
    let found = subcommand_rows_of-commands program.field-0 words c.in-Ok.matches program.ensures
    c.in-Ok.ensures.matches in
    IfOk-weaker c.task_of.result _ _
    (λ task named. (
      AreAcceptedByClap-from_Ok program.field-0 words c.in-Ok.matches program.ensures c.in-Ok.ensures.kinds,
      (rw (← found) named),
    ))
    c.task_of.ensures.found

-- Clap accepts the words, so that its only error is that memory ran out.
pub returns-in-Err-clause-only : goal.returns-in-Err-clause-only
returns-in-Err-clause-only c = λ task allowed asked.
    let words = map (λ word. word.now) c.args.words.now in
    let program = c.in_ok-clap_program in
    c.clap_refusal.ensures
    (OutOfMemory-from_clap_error ArgMatches program.field-0 words c.in-Err.error program.ensures
    c.in-Err.ensures.kinds asked.0)
