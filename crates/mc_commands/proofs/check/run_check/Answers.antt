use Rattle.std.proofs.Common.{true}
use Rattle.mc_commands.specs.InputMeaning.{IsRefusedFor}
use Rattle.mc_commands.specs.CheckRun.{IsVerdictText}
use Rattle.mc_commands.proofs.RunLemmas.{answers-output_written, fault-of_output_or_write}
use Rattle.mc_commands.proofs.RunLemmas.{writes_part-output_written, writes-output_written}
use Rattle.mc_commands.proofs.YesLines.{headline_of_bundle-check_yes}
use Rattle.mc_commands.specs.Faults.{IsFaultOfCheck}
use Rattle.mc_commands.proofs.check.run_check.Goals as goal

-- The verdicts are right or the bundle is refused before anything is written; writing keeps the answer, or
-- makes it the fault `Write`.
pub returns-clause-answer : goal.returns-clause-answer
returns-clause-answer g c =
    answers-output_written (g.R.Input.remaining c.args.input.now) IsVerdictText (IsRefusedFor true)
    c.verdicts_of_input.result c.write_output.result _ _ (λ _. tt) c.verdicts_of_input.ensures.text
    c.verdicts_of_input.ensures.refused c.write_output.ensures.ended

-- The text of an answer is written whole.
pub returns-clause-written : goal.returns-clause-written
returns-clause-written g c =
    writes-output_written (g.R.Input.remaining c.args.input.now) IsVerdictText c.verdicts_of_input.result
    c.write_output.result _ _ c.verdicts_of_input.ensures.text c.write_output.ensures.ended

-- No fault of the bundle is `Write`, so that one comes from writing, where a part of a right text was taken.
pub returns-clause-part : goal.returns-clause-part
returns-clause-part g c =
    writes_part-output_written (g.R.Input.remaining c.args.input.now) IsVerdictText
    c.verdicts_of_input.result c.write_output.result
    _ _ c.verdicts_of_input.ensures.no_write c.verdicts_of_input.ensures.text c.write_output.ensures.ended

-- Only the last line of a text of verdicts starts with a yes, and only if all verdicts are yes; each of those
-- carries the headline of its flow.
pub returns-clause-headline : goal.returns-clause-headline
returns-clause-headline g c =
    headline_of_bundle-check_yes (g.R.Input.remaining c.args.input.now) c.verdicts_of_input.result
    c.write_output.result _ _
    c.verdicts_of_input.ensures.text c.verdicts_of_input.ensures.headline c.write_output.ensures.ended

-- A fault is one of the bundle, or `Write`.
pub returns-clause-faults : goal.returns-clause-faults
returns-clause-faults g c = fault-of_output_or_write IsFaultOfCheck c.verdicts_of_input.result
    c.write_output.result _ _ tt
    c.verdicts_of_input.ensures.faults c.write_output.ensures.ended
