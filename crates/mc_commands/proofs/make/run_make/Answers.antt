use Rattle.std.proofs.Common.{false}
use Rattle.mc_commands.specs.InputMeaning.{IsRefusedFor}
use Rattle.mc_commands.specs.MakeRun.{IsMadeText, SaysAllRight}
use Rattle.mc_commands.proofs.MakeLemmas.{says_all_right-make_output}
use Rattle.mc_commands.proofs.RunLemmas.{answer-gives, answers-output_written, fault-of_output_or_write}
use Rattle.mc_commands.proofs.RunLemmas.{writes_part-output_written, writes-output_written}
use Rattle.mc_commands.specs.Faults.{IsFaultOfMake}
use Rattle.mc_commands.proofs.make.run_make.Goals as goal

-- The text is right or the bundle is refused before anything is written; writing keeps the answer, or makes
-- it the fault `Write`.
pub returns-clause-answer : goal.returns-clause-answer
returns-clause-answer g c =
    answers-output_written (g.R.Input.remaining c.args.input.now) IsMadeText (IsRefusedFor false)
    c.make_for_input.result
    c.write_output.result _ _ (λ _. tt) c.make_for_input.ensures.text c.make_for_input.ensures.refused
    c.write_output.ensures.ended

-- A flow is certified exactly if it is right, and the answer is whether all are certified.
pub returns-clause-right : goal.returns-clause-right
returns-clause-right g c =
    answer-gives (g.R.Input.remaining c.args.input.now) IsMadeText SaysAllRight c.make_for_input.result
    c.write_output.result _ _ says_all_right-make_output c.make_for_input.ensures.text
    c.write_output.ensures.ended

-- The text of an answer is written whole.
pub returns-clause-written : goal.returns-clause-written
returns-clause-written g c =
    writes-output_written (g.R.Input.remaining c.args.input.now) IsMadeText c.make_for_input.result
    c.write_output.result _ _
    c.make_for_input.ensures.text c.write_output.ensures.ended

-- No fault of the bundle is `Write`, so that one comes from writing, where a part of a right text was taken.
pub returns-clause-part : goal.returns-clause-part
returns-clause-part g c =
    writes_part-output_written (g.R.Input.remaining c.args.input.now) IsMadeText
    c.make_for_input.result c.write_output.result _ _
    c.make_for_input.ensures.no_write c.make_for_input.ensures.text c.write_output.ensures.ended

-- A fault is one of the bundle, or `Write`.
pub returns-clause-faults : goal.returns-clause-faults
returns-clause-faults g c = fault-of_output_or_write IsFaultOfMake c.make_for_input.result
    c.write_output.result _ _ tt
    c.make_for_input.ensures.faults c.write_output.ensures.ended
