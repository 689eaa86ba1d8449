use Rattle.mc_commands.specs.ReplayRun.{IsReplayRefused, IsTravelText}
use Rattle.mc_commands.proofs.RunLemmas.{answers-output_written, fault-of_output_or_write}
use Rattle.mc_commands.proofs.RunLemmas.{writes_part-output_written, writes-output_written}
use Rattle.mc_commands.specs.Faults.{IsFaultOfReplay}
use Rattle.mc_commands.proofs.replay.run_replay.Goals as goal

-- The travel's text is right or the run is refused before anything is written; writing keeps the answer, or
-- makes it the fault `Write`.
pub returns-clause-answer : goal.returns-clause-answer
returns-clause-answer g c =
    answers-output_written (g.R.Input.remaining c.args.input.now) (IsTravelText c.args.flow c.args.ttl _)
    (IsReplayRefused c.args.flow) c.travel_of_input.result c.write_output.result _ _ (λ _. tt)
    c.travel_of_input.ensures.text c.travel_of_input.ensures.refused c.write_output.ensures.ended

-- The text of an answer is written whole.
pub returns-clause-written : goal.returns-clause-written
returns-clause-written g c =
    writes-output_written (g.R.Input.remaining c.args.input.now) (IsTravelText c.args.flow c.args.ttl _)
    c.travel_of_input.result c.write_output.result _ _ c.travel_of_input.ensures.text
    c.write_output.ensures.ended

-- No fault before the writing is `Write`, so that one comes from writing, where a part of a right text was
-- taken.
pub returns-clause-part : goal.returns-clause-part
returns-clause-part g c =
    writes_part-output_written (g.R.Input.remaining c.args.input.now) (IsTravelText c.args.flow c.args.ttl _)
    c.travel_of_input.result c.write_output.result _ _ c.travel_of_input.ensures.no_write
    c.travel_of_input.ensures.text
    c.write_output.ensures.ended

-- A fault is one of the bundle or of the flow's number, or `Write`.
pub returns-clause-faults : goal.returns-clause-faults
returns-clause-faults g c = fault-of_output_or_write (IsFaultOfReplay c.args.flow) c.travel_of_input.result
    c.write_output.result _ _ tt c.travel_of_input.ensures.faults c.write_output.ensures.ended
