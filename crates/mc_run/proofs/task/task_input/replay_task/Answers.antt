use Rattle.std.proofs.Common.{Bool, subst, sym}
use Rattle.mc_run.specs.TaskRuns.{IsReplayRun}
use Rattle.mc_run.proofs.task.task_input.replay_task.Goals as goal

-- The picker that takes the last waiting copy has the choices of this task,
pub returns-then-last-clause-run : goal.returns-then-last-clause-run
returns-then-last-clause-run g c =
    let contents = g.R.Input.remaining c.args.input.now in
    let left = g.R.Input.remaining c.run_replay.new.input in
    let old = g.W.Output.written c.args.output.now in
    let new = g.W.Output.written c.run_replay.new.output in
    subst (λ (last : Bool). IsReplayRun c.args.flow c.args.ttl last contents left c.run_replay.result old new)
    (sym c.if-last.true)
    (record {
      run = record {
        answer = c.run_replay.ensures.answer;
        written = c.run_replay.ensures.written;
        part = c.run_replay.ensures.part;
      };
      faults = c.run_replay.ensures.faults;
      consumed = c.run_replay.ensures.consumed;
    })

-- and else the one that takes the first.
pub returns-else-last-clause-run : goal.returns-else-last-clause-run
returns-else-last-clause-run g c =
    let contents = g.R.Input.remaining c.args.input.now in
    let left = g.R.Input.remaining c.run_replay-else-last.new.input in
    let old = g.W.Output.written c.args.output.now in
    let new = g.W.Output.written c.run_replay-else-last.new.output in
    subst (λ (last : Bool). IsReplayRun c.args.flow c.args.ttl last contents left
    c.run_replay-else-last.result old new)
    (sym c.if-last.false)
    (record {
      run = record {
        answer = c.run_replay-else-last.ensures.answer;
        written = c.run_replay-else-last.ensures.written;
        part = c.run_replay-else-last.ensures.part;
      };
      faults = c.run_replay-else-last.ensures.faults;
      consumed = c.run_replay-else-last.ensures.consumed;
    })
