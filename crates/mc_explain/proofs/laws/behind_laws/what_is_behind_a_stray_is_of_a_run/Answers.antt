-- By what a run past strays shows.
use Rattle.mc_replay.proofs.PastRunLemmas.{begins_as_travel}
use Rattle.mc_explain.proofs.BehindFactLemmas.{is_true-behind}
use Rattle.mc_explain.proofs.laws.behind_laws.what_is_behind_a_stray_is_of_a_run.Goals as goal

-- What is said was worked out from the flight that the run ends with.
pub returns-clause-of_run : goal.returns-clause-of_run
returns-clause-of_run c = is_true-behind

-- Both runs handle the first waiting copy each time, and the travel ends at the first finding, before which
-- the run past strays doesn't end.
pub returns-clause-begins : goal.returns-clause-begins
returns-clause-begins c = begins_as_travel
