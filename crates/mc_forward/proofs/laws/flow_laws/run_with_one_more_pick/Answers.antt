use Rattle.mc_forward.proofs.RunLemmas.{run-push, in_range-push}
use Rattle.mc_forward.proofs.laws.flow_laws.run_with_one_more_pick.Goals as goal

-- A run goes by its list of picks, so that the last pick is made from where those before it lead.
pub returns : goal.returns
returns c = record { flight = run-push; in_range = in_range-push }
