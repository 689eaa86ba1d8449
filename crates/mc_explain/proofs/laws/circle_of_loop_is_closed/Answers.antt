-- The LAN's second copy was followed back, hop by hop, to the LAN itself.
use Rattle.mc_explain.specs.declared.causes.Cause.TheVariants.{Circle}
use Rattle.mc_explain.proofs.CauseLemmas.{is_closed_circle-from_explained, causes_hold-all}
use Rattle.mc_explain.proofs.laws.circle_of_loop_is_closed.Goals as goal

-- Each hop takes from the LAN onto which the one before it sends, and the last one from the LAN of the
-- copy.
pub returns-clause-closed : goal.returns-clause-closed
returns-clause-closed c = λ d flow lan flights causes is e.
    is_closed_circle-from_explained d flow flights causes lan is.explained e

-- A hop of that path is one that a row makes.
pub returns-clause-hops : goal.returns-clause-hops
returns-clause-hops c = λ d flow from onto router vif r.
    causes_hold-all d flow r.flights r.causes r.of_flow (Circle from onto router vif) r.listed
