-- The packet was followed over the path of the LAN's first copy up to the first hop whose threshold its TTL
-- doesn't exceed.
use Rattle.mc_explain.specs.declared.causes.Cause.TheVariants.{StoppedAt}
use Rattle.mc_explain.proofs.CauseLemmas.{causes_hold-all}
use Rattle.mc_explain.proofs.laws.reported_stop_stops_packet.Goals as goal

pub returns : goal.returns
returns c = λ d flow router vif threshold left r.
    causes_hold-all d flow r.flights r.causes r.of_flow (StoppedAt router vif threshold left) r.listed
