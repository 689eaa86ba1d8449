-- A copy that an interface sent onto a LAN was sent by a pair of its router's row.
use Rattle.mc_explain.specs.declared.causes.Cause.TheVariants.{SentOnto}
use Rattle.mc_explain.proofs.CauseLemmas.{causes_hold-all}
use Rattle.mc_explain.proofs.laws.reported_sender_sends_onto_lan.Goals as goal

pub returns : goal.returns
returns c = λ d flow lan router vif r.
    causes_hold-all d flow r.flights r.causes r.of_flow (SentOnto lan router vif) r.listed
