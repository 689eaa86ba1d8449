-- By safety and delivery.
use Rattle.mc_theory.proofs.Headline.{headline_holds-from_accepted}
use Rattle.mc_theory.proofs.certificate_laws.accepted_flow_keeps_headline.Goals as goal

pub returns : goal.returns
returns c = headline_holds-from_accepted
