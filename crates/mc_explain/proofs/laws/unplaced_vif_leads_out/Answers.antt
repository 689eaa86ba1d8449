-- A stray at a router with an exact row was sent by a pair of the row, by a vif that is placed on no LAN.
use Rattle.mc_explain.specs.declared.causes.Cause.TheVariants.{Unplaced}
use Rattle.mc_explain.proofs.CauseLemmas.{causes_hold-all}
use Rattle.mc_explain.proofs.laws.unplaced_vif_leads_out.Goals as goal

pub returns : goal.returns
returns c = λ d flow router vif r.
    causes_hold-all d flow r.flights r.causes r.of_flow (Unplaced router vif) r.listed
