-- A stray at a router with an open row is where a copy came in: by a vif on a LAN that carried one.
use Rattle.mc_explain.specs.declared.causes.Cause.TheVariants.{OnlyEverySource}
use Rattle.mc_explain.proofs.CauseLemmas.{causes_hold-all}
use Rattle.mc_explain.proofs.laws.every_source_row_is_reached.Goals as goal

pub returns : goal.returns
returns c = λ d flow router vif r.
    causes_hold-all d flow r.flights r.causes r.of_flow (OnlyEverySource router vif) r.listed
