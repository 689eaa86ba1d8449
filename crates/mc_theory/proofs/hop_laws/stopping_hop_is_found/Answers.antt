-- Hop by hop.
use Rattle.mc_theory.proofs.StoppingHop.{stopping_hop-some, stopping_hop-none}
use Rattle.mc_theory.proofs.hop_laws.stopping_hop_is_found.Goals as goal

pub returns-clause-found : goal.returns-clause-found
returns-clause-found c = stopping_hop-some

pub returns-clause-gets_through : goal.returns-clause-gets_through
returns-clause-gets_through c = stopping_hop-none
