-- By the interface's row.
use Rattle.mc_theory.proofs.Hops.{hop_by-is_hop, hop_by-sent_by_hop, sent_from_first-travel}
use Rattle.mc_theory.proofs.hop_laws.hop_is_found_by_its_interface.Goals as goal

pub returns-clause-hop : goal.returns-clause-hop
returns-clause-hop c = hop_by-is_hop

pub returns-clause-sent_by_hop : goal.returns-clause-sent_by_hop
returns-clause-sent_by_hop c = hop_by-sent_by_hop

pub returns-clause-first_of_hops : goal.returns-clause-first_of_hops
returns-clause-first_of_hops c = λ n cs c h hs i net by. hop_by-sent_by_hop n c h i net (by.0, by.1, by.2)

pub returns-clause-in_travel : goal.returns-clause-in_travel
returns-clause-in_travel c = λ n count t d i net x numbers last is travel d_in by.
    let found = sent_from_first-travel n count t numbers last is x d i net travel d_in by in
    record { hop = found.0; first = found.1; found = found.2; sent = found.3; first_on = found.4 }
