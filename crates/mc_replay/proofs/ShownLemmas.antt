-- What the finding of a travel shows of its flow.
use Rattle.std.proofs.Common.{ℕ, ◌≤◌, length, sym, subst}
use Rattle.mc_theory.specs.Flights.{Flight}
use Rattle.mc_theory.specs.Findings.{Choices, AllWalksEnd}
use Rattle.mc_theory.specs.FindingMeaning.{Shows}
use Rattle.mc_theory.proofs.Travels.{not_right-from_fault_finding}
use Rattle.mc_theory.proofs.FindingMeaning.{shows-travel_finding}
use Rattle.mc_theory.proofs.WalkBack.{walk_ends-travel}
use Rattle.mc_forward.specs.Domains.{DomainValue, IsDomain, net_of}
use Rattle.mc_forward.proofs.DomainLemmas.{is_net-net_of, wants-below_lan_count}
use Rattle.mc_replay.specs.declared.travel.Travel.{Travel}
use Rattle.mc_replay.specs.FindingValues.{finding_value}
use Rattle.mc_replay.specs.Travels.{replay_of, IsRunTo, EndShowsFinding, WalksEndAtSource}
use Rattle.mc_replay.specs.Travels.{ShowsWrongFlow}

-- the flight with which a travel ends shows what its finding means
pub end_shows_finding : (d : DomainValue) (flow ttl : ℕ) (choices : Choices) (t : Travel) (f : Flight)
    → IsDomain d
    → IsRunTo (replay_of d flow ttl choices) t f → EndShowsFinding (replay_of d flow ttl choices) t
end_shows_finding d flow ttl choices t f ok r =
    let n = net_of d flow in
    let at_end = shows-travel_finding n (length d.topology.lans) ttl choices.numbers choices.last r.picks
    (finding_value t.finding) (λ l w. wants-below_lan_count d flow l ok w) r.travel in
    (f, r, subst (λ (g : Flight). Shows n g (finding_value t.finding)) (sym r.ends) at_end)

-- there the walk back from each copy ends at the source's copy
pub walks_end_at_source : (d : DomainValue) (flow ttl : ℕ) (choices : Choices) (t : Travel) (f : Flight)
    → IsRunTo (replay_of d flow ttl choices) t f → WalksEndAtSource (replay_of d flow ttl choices) t
walks_end_at_source d flow ttl choices t f r =
    let n = net_of d flow in
    let at_end = walk_ends-travel n (length d.topology.lans) ttl choices.numbers choices.last r.picks
    (finding_value t.finding) r.travel in
    (f, r, subst (λ (g : Flight). AllWalksEnd n g.carried) (sym r.ends) at_end)

-- a finding other than `Clean`, of a packet with at least the flow's TTL, shows that the flow isn't right
pub shows_wrong_flow : (d : DomainValue) (flow ttl : ℕ) (choices : Choices) (t : Travel) (f : Flight)
    → IsDomain d → ttl ≤ 255
    → IsRunTo (replay_of d flow ttl choices) t f → ShowsWrongFlow (replay_of d flow ttl choices) t
shows_wrong_flow d flow ttl choices t f ok high r low other =
    not_right-from_fault_finding (net_of d flow) (length d.topology.lans) ttl choices.numbers
    choices.last r.picks
    (finding_value t.finding) (is_net-net_of d flow ok) (λ l w. wants-below_lan_count d flow l ok w)
    low high r.travel other
