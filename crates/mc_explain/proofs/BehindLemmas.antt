-- What is behind a stray: the need of a second copy, and the parts of the answer.
use Rattle.std.proofs.Common.{◌≡◌, ℕ, ◌≤◌, ◌==◌, Bool, true, false, cond, List, [], ◌∷◌, length, Option}
use Rattle.std.proofs.Common.{Some, refl, ap, sym, subst, ◌∙◌, arith}
use Rattle.std.specs.Prelude.{option_map}
use Rattle.std.proofs.lemmas.Bool.{false≢true, ne_eqb}
use Rattle.mc_theory.specs.Nets.{Net, WantsBelow}
use Rattle.mc_theory.specs.Flights.{Copy, Flight, start}
use Rattle.mc_theory.specs.Findings.{first_double, walk_visits}
use Rattle.mc_theory.specs.Findings.Finding.{Duplicate, Loop}
use Rattle.mc_theory.specs.ShownFrom.{IsShownFrom, RestsOnTwoCopies}
use Rattle.mc_forward.specs.Domains.{DomainValue, IsDomain, net_of}
use Rattle.mc_forward.specs.FlightsInDomain.{FlowOfDomain, IsFlowOfDomain, net_in}
use Rattle.mc_forward.proofs.DomainLemmas.{is_net-net_of, wants-below_lan_count}
use Rattle.mc_replay.specs.PastStrays.{EndsPastStrays, IsFlightPastStrays, finding_of_double}
use Rattle.mc_replay.specs.PastStrays.{second_copy_finding}
use Rattle.mc_replay.specs.declared.past_strays.FlightPastStrays.{FlightPastStrays}
use Rattle.mc_replay.proofs.PastStraysLemmas.{came_by_few_hops-past_strays, has_need-past_strays}
use Rattle.mc_explain.specs.Behind.{missed_unless_open}
use Rattle.mc_explain.specs.ShownNeed.{need_of_two_copies}
use Rattle.mc_explain.proofs.ShownNeedLemmas.{HaveFewHops, need_of_two_copies-is_need}

-- ---- the need of a second copy

-- whether it is a loop or a duplicate, the number rests on the LAN's two copies
rests_on_two-of_either : (n : Net) (cs : List Copy) (l k : ℕ) (b : Bool)
    → IsShownFrom n cs (cond b (Loop l) (Duplicate l)) k → RestsOnTwoCopies n cs l k
rests_on_two-of_either n cs l k true r = r
rests_on_two-of_either n cs l k false r = r

-- what a second copy shows is shown from its need on, which is at most 255
pub is_shown_from-of_second : (d : DomainValue) (flow : ℕ) (g : Flight) (c : Copy) → IsDomain d
    → EndsPastStrays (net_of d flow) (start (net_of d flow) 255) g → first_double [] g.carried ≡ Some c
    → IsShownFrom (net_of d flow) g.carried (finding_of_double (net_of d flow) g.carried c)
    (need_of_two_copies (net_of d flow) g.carried c.lan)
    × (need_of_two_copies (net_of d flow) g.carried c.lan ≤ 255)
is_shown_from-of_second d flow g c ok past double =
    let n = net_of d flow in
    let net = is_net-net_of d flow ok in
    let count = length d.topology.lans in
    let wants : WantsBelow n count = λ l w. wants-below_lan_count d flow l ok w in
    let x = finding_of_double n g.carried c in
    let found : second_copy_finding n g.carried ≡ Some x =
    ap (option_map (finding_of_double n g.carried)) double in
    let has = has_need-past_strays n count 255 g x net wants (omega arith) past found in
    let rests = rests_on_two-of_either n g.carried c.lan has.0
    (walk_visits n g.carried c.lan (length g.carried) c.sender) has.1 in
    let few : HaveFewHops n g.carried = λ b hs b_in by.
    (let lt = came_by_few_hops-past_strays n count 255 g b hs net past b_in by in omega (arith, lt)) in
    let same : has.0 ≡ need_of_two_copies n g.carried c.lan =
    need_of_two_copies-is_need n g.carried c.lan has.0 net few rests in
    (subst (IsShownFrom n g.carried x) same has.1, subst (λ (k : ℕ). k ≤ 255) same has.2)

-- ---- which LANs are missed

-- where no router is excluded and each row is followed, all LANs without a copy are called missed
pub missed_unless_open-known : (whole : Bool) (open_routers lans : List ℕ) → whole ≡ true
    → (length open_routers == 0) ≡ true → lans ≡ missed_unless_open whole open_routers lans
missed_unless_open-known true [] lans all none = refl
missed_unless_open-known true (r ∷ rs) lans all none =
    absurd (false≢true (sym (ne_eqb (length (r ∷ rs)) 0 (λ e. omega (arith, e))) ∙ none))
missed_unless_open-known false open_routers lans all none = absurd (false≢true all)

-- ---- of a domain's flow, by a view of it

-- the need of the second copy is at most 255
pub need_of_second-of_view : (d : DomainValue) (flow : ℕ) (view : FlowOfDomain) (past : FlightPastStrays)
    (copies : List Copy) (double : Option Copy) (c : Copy) → view ≡ record { domain = d; flow = flow }
    → IsFlowOfDomain view → IsFlightPastStrays d flow 255 past → copies ≡ past.flight.flight.carried
    → double ≡ first_double [] copies → double ≡ Some c
    → need_of_two_copies (net_in view) past.flight.flight.carried c.lan ≤ 255
need_of_second-of_view d flow view past copies double c same rules is are on some =
    let g = past.flight.flight in
    let ok : IsDomain d = subst (λ (v : FlowOfDomain). IsDomain v.domain) same rules.domain in
    subst (λ (v : FlowOfDomain). need_of_two_copies (net_in v) g.carried c.lan ≤ 255) (sym same)
    (is_shown_from-of_second d flow g c ok is.run (ap (first_double []) (sym are) ∙ (sym on ∙ some))).1
