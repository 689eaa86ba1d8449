-- What the result of examining a flow means, by its travels.
use Rattle.std.proofs.Common.{◌≡◌, ◌≢◌, ℕ, ◌≤◌, ◌<◌, All, Bool, true, false, List, [], ◌∷◌, map, length}
use Rattle.std.proofs.Common.{Option, Some, None, refl, ap, sym, subst, ◌∙◌}
use Rattle.std.specs.Prelude.{IfSome, option_map, slice_get, unwrap_or}
use Rattle.std.specs.List.Sorted.{IsStrictlyIncreasing}
use Rattle.mc_theory.specs.Lists.{In}
use Rattle.mc_theory.specs.Nets.{Net}
use Rattle.mc_theory.specs.Flights.{Copy, Flight, run, start, step}
use Rattle.mc_theory.specs.Certificates.{Entry, IsAccepted, IsServed, IsReordering, IsRight}
use Rattle.mc_theory.specs.Findings.{Finding, IsTravel, handles, numbers_left}
use Rattle.mc_theory.specs.Findings.Finding.{Clean, Duplicate, Loop, Stray, Missed}
use Rattle.mc_theory.specs.CertificateOfCopies.{entries_of}
use Rattle.mc_topology.specs.declared.flow.Flow.{Flow}
use Rattle.mc_topology.specs.Topology.{TopologyValue}
use Rattle.mc_theory.proofs.ReorderedEntries.{is_tree-reordering, is_served-reordering}
use Rattle.mc_theory.proofs.ReachedLans.{is_right-from_accepted}
use Rattle.mc_theory.proofs.Travels.{is_accepted-from_clean_travels, is_clean-iff_served}
use Rattle.mc_theory.proofs.Travels.{not_right-from_fault_finding}
use Rattle.mc_cert.specs.Certificate.{IsEntryOf, IsWritableTree}
use Rattle.mc_forward.specs.Domains.{DomainValue, IsDomain, net_of, ttl_of}
use Rattle.mc_forward.proofs.DomainLemmas.{is_net-net_of, wants-below_lan_count, ttl-at_least_1}
use Rattle.mc_forward.proofs.DomainLemmas.{ttl-at_most_255}
use Rattle.mc_forward.specs.FlightsInDomain.{FlowOfDomain, IsFlowOfDomain, FlightInDomain, net_in}
use Rattle.mc_replay.specs.declared.travel.Travel.{Travel}
use Rattle.mc_replay.specs.declared.finding.Finding.{Finding as Found}
use Rattle.mc_replay.specs.FindingValues.{finding_value}
use Rattle.mc_maker.specs.Examined.{FindsFault, FindsNothing, IsFirstPickTravel, IsTtlOfFault}
use Rattle.mc_maker.specs.EntriesByLan.{AreEntriesByLan, held_entries, serves}
use Rattle.mc_maker.specs.Examined.{AreCleanCopies, AreEntriesOfCleanTravel}
use Rattle.mc_maker.specs.CleanRuns.{AreEntriesOfCleanRun}
use Rattle.mc_maker.proofs.CleanLemmas.{all_of_topology-reordered, are_clean_copies-of_run}
use Rattle.mc_maker.proofs.CleanLemmas.{is_writable_tree-reordered, lans_below_count-reordered}
use Rattle.mc_maker.proofs.ListedLemmas.{ascending-held_entries, is_reordering-entries_by_lan}
use Rattle.mc_maker.proofs.ServedLemmas.{is_served-each, is_served-not}

-- ---- a picker's travel is unique

-- two travels by the same choices find the same, pick by pick
is_travel-same_finding : (n : Net) (count : ℕ) (numbers : List ℕ) (last : Bool) (is js : List ℕ) (f : Flight)
    (x y : Finding)
    → IsTravel n count numbers last is f x → IsTravel n count numbers last js f y → x ≡ y
is_travel-same_finding n count numbers last [] [] f x y a b = let same : Some x ≡ Some y = sym a ∙ b in cc
is_travel-same_finding n count numbers last [] (j ∷ js) f x y a b = let no : Some x ≡ None = sym a
    ∙ b.0 in absurd cc
is_travel-same_finding n count numbers last (i ∷ is) [] f x y a b = let no : Some y ≡ None = sym b
    ∙ a.0 in absurd cc
is_travel-same_finding n count numbers last (i ∷ is) (j ∷ js) f x y a b =
    let pick : j ≡ i = b.1 ∙ sym a.1 in
    is_travel-same_finding n count (numbers_left numbers) last is js (step n i f) x y a.2
    (subst (λ (k : ℕ). IsTravel n count (numbers_left numbers) last js (step n k f) y) pick b.2)

-- so the travels that always take the first waiting copy find one thing
finding_value-unique : (d : DomainValue) (flow ttl : ℕ) (t u : Travel) → IsFirstPickTravel d flow ttl t
    → IsFirstPickTravel d flow ttl u → finding_value t.finding ≡ finding_value u.finding
finding_value-unique d flow ttl t u a b =
    is_travel-same_finding (net_of d flow) (length d.topology.lans) []
    false a.1.picks b.1.picks (start (net_of d flow) ttl) (finding_value t.finding)
    (finding_value u.finding)
    a.1.travel b.1.travel

-- a finding of the code that isn't clean has a value that isn't clean
pub finding_value-not_clean : (x : Found) → x ≢ Found.Clean → finding_value x ≢ Clean
finding_value-not_clean Found.Clean other e = other refl
finding_value-not_clean (Found.Duplicate l) other e = absurd cc
finding_value-not_clean (Found.Loop l) other e = absurd cc
finding_value-not_clean (Found.Stray r v) other e = absurd cc
finding_value-not_clean (Found.Missed l) other e = absurd cc

-- ---- a fault is found

-- at TTL 255
pub is_ttl_of_fault-255 : (d : DomainValue) (flow : ℕ) (t : Travel) → IsFirstPickTravel d flow 255 t
    → FindsFault t → IsTtlOfFault d flow 255
is_ttl_of_fault-255 d flow t is fault = record {
  greatest = λ u a b. refl;
  least = λ u a none. absurd (fault (finding_value-unique d flow 255 t u is a ∙ none));
}

-- or at the flow's TTL
pub is_ttl_of_fault-flow_ttl : (d : DomainValue) (flow : ℕ) (t : Travel) → IsFirstPickTravel d flow 255 t
    → FindsNothing t → IsTtlOfFault d flow (ttl_of d flow)
is_ttl_of_fault-flow_ttl d flow t is none = record {
  greatest = λ u a fault. absurd (fault (finding_value-unique d flow 255 u t a is ∙ none));
  least = λ u a b. refl;
}

-- so the flow isn't right
pub not_right-by_fault : (d : DomainValue) (flow ttl : ℕ) (t : Travel) → IsDomain d → ttl_of d flow ≤ ttl
    → ttl ≤ 255 → IsFirstPickTravel d flow ttl t → FindsFault t → ¬ IsRight (net_of d flow)
not_right-by_fault d flow ttl t ok low high is fault =
    not_right-from_fault_finding (net_of d flow) (length d.topology.lans) ttl []
    false is.1.picks (finding_value t.finding) (is_net-net_of d flow ok)
    (λ l w. wants-below_lan_count d flow l ok w) low high
    is.1.travel fault

-- where the entries leave a LAN unserved, the travel at the flow's TTL finds a fault
pub finds_fault-not_served : (d : DomainValue) (flow : ℕ) (cs : List Copy) (t : Travel) → IsDomain d
    → flow < length d.topology.flows → AreCleanCopies d flow cs
    → ¬ IsServed (net_of d flow) (entries_of (net_of d flow) cs)
    → IsFirstPickTravel d flow (ttl_of d flow) t → FindsFault t
finds_fault-not_served d flow cs t ok lt clean low is none =
    low ((is_clean-iff_served (net_of d flow) (length d.topology.lans) (entries_of (net_of d flow) cs) []
    false is.1.picks (finding_value t.finding) (is_net-net_of d flow ok)
    (λ l w. wants-below_lan_count d flow l ok w) (ttl-at_least_1 d flow ok lt)
    (ttl-at_most_255 d flow ok lt) clean.tree is.1.travel).0 none)

-- ---- the flow is certified

-- the entries of clean copies, in any order, certify the flow if they serve each LAN that wants it
pub is_accepted-reordered : (d : DomainValue) (flow : ℕ) (cs : List Copy) (es : List Entry)
    → AreCleanCopies d flow cs → IsReordering (entries_of (net_of d flow) cs) es
    → IsServed (net_of d flow) (entries_of (net_of d flow) cs) → IsAccepted (net_of d flow) es
is_accepted-reordered d flow cs es clean made served = record {
  is_tree = is_tree-reordering (net_of d flow) (entries_of (net_of d flow) cs) es made clean.tree;
  served = is_served-reordering (net_of d flow) (entries_of (net_of d flow) cs) es made served;
}

-- a flow that entries certify is right
pub is_right-accepted : (d : DomainValue) (flow : ℕ) (es : List Entry) → IsDomain d
    → flow < length d.topology.flows → IsAccepted (net_of d flow) es → IsRight (net_of d flow)
is_right-accepted d flow es ok lt acc = is_right-from_accepted (net_of d flow) es (is_net-net_of d flow ok)
    (ttl-at_least_1 d flow ok lt) acc

-- ---- the travels of a right flow

-- what can't be anything else is `Clean`
clean-not_not : (x : Finding) → (x ≢ Clean → ⊥) → x ≡ Clean
clean-not_not Clean h = refl
clean-not_not (Duplicate l) h = absurd (h (λ e. cc))
clean-not_not (Loop l) h = absurd (h (λ e. cc))
clean-not_not (Stray r v) h = absurd (h (λ e. cc))
clean-not_not (Missed l) h = absurd (h (λ e. cc))

-- the travel of a right flow's packet, with at least the flow's TTL, finds nothing
pub finds_nothing-right_flow : (d : DomainValue) (flow ttl : ℕ) (t : Travel) → IsDomain d
    → ttl_of d flow ≤ ttl
    → ttl ≤ 255 → IsRight (net_of d flow) → IsFirstPickTravel d flow ttl t → FindsNothing t
finds_nothing-right_flow d flow ttl t ok low high is_right is =
    clean-not_not (finding_value t.finding) (λ fault. not_right-by_fault d flow ttl t ok low high is fault
    is_right)

-- where both travels find nothing, the flow is right
pub is_right-both_travels_clean : (d : DomainValue) (flow : ℕ) (first second : Travel) → IsDomain d
    → flow < length d.topology.flows → IsFirstPickTravel d flow 255 first
    → IsFirstPickTravel d flow (ttl_of d flow) second → FindsNothing first → FindsNothing second
    → IsRight (net_of d flow)
is_right-both_travels_clean d flow first second ok lt a b none none' =
    let n = net_of d flow in
    let count = length d.topology.lans in
    let one : IsTravel n count [] false a.1.picks (start n 255) Clean =
    subst (λ (x : Finding). IsTravel n count [] false a.1.picks (start n 255) x) none
    a.1.travel in
    let two : IsTravel n count [] false b.1.picks (start n n.ttl) Clean =
    subst (λ (x : Finding). IsTravel n count [] false b.1.picks (start n n.ttl) x) none'
    b.1.travel in
    is_right-accepted d flow (entries_of n (run n (handles a.1.picks) (start n 255)).carried) ok lt
    (is_accepted-from_clean_travels n count [] false a.1.picks [] false b.1.picks (is_net-net_of d flow ok)
    (λ l w. wants-below_lan_count d flow l ok w) (ttl-at_least_1 d flow ok lt)
    (ttl-at_most_255 d flow ok lt) one two)

-- the flow's TTL
pub ttl_of-listed_flow : (d : DomainValue) (flow : ℕ) (t : TopologyValue) (f : Flow) → t ≡ d.topology
    → slice_get t.flows flow ≡ Some f → ttl_of d flow ≡ f.ttl
ttl_of-listed_flow d flow t f same at =
    ap (λ (x : TopologyValue). unwrap_or (option_map (λ (f : Flow). f.ttl) (slice_get x.flows flow))
    0) (sym same) ∙ ap (λ (o : Option Flow). unwrap_or (option_map (λ (f : Flow). f.ttl) o) 0)
    at

-- ---- by the view of the flight's flow

-- the flow of a flight is the domain's flow with that number
pub flow_view-same_domain_and_flow : (d : DomainValue) (flow : ℕ) (j : FlightInDomain)
    (f : FlowOfDomain) → j.domain ≡ d
    → j.flow ≡ flow → f ≡ record { domain = j.domain; flow = j.flow }
    → f ≡ record { domain = d; flow = flow }
flow_view-same_domain_and_flow d flow j f same number is =
    let by_domain : DomainValue → FlowOfDomain = λ x. record { domain = x; flow = j.flow } in
    let by_flow : ℕ → FlowOfDomain = λ x. record { domain = d; flow = x } in
    is ∙ (ap by_domain same ∙ ap by_flow number)

-- the held entries are those of the copies, in another order
pub is_reordering-held_entries : (f : FlowOfDomain) (cs : List Copy) (by_lan : List (Option Entry))
    (es : List Entry) → AreCleanCopies f.domain f.flow cs → AreEntriesByLan by_lan (entries_of (net_in f) cs)
    → es ≡ held_entries by_lan → IsReordering (entries_of (net_in f) cs) es
is_reordering-held_entries f cs by_lan es clean is held =
    subst (IsReordering (entries_of (net_in f) cs)) (sym held)
    (is_reordering-entries_by_lan by_lan (entries_of (net_in f) cs) is clean.tree.one_entry)

-- and ascend by the numbers of their LANs
pub ascending-entries_by_lan : (f : FlowOfDomain) (cs : List Copy) (by_lan : List (Option Entry))
    (es : List Entry)
    → AreEntriesByLan by_lan (entries_of (net_in f) cs) → es ≡ held_entries by_lan
    → IsStrictlyIncreasing (map (λ (e : Entry). e.lan) es)
ascending-entries_by_lan f cs by_lan es is held =
    subst (λ xs. IsStrictlyIncreasing (map (λ (e : Entry). e.lan) xs)) (sym held)
    (ascending-held_entries by_lan (entries_of (net_in f) cs) is)

-- where each wanting LAN is served, the entries are accepted
pub is_accepted-held_entries : (f : FlowOfDomain) (cs : List Copy) (by_lan : List (Option Entry))
    (es : List Entry) → AreCleanCopies f.domain f.flow cs
    → AreEntriesByLan by_lan (entries_of (net_in f) cs) → es ≡ held_entries by_lan
    → All (λ (e : Entry). serves (net_in f) e ≡ true) es → IsAccepted (net_in f) es
is_accepted-held_entries f cs by_lan es clean is held all =
    let made = is_reordering-held_entries f cs by_lan es clean is held in
    is_accepted-reordered f.domain f.flow cs es clean made
    (is_served-each (net_in f) cs es made clean.reached all)

-- and where one isn't, the travel at the flow's TTL finds a fault
pub finds_fault-held_entries : (f : FlowOfDomain) (cs : List Copy) (by_lan : List (Option Entry))
    (es : List Entry)
    → IsFlowOfDomain f → AreCleanCopies f.domain f.flow cs → AreEntriesByLan by_lan (entries_of (net_in f) cs)
    → es ≡ held_entries by_lan → (e : Entry) × In e es × (serves (net_in f) e ≡ false)
    → (t : Travel) → IsFirstPickTravel f.domain f.flow (net_in f).ttl t → FindsFault t
finds_fault-held_entries f cs by_lan es rules clean is held low t travel =
    finds_fault-not_served f.domain f.flow cs t rules.domain rules.flow clean
    (is_served-not (net_in f) cs es (is_reordering-held_entries f cs by_lan es clean is held) low.0
    clean.tree.one_entry low.1 low.2) travel

-- ---- the entries of a clean run

-- its copies are clean
are_clean_copies-of_entries : (d : DomainValue) (flow : ℕ) (es : List Entry) → IsDomain d
    → flow < length d.topology.flows
    → (is : AreEntriesOfCleanRun (net_of d flow) (length d.topology.lans) es)
    → AreCleanCopies d flow is.copies
are_clean_copies-of_entries d flow es ok listed is = are_clean_copies-of_run d flow is.copies ok listed is.run

-- the entries are those of its copies, in another order
pub is_reordering-of_clean_run : (d : DomainValue) (flow : ℕ) (es : List Entry) → IsDomain d
    → flow < length d.topology.flows
    → (is : AreEntriesOfCleanRun (net_of d flow) (length d.topology.lans) es)
    → IsReordering (entries_of (net_of d flow) is.copies) es
is_reordering-of_clean_run d flow es ok listed is =
    is_reordering-held_entries (record { domain = d; flow = flow }) is.copies is.by_lan es
    (are_clean_copies-of_entries d flow es ok listed is) is.places is.held

-- they keep the rules of a certificate: where they also serve each LAN that wants the flow, they are accepted
pub entries-of_clean_run : (d : DomainValue) (flow : ℕ) (es : List Entry) → IsDomain d
    → flow < length d.topology.flows → AreEntriesOfCleanRun (net_of d flow) (length d.topology.lans) es
    → (All (λ (e : Entry). serves (net_of d flow) e ≡ true) es → IsAccepted (net_of d flow) es)
    × IsStrictlyIncreasing (map (λ (e : Entry). e.lan) es) × All (IsEntryOf d.topology) es
    × IsWritableTree es × AreEntriesOfCleanTravel d flow es
entries-of_clean_run d flow es ok listed is =
    let f : FlowOfDomain = record { domain = d; flow = flow } in
    let clean = are_clean_copies-of_entries d flow es ok listed is in
    let made = is_reordering-of_clean_run d flow es ok listed is in (
      is_accepted-held_entries f is.copies is.by_lan es clean is.places is.held,
      ascending-entries_by_lan f is.copies is.by_lan es is.places is.held,
      all_of_topology-reordered d flow is.copies es clean made,
      is_writable_tree-reordered d flow is.copies es ok clean made,
      record { copies = is.copies; run = is.run; entries = made },
    )

-- what was found of the flow's view
pub found-of_flow : {V : Type 0} (items : V → List Entry) (d : DomainValue) (flow : ℕ) (f : FlowOfDomain)
    (found : Option V) (x : V) → f ≡ record { domain = d; flow = flow }
    → IfSome found (λ v. AreEntriesOfCleanRun (net_in f) (length f.domain.topology.lans) (items v))
    → found ≡ Some x → AreEntriesOfCleanRun (net_of d flow) (length d.topology.lans) (items x)
found-of_flow {V} items d flow f found x same all is =
    subst (λ (o : Option V). IfSome o (λ v. AreEntriesOfCleanRun (net_of d flow) (length d.topology.lans)
    (items v))) is (rw same at all)

-- and their LANs are the topology's
pub lans_below_count-of_clean_run : (d : DomainValue) (flow : ℕ) (es : List Entry) → IsDomain d
    → flow < length d.topology.flows → AreEntriesOfCleanRun (net_of d flow) (length d.topology.lans) es
    → All (λ (e : Entry). e.lan < length d.topology.lans) es
lans_below_count-of_clean_run d flow es ok listed is =
    lans_below_count-reordered d flow is.copies es (are_clean_copies-of_entries d flow es ok listed is)
    (is_reordering-of_clean_run d flow es ok listed is)
