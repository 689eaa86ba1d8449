-- The certificate entries of the copies of a clean travel at TTL 255.
use Rattle.std.proofs.Common.{◌≡◌, ℕ, ◌<◌, ◌≤◌, inl, inr, All, true, false, List, [], ◌∷◌, ◌++◌, map}
use Rattle.std.proofs.Common.{length, Option, Some, None, refl, ap, sym, subst, ◌∙◌, arith}
use Rattle.std.specs.Prelude.{IfSome}
use Rattle.std.proofs.lemmas.List.{length-map}
use Rattle.mc_theory.specs.Lists.{In, Distinct}
use Rattle.mc_theory.specs.Nets.{Net, IsNet, Interface}
use Rattle.mc_theory.specs.Flights.{Copy, Flight, source_copy, start, step, run}
use Rattle.mc_theory.specs.Certificates.{Entry, IsTree, IsSafe, IsReordering, lans}
use Rattle.mc_theory.specs.Reasons.{entry_at}
use Rattle.mc_theory.specs.Findings.{IsTravel, from_lan, handles}
use Rattle.mc_theory.specs.Findings.Finding.{Clean}
use Rattle.mc_theory.specs.CertificateOfCopies.{entry_after, entries_after, entries_of, need_after, need_over}
use Rattle.mc_theory.specs.CertificateOfCopies.{row_pairs, threshold_of}
use Rattle.mc_theory.proofs.ListLemmas.{in-map, in-map_cases, in-push_cases, equal-from_same_image}
use Rattle.mc_theory.proofs.ReachedLans.{is_safe-from_tree}
use Rattle.mc_theory.proofs.FindingMeaning.{shows-travel_finding}
use Rattle.mc_theory.proofs.Travels.{in_range-travel, is_tree-from_clean_travel}
use Rattle.mc_forward.specs.Domains.{DomainValue, IsDomain, net_of}
use Rattle.mc_forward.proofs.BelowLemmas.{length-of_distinct_below}
use Rattle.mc_forward.specs.FlightsInDomain.{AreCopiesInDomain, WaitAtRouters}
use Rattle.mc_forward.proofs.DomainLemmas.{is_net-net_of, source-below_lan_count, wants-below_lan_count}
use Rattle.mc_cert.specs.Certificate.{IsWritableEntry, IsWritableTree, IsEntryOf}
use Rattle.mc_replay.specs.declared.travel.Travel.{Travel}
use Rattle.mc_replay.specs.Travels.{first_choices, replay_of, IsRunTo, IsTravelTo}
use Rattle.mc_maker.specs.CleanRuns.{IsCleanRun}
use Rattle.mc_maker.specs.Examined.{FindsNothing}
use Rattle.mc_maker.specs.Examined.{AreCleanCopies}
use Rattle.mc_forward.proofs.CopiesInDomainLemmas.{ArePlacedBelow, all-from_each_member}
use Rattle.mc_forward.proofs.CopiesInDomainLemmas.{are_placed_below-domain, copies_in_domain-none}
use Rattle.mc_forward.proofs.CopiesInDomainLemmas.{copies_in_domain-put, copies_in_domain-step}
use Rattle.mc_forward.proofs.WaitAtRouterLemmas.{wait_at_routers-none, wait_at_routers-put}
use Rattle.mc_forward.proofs.WaitAtRouterLemmas.{wait_at_routers-step}
use Rattle.mc_maker.proofs.FilledLemmas.{each_in-all}

-- ---- of each entry

-- what holds of each copy's entry, whatever the entries before it, holds of all entries
entries_after-each : (n : Net) (P : Entry → Type 0) (es : List Entry) (cs : List Copy)
    → ((ds : List Entry) (c : Copy) → In c cs → P (entry_after n ds c))
    → ((e : Entry) → In e es → P e) → (e : Entry) → In e (entries_after n es cs) → P e
entries_after-each n P es [] new old e h = old e h
entries_after-each n P es (c ∷ cs) new old e h =
    entries_after-each n P (es ++ entry_after n es c ∷ []) cs (λ ds b k. new ds b (inr k))
    (λ x k. elim (in-push_cases x es (entry_after n es c) k)
    [ inl j ↦ old x j | inr q ↦ subst P q (new es c (inl refl)) ]) e h

-- what holds of the entry that is made of each copy holds of all entries
pub entries_of-each : (n : Net) (P : Entry → Type 0) (cs : List Copy)
    → ((ds : List Entry) (c : Copy) → In c cs → P (entry_after n ds c))
    → (e : Entry) → In e (entries_of n cs) → P e
entries_of-each n P cs new = entries_after-each n P [] cs new (λ e h. absurd h)

-- a need is 1 or more,
need_over-at_least_one : (threshold : ℕ) (o : Option Entry) → 1 ≤ need_over threshold o
need_over-at_least_one threshold None = omega arith
need_over-at_least_one threshold (Some p) = omega arith

-- whatever sent the copy
need_after-at_least_one : (n : Net) (ds : List Entry) (x : Option Interface) → 1 ≤ need_after n ds x
need_after-at_least_one n ds None = omega arith
need_after-at_least_one n ds (Some i) = need_over-at_least_one (threshold_of i.1 (row_pairs (n.row i.0)))
    (entry_at ds (from_lan n (Some i)))

-- the need of each copy's entry is at least 1
pub entries_of-needs_at_least_one : (n : Net) (cs : List Copy) (e : Entry) → In e (entries_of n cs)
    → 1 ≤ e.need
entries_of-needs_at_least_one n cs = entries_of-each n (λ e. 1 ≤ e.need) cs
    (λ ds c h. need_after-at_least_one n ds c.sender)

-- an entry's LAN carried a copy
in_lans-entry_lan : (n : Net) (cs : List Copy) (e : Entry) → In e (entries_of n cs) → In e.lan (lans cs)
in_lans-entry_lan n cs = entries_of-each n (λ e. In e.lan (lans cs)) cs
    (λ ds c h. in-map (λ (x : Copy). x.lan) c cs h)

-- ---- of the copies of a clean travel

-- a packet with TTL 255 made each of these copies, so none of them needs more
entries_of-needs_at_most_255 : (n : Net) (count : ℕ) (picks : List ℕ) → IsNet n
    → IsTravel n count [] false picks (start n 255) Clean
    → (e : Entry) → In e (entries_of n (run n (handles picks) (start n 255)).carried) → e.need ≤ 255
entries_of-needs_at_most_255 n count picks net travel e h =
    let f = run n (handles picks) (start n 255) in
    let es = entries_of n f.carried in
    let tree : IsTree n es = is_tree-from_clean_travel n count [] false picks net travel in
    let s : IsSafe n es 255 (handles picks) f =
    is_safe-from_tree n es 255 (handles picks) net tree (omega arith) (omega arith)
    (in_range-travel n count [] false picks (start n 255) Clean travel) in
    let c = in-map_cases (λ (x : Copy). x.lan) e.lan f.carried (in_lans-entry_lan n f.carried e h) in
    let named = s.named c.0 c.1 in
    let same : e ≡ named.0 = equal-from_same_image (λ (x : Entry). x.lan) e named.0 es tree.one_entry h
    named.1 (sym c.2 ∙ sym named.2.lan) in
    subst (λ (x : Entry). x.need ≤ 255) (sym same) named.2.need

-- copies in the domain stay so from step to step
copies_in_domain-run : (n : Net) (lans : ℕ) → ArePlacedBelow n lans → IsNet n → (picks : List ℕ) (f : Flight)
    → WaitAtRouters n.routers f → AreCopiesInDomain lans n.routers f
    → AreCopiesInDomain lans n.routers (run n (handles picks) f)
copies_in_domain-run n lans below net [] f at all = all
copies_in_domain-run n lans below net (i ∷ picks) f at all =
    copies_in_domain-run n lans below net picks (step n i f) (wait_at_routers-step n net i f at)
    (copies_in_domain-step n lans n.routers below i f at all)

-- from the source's copy on
copies_in_domain-from_start : (d : DomainValue) (flow ttl : ℕ) (picks : List ℕ) → IsDomain d
    → flow < length d.topology.flows
    → AreCopiesInDomain (length d.topology.lans) (length d.topology.routers)
    (run (net_of d flow) (handles picks) (start (net_of d flow) ttl))
copies_in_domain-from_start d flow ttl picks ok listed =
    let n = net_of d flow in
    let net = is_net-net_of d flow ok in
    let none : Flight = record { carried = []; waiting = []; strays = [] } in
    copies_in_domain-run n (length d.topology.lans) (are_placed_below-domain d flow ok) net picks (start n ttl)
    (wait_at_routers-put n net (source_copy n ttl) none (wait_at_routers-none n.routers none refl))
    (copies_in_domain-put n (length d.topology.lans) n.routers (source_copy n ttl) none
    (record { lan = source-below_lan_count d flow ok listed; sender = tt })
    (copies_in_domain-none (length d.topology.lans) n.routers none refl))

-- a travel that finds nothing is a clean run
pub is_clean_run-of_travel : (d : DomainValue) (flow : ℕ) (t : Travel) (g : Flight) (cs : List Copy)
    → IsRunTo (replay_of d flow 255 first_choices) t g → FindsNothing t → cs ≡ g.carried
    → IsCleanRun (net_of d flow) (length d.topology.lans) 255 cs
is_clean_run-of_travel d flow t g cs is none carried = record {
  events = t.events.items;
  last = g;
  run = subst (IsTravelTo (net_of d flow) (length d.topology.lans) first_choices (start (net_of d flow) 255)
      t.events.items g) none is;
  carried = sym carried;
}

-- the copies of a run at TTL 255 that finds nothing are clean
pub are_clean_copies-of_run : (d : DomainValue) (flow : ℕ) (cs : List Copy) → IsDomain d
    → flow < length d.topology.flows → IsCleanRun (net_of d flow) (length d.topology.lans) 255 cs
    → AreCleanCopies d flow cs
are_clean_copies-of_run d flow cs ok listed is =
    let n = net_of d flow in
    let net = is_net-net_of d flow ok in
    let travel : IsTravel n (length d.topology.lans) [] false is.run.picks (start n 255) Clean =
    is.run.travel in
    let all : cs ≡ (run n (handles is.run.picks) (start n 255)).carried = sym is.carried
    ∙ ap (λ (f : Flight). f.carried) is.run.ends in
    let listed_copies = copies_in_domain-from_start d flow 255 is.run.picks ok listed in
    record {
      tree = subst (λ xs. IsTree n (entries_of n xs)) (sym all)
          (is_tree-from_clean_travel n (length d.topology.lans) [] false is.run.picks net travel);
      needs = subst (λ xs. All (λ (e : Entry). e.need ≤ 255) (entries_of n xs)) (sym all)
          (all-from_each_member (λ (e : Entry). e.need ≤ 255) (entries_of n
          (run n (handles is.run.picks) (start n 255)).carried)
          (entries_of-needs_at_most_255 n (length d.topology.lans) is.run.picks net travel));
      reached = subst (λ xs. (l : ℕ) → n.wants l ≡ true → In l (lans xs)) (sym all)
          (shows-travel_finding n (length d.topology.lans) 255 [] false is.run.picks Clean
          (λ l w. wants-below_lan_count d flow l ok w) travel).2;
      lans = subst (All (λ (c : Copy). c.lan < length d.topology.lans)) (sym all)
          (all-from_each_member (λ (c : Copy). c.lan < length d.topology.lans) _
          (λ c h. (listed_copies c h).lan));
      senders = subst (All (λ (c : Copy). IfSome c.sender (λ i. i.0 < length d.topology.routers))) (sym all)
          (all-from_each_member (λ (c : Copy). IfSome c.sender (λ i. i.0 < length d.topology.routers)) _
          (λ c h. (listed_copies c h).sender));
    }

-- ---- what a certificate can hold

-- the entries of clean copies are of the topology's LANs and routers
is_entry_of-entries_of : (d : DomainValue) (flow : ℕ) (cs : List Copy) → AreCleanCopies d flow cs
    → (e : Entry)
    → In e (entries_of (net_of d flow) cs) → IsEntryOf d.topology e
is_entry_of-entries_of d flow cs clean = entries_of-each (net_of d flow) (IsEntryOf d.topology) cs
    (λ ds c h. record {
      lan = each_in-all (λ (x : Copy). x.lan < length d.topology.lans) cs clean.lans c h;
      router = each_in-all (λ (x : Copy). IfSome x.sender (λ i. i.0 < length d.topology.routers)) cs
          clean.senders c h;
    })

-- their entries, in any order, are of the topology's LANs and routers
pub all_of_topology-reordered : (d : DomainValue) (flow : ℕ) (cs : List Copy) (es : List Entry)
    → AreCleanCopies d flow cs → IsReordering (entries_of (net_of d flow) cs) es
    → All (IsEntryOf d.topology) es
all_of_topology-reordered d flow cs es clean made = all-from_each_member (IsEntryOf d.topology) es
    (λ e h. is_entry_of-entries_of d flow cs clean e (made.from e h))

-- the numbers of their LANs are below the number of LANs
pub lans_below_count-reordered : (d : DomainValue) (flow : ℕ) (cs : List Copy) (es : List Entry)
    → AreCleanCopies d flow cs → IsReordering (entries_of (net_of d flow) cs) es
    → All (λ (e : Entry). e.lan < length d.topology.lans) es
lans_below_count-reordered d flow cs es clean made =
    all-from_each_member (λ (e : Entry). e.lan < length d.topology.lans) es
    (λ e h. (is_entry_of-entries_of d flow cs clean e (made.from e h)).lan)

-- a forwarder sends by a vif that is placed on a LAN, and such vifs are below 32
forwarder_vif-at_most_31 : (n : Net) (es : List Entry) (e : Entry) (o : Option Interface) → IsNet n
    → IsTree n es
    → In e es → e.forwarder ≡ o → IfSome o (λ i. i.1 ≤ 31)
forwarder_vif-at_most_31 n es e None net tree h q = tt
forwarder_vif-at_most_31 n es e (Some i) net tree h q =
    let fed = tree.fed e i.0 i.1 h q in
    let lt : i.1 < 32 = net.vif i.0 i.1 e.lan fed.4 in
    omega (arith, lt)

-- entries of different LANs are no more than the topology has
length-listed_entries : (d : DomainValue) (es : List Entry) → Distinct (map (λ (e : Entry). e.lan) es)
    → All (IsEntryOf d.topology) es → length es ≤ length d.topology.lans
length-listed_entries d es once all =
    let few = length-of_distinct_below (map (λ (e : Entry). e.lan) es) (length d.topology.lans) once (λ l h.
    let e = in-map_cases (λ (e : Entry). e.lan) l es h in
    subst (λ (k : ℕ). k < length d.topology.lans) e.2
    (each_in-all (IsEntryOf d.topology) es all e.0 e.1).lan) in
    omega (arith, few, length-map es (λ (e : Entry). e.lan))

-- and a text can have them as a tree
pub is_writable_tree-reordered : (d : DomainValue) (flow : ℕ) (cs : List Copy) (es : List Entry) → IsDomain d
    → AreCleanCopies d flow cs → IsReordering (entries_of (net_of d flow) cs) es → IsWritableTree es
is_writable_tree-reordered d flow cs es ok clean made =
    let n = net_of d flow in
    let few = length-listed_entries d es made.one_entry (all_of_topology-reordered d flow cs es clean made) in
    let most : length d.topology.lans ≤ 1024 = ok.topology.few_lans in
    record {
      few = omega (arith, few, most);
      each = all-from_each_member IsWritableEntry es (λ e h. record {
        need = entries_of-needs_at_least_one n cs e (made.from e h);
        vif = forwarder_vif-at_most_31 n (entries_of n cs) e e.forwarder (is_net-net_of d flow ok) clean.tree
            (made.from e h) refl;
      });
    }
