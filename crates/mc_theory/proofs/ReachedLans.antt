-- A complete run reaches each LAN whose need the TTL meets.
use Rattle.std.proofs.Common.{◌≡◌, ◌≢◌, ℕ, zero, suc, ◌+◌, ◌<◌, ◌≤◌, max, inl, inr, List, [], map}
use Rattle.std.proofs.Common.{Option, Some, None, refl, ap, sym, ◌∙◌, subst, arith}
use Rattle.std.proofs.lemmas.Bool.{cases_eq}
use Rattle.mc_theory.specs.Lists.{In}
use Rattle.mc_theory.specs.Nets.{Net, Interface, IsNet}
use Rattle.mc_theory.specs.Nets.Row.{Exact}
use Rattle.mc_theory.specs.Flights.{Copy, Waiting, Flight, source_copy, start, run, Pick, InRange}
use Rattle.mc_theory.specs.Flights.{IsLossless}
use Rattle.mc_theory.specs.Certificates.{Entry, Feeds, IsTree, lans, IsDelivered, IsAccepted}
use Rattle.mc_theory.specs.Certificates.{IsRight, IsSafe}
use Rattle.mc_theory.proofs.ListLemmas.{in-map, in-map_cases, equal-from_same_image}
use Rattle.mc_theory.proofs.RunInvariant.{interface_of_waiting, waiting_interfaces, RunInvariant}
use Rattle.mc_theory.proofs.SafeFlights.{IsSafeFlight, safe-start, safe-run, safe-lossless}
use Rattle.mc_theory.proofs.CopyAndStepBounds.{handled_count-run, handled_count-start}
use Rattle.mc_theory.proofs.CopyAndStepBounds.{copies-at_most_entries, hearer_count-at_most_named}

-- no LAN's copy was sent by the incoming interface of its sender
pub sender-not_the_incoming_vif : (n : Net) (t : ℕ) (out : List Interface) (f : Flight) (c : Copy) (r v : ℕ)
    (pairs : List (ℕ × ℕ)) → RunInvariant n t out f → In c f.carried → n.row r ≡ Exact v pairs →
    n.placed r v ≡ Some c.lan → c.sender ≢ Some (r, v)
sender-not_the_incoming_vif n t out f c r v pairs i c_in row on e =
    let s = i.sent c r v c_in e in
    let same : Exact s.incoming s.pairs ≡ Exact v pairs = sym s.row ∙ row in
    let vif : s.incoming ≡ v = cc in
    let lan : Some s.base.lan ≡ Some c.lan = sym s.from ∙ (ap (n.placed r) vif ∙ on) in
    let copy : s.base ≡ c = equal-from_same_image (λ (x : Copy). x.lan) s.base c f.carried i.clean.once
    s.base_in c_in cc in
    omega (arith, s.ttl, ap (λ (x : Copy). x.ttl) copy)

-- entries of one LAN are equal
pub entry-unique_on_lan : (n : Net) (es : List Entry) (d e : Entry) → IsTree n es → In d es → In e es →
    d.lan ≡ e.lan → d ≡ e
entry-unique_on_lan n es d e tree h k q =
    equal-from_same_image (λ (e : Entry). e.lan) d e es tree.one_entry h k q

pub waiting_interfaces-none : (f : Flight) (i : Interface) → f.waiting ≡ [] → In i (waiting_interfaces f) → ⊥
waiting_interfaces-none f i e h = subst (λ (ws : List Waiting). In i (map interface_of_waiting ws)) e h

-- one step down the tree
child_lan_carried : (n : Net) (es : List Entry) (t : ℕ) (f : Flight) (p e : Entry) (r v h : ℕ) →
    IsTree n es → IsSafeFlight n es t [] f → f.waiting ≡ [] → In p es → Feeds n p r v h →
    n.placed r v ≡ Some e.lan → p.rank + h + 1 ≤ t → In p.lan (lans f.carried) →
    In e.lan (lans f.carried)
child_lan_carried n es t f p e r v h tree s done p_in feeds on hot h_p =
    let c = in-map_cases (λ (c : Copy). c.lan) p.lan f.carried h_p in
    let q = s.named c.0 c.1 in
    let same : q.0 ≡ p = entry-unique_on_lan n es q.0 p tree q.1 p_in (q.2.lan ∙ c.2) in
    let rank : q.0.rank ≡ p.rank = ap (λ (e : Entry). e.rank) same in
    let from : n.placed r feeds.incoming ≡ Some c.0.lan = feeds.from ∙ ap Some (sym c.2) in
    let lt : h < c.0.ttl = omega (arith, q.2.ttl, rank) in
    elim (s.inv.all c.0 r feeds.incoming c.1 from
    (sender-not_the_incoming_vif n t [] f c.0 r feeds.incoming feeds.pairs
    s.inv c.1 feeds.row from)) [
      | inl z ↦ absurd z
      | inr (inl w) ↦ absurd (waiting_interfaces-none f (r, feeds.incoming) done w)
      | inr (inr a) ↦ (let d = a.sent feeds.pairs v h feeds.row feeds.pair lt in
          let lan : Some d.0.lan ≡ Some e.lan = sym d.2 ∙ on in
          let l : d.0.lan ≡ e.lan = cc in
          subst (λ x. In x (lans f.carried)) l (in-map (λ (c : Copy). c.lan) d.0 f.carried d.1))
    ]

entry_lan_carried-by_forwarder : (n : Net) (es : List Entry) (t : ℕ) (f : Flight) (e : Entry)
    (o : Option Interface) →
    e.forwarder ≡ o → IsTree n es → IsSafeFlight n es t [] f → f.waiting ≡ [] → In e es → e.need ≤ t
    → ((p : Entry) → In p es → e.rank ≡ p.rank + 1 → p.need ≤ t → In p.lan (lans f.carried)) →
    In e.lan (lans f.carried)
entry_lan_carried-by_forwarder n es t f e None q tree s done e_in need up = elim (cases_eq e.lan n.source) [
  | inl z ↦ subst (λ x. In x (lans f.carried)) (sym z) (in-map (λ (c : Copy). c.lan)
      (source_copy n t) f.carried s.inv.first)
  | inr z ↦ absurd (let y = tree.others_fed e e_in z in cc)
]
entry_lan_carried-by_forwarder n es t f e (Some i) q tree s done e_in need up =
    let fed = tree.fed e i.0 i.1 e_in q in
    let child = tree.tree fed.0 i.0 i.1 fed.1 e.lan fed.2 fed.3 fed.4 in
    let same : child.0 ≡ e = entry-unique_on_lan n es child.0 e tree child.1 e_in child.2 in
    let rank : e.rank ≡ fed.0.rank + 1 = ap (λ (e : Entry). e.rank) (sym same) ∙ child.3.rank in
    let need' : e.need ≡ max fed.0.need (fed.0.rank + fed.1 + 1) =
    ap (λ (e : Entry). e.need) (sym same) ∙ child.3.need in
    child_lan_carried n es t f fed.0 e i.0 i.1 fed.1 tree s done fed.2 fed.3 fed.4
    (omega (arith, need, need')) (up fed.0 fed.2 rank (omega (arith, need, need')))

entry_lan_carried : (n : Net) (es : List Entry) (t : ℕ) (f : Flight) (k : ℕ) (e : Entry) → IsTree n es →
    IsSafeFlight n es t [] f → f.waiting ≡ [] → In e es → e.rank ≡ k → e.need ≤ t →
    In e.lan (lans f.carried)
entry_lan_carried n es t f zero e tree s done e_in rank need =
    entry_lan_carried-by_forwarder n es t f e e.forwarder refl tree s done
    e_in need (λ p p_in q m. absurd (omega arith))
entry_lan_carried n es t f (suc k) e tree s done e_in rank need =
    entry_lan_carried-by_forwarder n es t f e e.forwarder refl tree s
    done e_in need (λ p p_in q m. entry_lan_carried n es t f k p tree s done p_in (omega arith) m)

pub is_delivered-from_safe : (n : Net) (es : List Entry) (t : ℕ) (f : Flight) → IsTree n es →
    IsSafeFlight n es t [] f →
    f.waiting ≡ [] → IsDelivered es t f
is_delivered-from_safe n es t f tree s done l = (
  (λ h. let c = in-map_cases (λ (c : Copy). c.lan) l f.carried h in let e =
      s.named c.0 c.1 in (e.0, e.1, e.2.lan ∙ c.2, e.2.need)),
  (λ h. subst (λ x. In x (lans f.carried)) h.2 (entry_lan_carried n es t f h.0.rank h.0 tree s done h.1 refl
      h.3)),
)

pub is_safe-from_tree : (n : Net) (es : List Entry) (t : ℕ) (ps : List Pick) → IsNet n → IsTree n es → 1 ≤ t →
    t ≤ 255 → InRange n ps (start n t) → IsSafe n es t ps (run n ps (start n t))
is_safe-from_tree n es t ps net tree low high range =
    let s = (safe-run n es t [] ps (start n t) net tree high range
    (safe-start n es t net tree low)).1 in
    let f = run n ps (start n t) in
    let count = handled_count-run n 0 ps (start n t) range (handled_count-start n t) in
    record {
      clean = s.inv.clean;
      named = s.named;
      copies = copies-at_most_entries es t f s.inv.clean.once s.named;
      steps = omega (arith, count, hearer_count-at_most_named n es t f s.inv.clean.once s.named);
    }

pub is_delivered-from_lossless_run : (n : Net) (es : List Entry) (t : ℕ) (ps : List Pick) → IsNet n →
    IsTree n es →
    1 ≤ t → t ≤ 255 → InRange n ps (start n t) → IsLossless ps →
    (run n ps (start n t)).waiting ≡ [] → IsDelivered es t (run n ps (start n t))
is_delivered-from_lossless_run n es t ps net tree low high range whole done =
    is_delivered-from_safe n es t (run n ps (start n t)) tree (safe-lossless n es t ps net tree low high range
    whole) done

pub is_right-from_accepted : (n : Net) (es : List Entry) → IsNet n → 1 ≤ n.ttl → IsAccepted n es → IsRight n
is_right-from_accepted n es net low acc t ps lo hi range =
    let s = (safe-run n es t [] ps (start n t) net acc.is_tree hi range
    (safe-start n es t net acc.is_tree (omega arith))).1 in
    record {
      clean = s.inv.clean;
      served = λ whole done l w. (let e = acc.served l w
          in (is_delivered-from_safe n es t (run n ps (start n t)) acc.is_tree
          (safe-lossless n es t ps net acc.is_tree (omega arith) hi range whole) done l).1
          (e.0, e.1, e.2, omega (arith, e.3)));
    }
