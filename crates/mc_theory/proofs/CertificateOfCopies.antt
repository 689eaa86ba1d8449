-- The entries that a clean travel at TTL 255 makes, and that they certify.
use Rattle.std.proofs.Common.{◌≡◌, ℕ, zero, suc, ◌+◌, ◌-◌, ◌≤◌, max, List, [], ◌∷◌, ◌++◌, map}
use Rattle.std.proofs.Common.{Option, Some, None, true, refl, ap, sym, ◌∙◌, ap₂, subst, arith}
use Rattle.mc_theory.specs.Lists.{In, Distinct}
use Rattle.mc_theory.specs.Nets.{Net, IsNet, Row, Interface}
use Rattle.mc_theory.specs.Flights.{Copy, start, Pick, IsLossless, run, InRange}
use Rattle.mc_theory.specs.Certificates.{Entry, IsTree, IsAccepted, lans, IsClean}
use Rattle.mc_theory.specs.Reasons.{entry_on, entry_at}
use Rattle.mc_theory.specs.Findings.{from_lan, taken_from}
use Rattle.mc_theory.specs.CopyOrigins.{IsSentOn, IsSentOnFromSome, AreInSendingOrder}
use Rattle.mc_theory.specs.CertificateOfCopies.{threshold_of, row_pairs, need_over, need_after, entry_after}
use Rattle.mc_theory.specs.CertificateOfCopies.{entries_after, entries_of}
use Rattle.mc_theory.proofs.ListLemmas.{in-append_left, in-map, distinct-append_left}
use Rattle.mc_theory.proofs.RunInvariant.{RunInvariant, map-append'}
use Rattle.mc_theory.proofs.StepInvariant.{run_invariant-start, run_invariant-run}
use Rattle.mc_theory.proofs.CopyOrigins.{is_in_order-of_run, all_heard-start, in_sending_order-start}
use Rattle.mc_theory.proofs.SafeFlights.{safe-lossless}
use Rattle.mc_theory.proofs.ReachedLans.{is_delivered-from_safe}
use Rattle.mc_theory.proofs.FirstReason.{entry_on-of_member}
use Rattle.mc_theory.proofs.CertificateOfRun.{need_of_copy, entry_of_copy, need_of_copy-child}
use Rattle.mc_theory.proofs.CertificateOfRun.{threshold_of-of_member, lans-of_entries, is_tree-ranked_entries}

-- ---- the entries in the order of the copies are those by rank

need_of_copy-source : (n : Net) (all : List Copy) (k : ℕ) → need_of_copy n all k None ≡ 1
need_of_copy-source n all zero = refl
need_of_copy-source n all (suc k) = refl

-- the entry that an earlier copy has
entry_at-upstream_copy : (n : Net) (all done : List Copy) (b : Copy) → Distinct (lans done) → In b done →
    entry_on (map (entry_of_copy n all) done) b.lan ≡ Some (entry_of_copy n all b)
entry_at-upstream_copy n all done b apart b_in =
    entry_on-of_member (map (entry_of_copy n all) done) (entry_of_copy n all b)
    (subst Distinct (sym (lans-of_entries n all done)) apart) (in-map (entry_of_copy n all) b done b_in)

need_of_copy-sent_on : (n : Net) (all done : List Copy) (b c : Copy) (i : Interface) → IsNet n →
    Distinct (lans all) → Distinct (lans done) → In b all → In b done → b.ttl ≤ 255 →
    IsSentOn n b c i → need_after n (map (entry_of_copy n all) done) (Some i) ≡ need_of_copy n all
    (255 - c.ttl) (Some i)
need_of_copy-sent_on n all done b c i net apart apart' b_in b_done low s =
    let vifs = net.vifs i.0 s.incoming s.pairs s.row in
    let entry : entry_at (map (entry_of_copy n all) done) (from_lan n (Some i)) ≡ Some
    (entry_of_copy n all b) =
    ap (λ (x : Row). entry_at (map (entry_of_copy n all) done) (taken_from n i.0 x)) s.row ∙
    (ap (entry_at (map (entry_of_copy n all) done)) s.from ∙
    entry_at-upstream_copy n all done b apart' b_done)
    in
    let threshold : threshold_of i.1 (row_pairs (n.row i.0)) ≡ s.threshold =
    ap (λ (x : Row). threshold_of i.1 (row_pairs x)) s.row ∙
    threshold_of-of_member i.1 s.threshold s.pairs vifs s.pair in
    let rank : 255 - c.ttl ≡ suc (255 - b.ttl) = omega (arith, low, s.ttl) in
    let child : need_of_copy n all (suc (255 - b.ttl)) (Some i) ≡ max
    (need_of_copy n all (255 - b.ttl) b.sender) (255 - b.ttl + s.threshold + 1) =
    need_of_copy-child n all (255 - b.ttl) i.0 i.1 s.threshold s.incoming s.pairs b apart vifs b_in s.row
    s.from s.pair in
    ap₂ need_over threshold entry ∙ (sym child ∙ ap (λ k. need_of_copy n all k (Some i)) (sym rank))

need_of_copy-any_copy : (n : Net) (all done : List Copy) (c : Copy) (x : Option Interface) → c.sender ≡ x →
    IsNet n → Distinct (lans all) → Distinct (lans done) → ((b : Copy) → In b done → In b all) →
    ((b : Copy) → In b all → b.ttl ≤ 255) → IsSentOnFromSome n done c →
    need_after n (map (entry_of_copy n all) done) x ≡ need_of_copy n all (255 - c.ttl) x
need_of_copy-any_copy n all done c None e net apart apart' within low comes =
    sym (need_of_copy-source n all (255 - c.ttl))
need_of_copy-any_copy n all done c (Some i) e net apart apart' within low comes =
    let b = comes i e in
    need_of_copy-sent_on n all done b.0 c i net apart apart' (within b.0 b.1) b.1 (low b.0 (within b.0 b.1))
    b.2

entry_after-entry_of_copy : (n : Net) (all done : List Copy) (c : Copy) → IsNet n → Distinct (lans all) →
    Distinct (lans done) → ((b : Copy) → In b done → In b all) →
    ((b : Copy) → In b all → b.ttl ≤ 255) → IsSentOnFromSome n done c →
    entry_after n (map (entry_of_copy n all) done) c ≡ entry_of_copy n all c
entry_after-entry_of_copy n all done c net apart apart' within low comes =
    let with_need : ℕ → Entry = λ k. record {
      lan = c.lan;
      rank = 255 - c.ttl;
      need = k;
      forwarder =
          c.sender;
    } in
    ap with_need (need_of_copy-any_copy n all done c c.sender refl net apart apart' within low comes)

entries_after-ranked_entries : (n : Net) (all done cs : List Copy) → done ++ cs ≡ all → IsNet n →
    Distinct (lans all) → ((b : Copy) → In b all → b.ttl ≤ 255) → AreInSendingOrder n done cs →
    entries_after n (map (entry_of_copy n all) done) cs ≡ map (entry_of_copy n all) all
entries_after-ranked_entries n all done [] e net apart low order =
    ap (map (entry_of_copy n all)) (by done ∙ e)
  where
    by : {A : Type 0} (xs : List A) → xs ≡ xs ++ []
    by [] = refl
    by (x ∷ xs) = ap (λ ys. x ∷ ys) (by xs)
entries_after-ranked_entries n all done (c ∷ cs) e net apart low order =
    let within : (b : Copy) → In b done → In b all = λ b h. subst (λ xs. In b xs) e
    (in-append_left b done (c ∷ cs) h) in
    let apart' : Distinct (lans done) = distinct-append_left (lans done) (lans (c ∷ cs))
    (subst Distinct (map-append' (λ (c : Copy). c.lan) done (c ∷ cs))
    (subst (λ xs. Distinct (lans xs)) (sym e) apart)) in
    let one = entry_after-entry_of_copy n all done c net apart apart' within low order.0 in
    let grown : map (entry_of_copy n all) done ++ entry_after n (map (entry_of_copy n all) done) c ∷ [] ≡ map
    (entry_of_copy n all) (done ++ c ∷ []) = ap (λ (x : Entry). map (entry_of_copy n all) done ++ x ∷ [])
    one ∙ sym (map-append' (entry_of_copy n all) done (c ∷ [])) in
    ap (λ es. entries_after n es cs) grown ∙ entries_after-ranked_entries n all (done ++ c ∷ []) cs
    (by done c cs ∙ e) net apart low order.1
  where
    by : {A : Type 0} (xs : List A) (y : A) (ys : List A) → (xs ++ y ∷ []) ++ ys ≡ xs ++ y ∷ ys
    by [] y ys = refl
    by (x ∷ xs) y ys = ap (λ zs. x ∷ zs) (by xs y ys)

-- ---- what they certify

-- a complete clean run at 255 without loss makes a tree
pub is_tree-from_clean_run : (n : Net) (ps : List Pick) → IsNet n → InRange n ps (start n 255) →
    IsLossless ps → (run n ps (start n 255)).waiting ≡ [] → IsClean (run n ps (start n 255)) →
    IsTree n (entries_of n (run n ps (start n 255)).carried)
is_tree-from_clean_run n ps net range whole done clean =
    let f = run n ps (start n 255) in
    let r = run_invariant-run n 255 [] ps (start n 255) net range (run_invariant-start n 255 net) clean in
    let inv : RunInvariant n 255 [] f =
    subst (λ (x : List Interface). RunInvariant n 255 x f) (r.2 whole) r.1 in
    let same = entries_after-ranked_entries n f.carried [] f.carried refl net inv.clean.once inv.low
    (is_in_order-of_run n ps (start n 255) (all_heard-start n 255) (in_sending_order-start n 255)) in
    subst (IsTree n) (sym same) (is_tree-ranked_entries n f net inv done)

-- a run at 255 and one at the flow's TTL, both complete, clean and without loss, the second
-- reaching each wanting LAN
pub is_accepted-from_two_runs : (n : Net) (ps qs : List Pick) → IsNet n → 1 ≤ n.ttl → n.ttl ≤ 255
    → InRange n ps (start n 255) → IsLossless ps → (run n ps (start n 255)).waiting ≡ [] →
    IsClean (run n ps (start n 255))
    → InRange n qs (start n n.ttl) → IsLossless qs → (run n qs (start n n.ttl)).waiting ≡ [] →
    ((l : ℕ) → n.wants l ≡ true → In l (lans (run n qs (start n n.ttl)).carried))
    → IsAccepted n (entries_of n (run n ps (start n 255)).carried)
is_accepted-from_two_runs n ps qs net low high range whole done clean range' whole' done' served =
    let f = run n ps (start n 255) in
    let es = entries_of n f.carried in
    let tree : IsTree n es = is_tree-from_clean_run n ps net range whole done clean in
    record {
      is_tree = tree;
      served = λ l w. (is_delivered-from_safe n es n.ttl (run n qs (start n n.ttl)) tree
          (safe-lossless n es n.ttl qs net tree low high range' whole') done' l).0 (served l w);
    }
