-- The lists and lines that `mcaudit make` has made of the first flows of a domain.
use Rattle.std.proofs.Common.{◌≡◌, ℕ, zero, suc, ◌+◌, ◌<◌, ◌≤◌, ◌⊎◌, inl, inr, All, List, [], ◌∷◌, ◌++◌}
use Rattle.std.proofs.Common.{Global, Vec, length, map, Some, refl, sym, ap, subst, ◌∙◌, arith}
use Rattle.std.proofs.Common.{append_assoc, append-nil, length-append}
use Rattle.std.specs.Prelude.{◌↔◌, IsTrue, slice_get}
use Rattle.std.specs.List.Sorted.{IsStrictlyIncreasing}
use Rattle.mc_topology.specs.declared.flow.Flow.{Flow}
use Rattle.mc_topology.specs.Topology.{TopologyValue}
use Rattle.mc_theory.specs.Certificates.{IsAccepted, IsRight}
use Rattle.mc_forward.specs.Domains.{DomainValue, net_of}
use Rattle.mc_forward.proofs.IndexLemmas.{slice_get-exists}
use Rattle.mc_cert.specs.declared.reached.Reached.{Reached}
use Rattle.mc_cert.specs.Certificate.{Tree, IsEntryOf, IsWritableTree}
use Rattle.mc_replay.specs.declared.travel.Travel.{Travel}
use Rattle.mc_maker.specs.Examined.{FindsFault, IfCertified, IfFound, AreEntriesOfCleanTravel}
use Rattle.mc_maker.specs.Examined.{IsFirstPickTravel, IsTtlOfFault, is_certified}
use Rattle.mc_maker.specs.declared.examination.Examined.{Examined}
use Rattle.mc_maker.specs.declared.examination.Examined.TheVariants.{Certified, Found}
use Rattle.mc_commands.specs.MakeRun.{IsExamined, found_lines, found_lines_of_flows, found_lines_if_any}
use Rattle.mc_commands.specs.MakeRun.{certified_lists}

-- the facts of an examination's result, as one record
pub is_examined-of_examination : {d : DomainValue} {flow : ℕ} {x : Examined}
    → IfCertified (IsAccepted (net_of d flow)) x
    → IfCertified (λ es. IsStrictlyIncreasing (map (λ e. e.lan) es)) x
    → IfCertified (All (IsEntryOf d.topology)) x → IfCertified IsWritableTree x
    → IfCertified (AreEntriesOfCleanTravel d flow) x → IfFound (IsFirstPickTravel d flow) x
    → IfFound (λ ttl travel. FindsFault travel) x → IfFound (λ ttl travel. IsTtlOfFault d flow ttl) x
    → (IsTrue (is_certified x) ↔ IsRight (net_of d flow)) → IsExamined d flow x
is_examined-of_examination accepted ascending listed writable made travel fault ttl right = record {
  accepted = accepted;
  ascending = ascending;
  listed = listed;
  writable = writable;
  made = made;
  travel = travel;
  fault = fault;
  ttl = ttl;
  right = right;
}

-- the lists and the lines of the first flows
pub record AreMadeSoFar (d : DomainValue) (k : ℕ) (lists : List Tree) (lines : List ℕ) : Type 0 where
  pub examined : List Examined
  pub count : length examined ≡ k
  pub each : (flow : ℕ) (x : Examined) → slice_get examined flow ≡ Some x → IsExamined d flow x
  pub lists_are : lists ≡ certified_lists examined
  pub lines_are : lines ≡ found_lines_of_flows d.topology d.topology.flows examined

-- no flow has no lines
pub found_lines_of_flows-none : (t : TopologyValue) (fs : List Flow) → found_lines_of_flows t fs [] ≡ []
found_lines_of_flows-none t [] = refl
found_lines_of_flows-none t (f ∷ fs) = refl

-- of no flow there are no lists and no lines
pub are_made_so_far-none : (d : DomainValue) → AreMadeSoFar d 0 [] []
are_made_so_far-none d = record {
  examined = [];
  count = refl;
  each = λ flow x at. absurd cc;
  lists_are = refl;
  lines_are = sym (found_lines_of_flows-none d.topology d.topology.flows);
}

-- the lists with one flow more
certified_lists-push : (xs : List Examined) (x : Examined)
    → certified_lists (xs ++ x ∷ []) ≡ certified_lists xs ++ certified_lists (x ∷ [])
certified_lists-push [] x = refl
certified_lists-push (Certified entries ∷ xs) x = ap (λ lists. entries.items ∷ lists)
    (certified_lists-push xs x)
certified_lists-push (Found ttl travel ∷ xs) x = certified_lists-push xs x

-- the lines with one flow more
found_lines_of_flows-push : (t : TopologyValue) (fs : List Flow) (xs : List Examined) (f : Flow)
    (x : Examined)
    → slice_get fs (length xs) ≡ Some f
    → found_lines_of_flows t fs (xs ++ x ∷ []) ≡ found_lines_of_flows t fs xs ++ found_lines_if_any t f x
found_lines_of_flows-push t [] xs f x at = absurd cc
found_lines_of_flows-push t (g ∷ fs) [] f x at =
    let same : g ≡ f = cc in
    ap (λ more. found_lines_if_any t g x ++ more) (found_lines_of_flows-none t fs)
    ∙ append-nil (found_lines_if_any t g x)
    ∙ ap (λ (h : Flow). found_lines_if_any t h x) same
found_lines_of_flows-push t (g ∷ fs) (y ∷ xs) f x at =
    ap (λ more. found_lines_if_any t g y ++ more) (found_lines_of_flows-push t fs xs f x at)
    ∙ sym (append_assoc (found_lines_if_any t g y) (found_lines_of_flows t fs xs) (found_lines_if_any t f x))

-- an item of a list that has grown by one is an old item, or the new one
slice_get-push_cases : {A : Type 0} (xs : List A) (x : A) (i : ℕ) (y : A)
    → slice_get (xs ++ x ∷ []) i ≡ Some y
    → (slice_get xs i ≡ Some y) ⊎ ((i ≡ length xs) × (x ≡ y))
slice_get-push_cases [] x zero y at = inr (refl, cc)
slice_get-push_cases [] x (suc i) y at = absurd cc
slice_get-push_cases (z ∷ xs) x zero y at = inl at
slice_get-push_cases (z ∷ xs) x (suc i) y at =
    elim (slice_get-push_cases xs x i y at) [ inl h ↦ inl h | inr h ↦ inr (ap suc h.0, h.1) ]

-- one more flow was examined
are_made_so_far-more : (d : DomainValue) (k : ℕ) (lists : List Tree) (lines : List ℕ) (f : Flow)
    (x : Examined)
    → AreMadeSoFar d k lists lines → slice_get d.topology.flows k ≡ Some f → IsExamined d k x
    → AreMadeSoFar d (k + 1) (lists ++ certified_lists (x ∷ [])) (lines ++ found_lines_if_any d.topology f x)
are_made_so_far-more d k lists lines f x made at is =
    let flow = subst (λ (n : ℕ). slice_get d.topology.flows n ≡ Some f) (sym made.count) at in
    record {
      examined = made.examined ++ x ∷ [];
      count = length-append made.examined (x ∷ []) ∙ (let h = made.count in omega (arith, h));
      each = λ flow y here. elim (slice_get-push_cases made.examined x flow y here) [
        | inl h ↦ made.each flow y h
        | inr h ↦ subst (IsExamined d flow) h.1
            (subst (λ (n : ℕ). IsExamined d n x) (sym (h.0 ∙ made.count)) is)
      ];
      lists_are = ap (λ ls. ls ++ certified_lists (x ∷ [])) made.lists_are
          ∙ sym (certified_lists-push made.examined x);
      lines_are = ap (λ ls. ls ++ found_lines_if_any d.topology f x) made.lines_are
          ∙ sym (found_lines_of_flows-push d.topology d.topology.flows made.examined f x flow);
    }

-- where the next flow is certified, its list is added and the lines stay as they are
pub are_made_so_far-certified : (d : DomainValue) (k : ℕ) (old : List Tree) (lists : List Tree)
    (lines : List ℕ) (x : Examined) (entries : Vec Reached Global) → AreMadeSoFar d k old lines
    → k < length d.topology.flows → IsExamined d k x → x ≡ Certified entries
    → lists ≡ old ++ entries.items ∷ [] → AreMadeSoFar d (k + 1) lists lines
are_made_so_far-certified d k old lists lines x entries made lt is same grown =
    let f = slice_get-exists d.topology.flows k lt in
    let here : AreMadeSoFar d (k + 1) (old ++ entries.items ∷ []) (lines ++ []) =
    are_made_so_far-more d k old lines f.0 (Certified entries) made f.1
    (subst (λ (y : Examined). IsExamined d k y) same is) in
    subst (λ (ls : List Tree). AreMadeSoFar d (k + 1) ls lines) (sym grown)
    (subst (λ (ls : List ℕ). AreMadeSoFar d (k + 1) (old ++ entries.items ∷ []) ls)
    (append-nil lines) here)

-- where the next flow has a finding, its lines are added and the lists stay as they are
pub are_made_so_far-found : (d : DomainValue) (k : ℕ) (lists : List Tree) (old lines : List ℕ) (f : Flow)
    (x : Examined) (ttl : ℕ) (travel : Travel) → AreMadeSoFar d k lists old
    → slice_get d.topology.flows k ≡ Some f → IsExamined d k x → x ≡ Found ttl travel
    → lines ≡ old ++ found_lines d.topology f ttl travel.finding → AreMadeSoFar d (k + 1) lists lines
are_made_so_far-found d k lists old lines f x ttl travel made here is same grown =
    let next : AreMadeSoFar d (k + 1) (lists ++ [])
    (old ++ found_lines d.topology f ttl travel.finding) =
    are_made_so_far-more d k lists old f (Found ttl travel) made here
    (subst (λ (y : Examined). IsExamined d k y) same is) in
    subst (λ (ls : List ℕ). AreMadeSoFar d (k + 1) lists ls) (sym grown)
    (subst (λ (ls : List Tree). AreMadeSoFar d (k + 1) ls
    (old ++ found_lines d.topology f ttl travel.finding)) (append-nil lists) next)

-- there are no more lists than flows
certified_lists-at_most_flows : (xs : List Examined) → length (certified_lists xs) ≤ length xs
certified_lists-at_most_flows [] = omega arith
certified_lists-at_most_flows (Certified entries ∷ xs) = omega (arith, certified_lists-at_most_flows xs)
certified_lists-at_most_flows (Found ttl travel ∷ xs) = omega (arith, certified_lists-at_most_flows xs)

-- each flow adds at most one list, so that the first k flows have at most k
pub made_lists-at_most_flows : (d : DomainValue) (k : ℕ) (lists : List Tree) (lines : List ℕ)
    → AreMadeSoFar d k lists lines → length lists ≤ k
made_lists-at_most_flows d k lists lines made =
    let same : length lists ≡ length (certified_lists made.examined) =
    ap (λ (ls : List Tree). length ls) made.lists_are in
    omega (arith, same, made.count, certified_lists-at_most_flows made.examined)
