-- What the text of `mcaudit make` says of the bundle that was read.
use Rattle.std.proofs.Common.{◌≡◌, ◌≢◌, ℕ, zero, suc, ◌<◌, All, Bool, true, false, List, [], ◌∷◌}
use Rattle.std.proofs.Common.{◌++◌, length, Some, refl, sym, ap, subst, ◌∙◌, arith}
use Rattle.std.specs.Prelude.{◌↔◌, ◌==◌, IsTrue, codes, slice_get}
use Rattle.std.proofs.lemmas.Bool.{and_parts, eq-eqb, eqb-true, false≢true}
use Rattle.std.proofs.lemmas.Option.{slice_get_within}
use Rattle.mc_topology.specs.declared.flow.Flow.{Flow}
use Rattle.mc_topology.specs.Topology.{TopologyValue}
use Rattle.mc_theory.specs.Certificates.{IsRight}
use Rattle.mc_forward.specs.Domains.{DomainValue, net_of}
use Rattle.mc_forward.proofs.IndexLemmas.{slice_get-exists}
use Rattle.mc_cert.specs.Certificate.{Tree, BelongsTo, IsEntryOf, IsWritableTree}
use Rattle.mc_cert.specs.CertificateText.{certificate_json}
use Rattle.mc_maker.specs.Examined.{IfCertified, is_certified}
use Rattle.mc_maker.specs.declared.examination.Examined.{Examined}
use Rattle.mc_maker.specs.declared.examination.Examined.TheVariants.{Certified, Found}
use Rattle.mc_commands.specs.MakeRun.{AreExamined, AreMadeListsAndLines, AreRight, IsMadeText, IsMakeOutput}
use Rattle.mc_commands.specs.MakeRun.{SaysAllRight, are_certified, found_lines_of_flows, certified_lists}
use Rattle.mc_commands.proofs.MadeSoFarLemmas.{found_lines_of_flows-none}

-- ---- of all flows

-- if every flow is certified, there is a list for each
certified_lists-one_per_flow : (xs : List Examined) → are_certified xs ≡ true
    → length (certified_lists xs) ≡ length xs
certified_lists-one_per_flow [] all = refl
certified_lists-one_per_flow (Certified entries ∷ xs) all = ap suc (certified_lists-one_per_flow xs all)
certified_lists-one_per_flow (Found ttl travel ∷ xs) all = absurd cc

-- what holds of the first and of the others holds of all
all-cons : {A : Type 0} (P : A → Type 0) (x : A) (xs : List A) → P x → All P xs → All P (x ∷ xs)
all-cons P x xs here rest zero d within = here
all-cons P x xs here rest (suc k) d within = rest k d (omega (arith, within))

-- what holds of the entries of each certified flow holds of each list
pub certified_lists-each : (P : Tree → Type 0) (xs : List Examined)
    → ((k : ℕ) (x : Examined) → slice_get xs k ≡ Some x → IfCertified P x) → All P (certified_lists xs)
certified_lists-each P [] each = λ k d within. absurd (omega (arith, within))
certified_lists-each P (Certified entries ∷ xs) each =
    all-cons P entries.items (certified_lists xs) (each 0 (Certified entries) refl)
    (certified_lists-each P xs (λ k x at. each (suc k) x at))
certified_lists-each P (Found ttl travel ∷ xs) each = certified_lists-each P xs (λ k x at. each (suc k) x at)

-- if all flows are certified, there is a list for each and a certificate can hold it, so that the lists
-- belong to the topology
pub certified_lists-belong : (d : DomainValue) (xs : List Examined) → AreExamined d xs
    → are_certified xs ≡ true → BelongsTo d.topology (certified_lists xs)
certified_lists-belong d xs are all = record {
  count = certified_lists-one_per_flow xs all ∙ are.count;
  entries = certified_lists-each (All (IsEntryOf d.topology)) xs (λ k x at. (are.each k x at).listed);
}

-- a certificate can hold each list of a certified flow
pub certified_lists-writable : (d : DomainValue) (xs : List Examined) → AreExamined d xs
    → All IsWritableTree (certified_lists xs)
certified_lists-writable d xs are = certified_lists-each IsWritableTree xs
    (λ k x at. (are.each k x at).writable)

-- no line is written exactly if every flow is certified
pub found_lines-none_if_certified : (t : TopologyValue) (fs : List Flow) (xs : List Examined)
    → length xs ≡ length fs
    → length (found_lines_of_flows t fs xs) ≡ 0 → are_certified xs ≡ true
found_lines-none_if_certified t fs [] count none = refl
found_lines-none_if_certified t [] (x ∷ xs) count none = absurd (omega (arith, count))
found_lines-none_if_certified t (f ∷ fs) (Certified entries ∷ xs) count none =
    found_lines-none_if_certified t fs xs (omega (arith, count)) none
found_lines-none_if_certified t (f ∷ fs) (Found ttl travel ∷ xs) count none = absurd cc

-- a flow that isn't certified has lines, and these aren't empty
pub found_lines-some_if_found : (t : TopologyValue) (fs : List Flow) (xs : List Examined)
    → length xs ≡ length fs
    → length (found_lines_of_flows t fs xs) ≢ 0 → are_certified xs ≡ false
found_lines-some_if_found t fs [] count some = absurd (some
    (ap (λ (ls : List ℕ). length ls) (found_lines_of_flows-none t fs)))
found_lines-some_if_found t [] (x ∷ xs) count some = absurd (omega (arith, count))
found_lines-some_if_found t (f ∷ fs) (Certified entries ∷ xs) count some =
    found_lines-some_if_found t fs xs (omega (arith, count)) some
found_lines-some_if_found t (f ∷ fs) (Found ttl travel ∷ xs) count some = refl

-- ---- right flows

-- if all are certified, each is
is_certified-at_flow : (xs : List Examined) (k : ℕ) (x : Examined) → are_certified xs ≡ true
    → slice_get xs k ≡ Some x → is_certified x ≡ true
is_certified-at_flow [] k x all at = absurd cc
is_certified-at_flow (y ∷ xs) zero x all at =
    let same : y ≡ x = cc in
    subst (λ (z : Examined). is_certified z ≡ true) same (and_parts _ _ all).0
is_certified-at_flow (y ∷ xs) (suc k) x all at = is_certified-at_flow xs k x (and_parts _ _ all).1 at

-- if each flow is certified, all are
are_certified-each : (xs : List Examined)
    → ((k : ℕ) (x : Examined) → slice_get xs k ≡ Some x → is_certified x ≡ true)
    → are_certified xs ≡ true
are_certified-each [] each = refl
are_certified-each (x ∷ xs) each =
    rw (each 0 x refl) (are_certified-each xs (λ k y at. each (suc k) y at))

-- every flow is certified exactly if every flow is right
pub are_certified-are_right : (d : DomainValue) (xs : List Examined) → AreExamined d xs
    → IsTrue (are_certified xs)
    ↔ ((flow : ℕ) → flow < length d.topology.flows → IsRight (net_of d flow))
are_certified-are_right d xs are = (
  (λ all flow lt.
      let size = are.count in
      let x = slice_get-exists xs flow (omega (arith, lt, size)) in
      (are.each flow x.0 x.1).right.0 (is_certified-at_flow xs flow x.0 all x.1)),
  (λ right. are_certified-each xs (λ k x here.
      let lt = slice_get_within xs k x here in
      let size = are.count in
      (are.each k x here).right.1 (right k (omega (arith, lt, size))))),
)

-- ---- the text

-- whether there are lines
pub found_lines-not_empty : (size : ℕ) (empty : Bool) → empty ≡ (size == 0) → empty ≡ false → size ≢ 0
found_lines-not_empty size empty is there = λ none. false≢true (sym there ∙ is ∙ eq-eqb size 0 none)

pub found_lines-empty : (size : ℕ) (empty : Bool) → empty ≡ (size == 0) → empty ≡ true → size ≡ 0
found_lines-empty size empty is gone = eqb-true size 0 (sym is ∙ gone)

-- every flow is certified if there are no lines
pub are_certified-no_lines : (d : DomainValue) (lists : List Tree) (lines : List ℕ)
    (made : AreMadeListsAndLines d lists lines)
    → length lines ≡ 0 → are_certified made.examined ≡ true
are_certified-no_lines d lists lines made none =
    found_lines-none_if_certified d.topology d.topology.flows made.examined made.are_examined.count
    (ap (λ (ls : List ℕ). length ls) (sym made.lines_are) ∙ none)

-- if there are lines, some flow isn't certified
are_certified-some_lines : (d : DomainValue) (lists : List Tree) (lines : List ℕ)
    (made : AreMadeListsAndLines d lists lines)
    → length lines ≢ 0 → are_certified made.examined ≡ false
are_certified-some_lines d lists lines made some =
    found_lines-some_if_found d.topology d.topology.flows made.examined made.are_examined.count
    (λ none. some (ap (λ (ls : List ℕ). length ls) made.lines_are ∙ none))

-- without lines the lists belong to the topology
pub belongs_to-made_lists : (d : DomainValue) (t : TopologyValue) (lists : List Tree) (lines : List ℕ)
    → AreMadeListsAndLines d lists lines → t ≡ d.topology → length lines ≡ 0 → BelongsTo t lists
belongs_to-made_lists d t lists lines made same none =
    let belong = certified_lists-belong d made.examined made.are_examined
    (are_certified-no_lines d lists lines made none) in
    subst (λ (x : TopologyValue). BelongsTo x lists) (sym same)
    (subst (λ (ls : List Tree). BelongsTo d.topology ls) (sym made.lists_are) belong)

-- the lines of a domain
pub is_make_output-lines : (d : DomainValue) (lists : List Tree) (lines : List ℕ)
    → AreMadeListsAndLines d lists lines
    → length lines ≢ 0 → IsMakeOutput d false lines
is_make_output-lines d lists lines made some = record {
  examined = made.examined;
  are_examined = made.are_examined;
  answer = sym (are_certified-some_lines d lists lines made some);
  spelled = made.lines_are;
}

-- the certificate of a domain
pub is_make_output-certificate : (d : DomainValue) (t : TopologyValue) (lists : List Tree)
    (lines written : List ℕ) → AreMadeListsAndLines d lists lines → t ≡ d.topology → length lines ≡ 0
    → written ≡ certificate_json t lists ++ codes "\n" → IsMakeOutput d true written
is_make_output-certificate d t lists lines written made same none spelled = record {
  examined = made.examined;
  are_examined = made.are_examined;
  answer = sym (are_certified-no_lines d lists lines made none);
  spelled = spelled ∙ ap (λ x. certificate_json x lists ++ codes "\n") same
      ∙ ap (λ ls. certificate_json d.topology ls ++ codes "\n") made.lists_are;
}

-- the answer of `make` is whether all flows are right, since a flow is certified exactly if it is right
pub says_all_right-make_output : (text : List ℕ) (certified : Bool) (written : List ℕ)
    → IsMadeText text certified written → SaysAllRight text certified
says_all_right-make_output text certified written m = record {
  domain = m.domain;
  means = m.means;
  holds = subst (AreRight m.domain) (sym m.holds.answer)
      (are_certified-are_right m.domain m.holds.examined m.holds.are_examined);
}
