-- What an audit prints of each flow: the examinations behind its lines, and where these lines stand in the
-- text.
use Rattle.std.proofs.Common.{◌≡◌, ℕ, zero, suc, Bool, true, false, List, [], ◌∷◌, ◌++◌, length, Some}
use Rattle.std.proofs.Common.{refl, sym, ap, subst, ◌∙◌, arith}
use Rattle.std.specs.Prelude.{◌&&◌, flat_map, map, slice_get, take}
use Rattle.std.proofs.lemmas.Bool.{false≢true}
use Rattle.std.proofs.lemmas.List.{length-map}
use Rattle.mc_theory.specs.Headline.{HeadlineHolds}
use Rattle.mc_forward.specs.Domains.{net_of}
use Rattle.mc_forward.specs.ListedTables.{facts}
use Rattle.mc_forward.proofs.IndexLemmas.{slice_get-exists}
use Rattle.mc_cert.specs.Certificate.{Tree, tree_at}
use Rattle.mc_maker.specs.Examined.{IfCertified, is_certified}
use Rattle.mc_maker.specs.declared.examination.Examined.{Examined}
use Rattle.mc_maker.specs.declared.examination.Examined.TheVariants.{Certified, Found}
use Rattle.mc_run.specs.FlowCounts.{FlowAnswer, are_right}
use Rattle.mc_run.specs.AuditBegin.{begin_lines}
use Rattle.mc_run.specs.AuditEnd.{end_lines, verdict_line}
use Rattle.mc_run.specs.AuditedFiles.{AuditedValue, excluded, is_whole}
use Rattle.mc_run.specs.AuditRun.{AreFlowAnswers, IsAudited, IsFlowAnswer, is_yes, trees_shown}
use Rattle.mc_run.specs.AuditClaims.{HasLinesOfEachFlow}
use Rattle.mc_run.specs.AuditYes.{KeepsHeadlineByLists}
use Rattle.mc_commands.specs.MakeRun.{AreExamined, IsExamined, are_certified, certified_lists}
use Rattle.mc_cli.specs.declared.audit_options.AuditOptions.{AuditOptions}

-- ---- the answers of flows

-- the examinations of all flows
abbrev pub examinations_of : List FlowAnswer → List Examined
examinations_of answers = map (λ a. a.examined) answers

-- an item of a mapped list comes from an item of the list
slice_get-map : {A B : Type 0} (f : A → B) (xs : List A) (k : ℕ) (y : B) → slice_get (map f xs) k ≡ Some y
    → (x : A) × (slice_get xs k ≡ Some x) × (f x ≡ y)
slice_get-map f [] k y at = absurd cc
slice_get-map f (x ∷ xs) zero y at = (x, refl, cc)
slice_get-map f (x ∷ xs) (suc k) y at = slice_get-map f xs k y at

-- all answers are right exactly if all flows are certified
pub are_right-examinations : (answers : List FlowAnswer) → are_certified (examinations_of answers)
    ≡ are_right answers
are_right-examinations [] = refl
are_right-examinations (a ∷ answers) = ap (λ b. is_certified a.examined && b) (are_right-examinations answers)

-- the answers' examinations are those of the flows
pub are_examined-answers : (v : AuditedValue) (o : AuditOptions) (answers : List FlowAnswer)
    → AreFlowAnswers v o answers
    → AreExamined v.domain (examinations_of answers)
are_examined-answers v o answers are = record {
  count = length-map answers (λ (a : FlowAnswer). a.examined) ∙ are.count;
  each = λ flow x at.
      let here = slice_get-map (λ (a : FlowAnswer). a.examined) answers flow x at in
      subst (λ (y : Examined). IsExamined v.domain flow y) here.2
      (are.each flow here.0 here.1).checked.examined;
}

-- the lists of certified flows, by the flows
slice_get-listed_flow : (xs : List Examined) (k : ℕ) (x : Examined) → are_certified xs ≡ true
    → slice_get xs k ≡ Some x → (P : Tree → Type 0) → IfCertified P x → P (tree_at (certified_lists xs) k)
slice_get-listed_flow [] k x all at P holds = absurd cc
slice_get-listed_flow (Found ttl travel ∷ xs) k x all at P holds = absurd cc
slice_get-listed_flow (Certified entries ∷ xs) zero x all at P holds =
    let same : x ≡ Certified entries = cc in
    subst (λ (y : Examined). IfCertified P y) same holds
slice_get-listed_flow (Certified entries ∷ xs) (suc k) x all at P holds = slice_get-listed_flow xs k
    x all at P holds

-- if two things hold, the first one does
pub and-true_left : (a b : Bool) → (a && b) ≡ true → a ≡ true
and-true_left true b both = refl
and-true_left false b both = absurd (false≢true both)

-- if two things hold, the second one does
and-true_right : (a b : Bool) → (a && b) ≡ true → b ≡ true
and-true_right true b both = both
and-true_right false b both = absurd (false≢true both)

-- if all flows are certified, the headline holds for each
pub keeps_headline-all_certified : (v : AuditedValue) (o : AuditOptions) (all : Bool) (written : List ℕ)
    → IsAudited v o all written → all ≡ true → KeepsHeadlineByLists v.domain
keeps_headline-all_certified v o all written a is =
    let xs = examinations_of a.answers in
    let are = a.are_answers in
    let size = are.count in
    record {
      examined = xs;
      are_examined = are_examined-answers v o a.answers are;
      keeps = λ flow lt.
          let given = slice_get-exists a.answers flow (omega (arith, lt, size)) in
          let x = slice_get-exists xs flow
          (omega (arith, lt, length-map a.answers (λ (b : FlowAnswer). b.examined) ∙ size)) in
          let there = slice_get-map (λ (b : FlowAnswer). b.examined) a.answers flow x.0 x.1 in
          slice_get-listed_flow xs flow x.0 (are_right-examinations a.answers
          ∙ and-true_right (is_whole v) (are_right a.answers) (sym a.answer ∙ is)) x.1
          (λ es. HeadlineHolds (net_of v.domain flow) (length es))
          (subst (λ (y : Examined). IfCertified
          (λ es. HeadlineHolds (net_of v.domain flow) (length es)) y) there.2
          (are.each flow there.0 there.1).checked.headline);
    }

-- ---- the lines of each flow

-- the lines of the answers, one list after another
flat_map-lines : (answers : List FlowAnswer)
    → flat_map (λ a. a.lines) answers ≡ flat_map (λ ls. ls) (map (λ a. a.lines) answers)
flat_map-lines [] = refl
flat_map-lines (a ∷ answers) = ap (λ more. a.lines ++ more) (flat_map-lines answers)

-- the lines before the flows, those of the flows, those after them, and the verdict
audit_text-split_at_lines : (v : AuditedValue) (o : AuditOptions) (all : Bool) (written : List ℕ)
    (a : IsAudited v o all written)
    → written ≡ begin_lines o (facts v.domain) (excluded v) v.ignored
    ++ (flat_map (λ ls. ls) (map (λ b. b.lines) a.answers)
    ++ (end_lines o v.domain.topology v.summary v.asked (excluded v) (is_whole v) all a.answers
    ++ verdict_line o.json all))
audit_text-split_at_lines v o all written a =
    let begin = begin_lines o (facts v.domain) (excluded v) v.ignored in
    let end = λ (b : Bool). end_lines o v.domain.topology v.summary v.asked (excluded v)
    (is_whole v) b a.answers ++ verdict_line o.json b in
    a.spelled
    ∙ ap (λ ls. begin ++ (ls ++ end (is_yes v a.answers))) (flat_map-lines a.answers)
    ∙ ap (λ b. begin ++ (flat_map (λ ls. ls) (map (λ c. c.lines) a.answers) ++ end b)) (sym a.answer)

-- what holds of each flow's answer holds of the lines at the flow's place
each_answer-each_lines : (P : ℕ → List ℕ → Type 0) (v : AuditedValue) (o : AuditOptions)
    (answers : List FlowAnswer) → AreFlowAnswers v o answers
    → ((printed : List Tree) (flow : ℕ) (a : FlowAnswer) → IsFlowAnswer v o printed flow a → P flow a.lines)
    → (flow : ℕ) (ls : List ℕ) → slice_get (map (λ a. a.lines) answers) flow ≡ Some ls → P flow ls
each_answer-each_lines P v o answers are holds flow ls printed =
    let here = slice_get-map (λ (a : FlowAnswer). a.lines) answers flow ls printed in
    subst (λ (xs : List ℕ). P flow xs) here.2
    (holds (trees_shown o (take flow answers)) flow here.0 (are.each flow here.0 here.1))

-- what holds of each flow's answer holds of the lines that the whole text has of each flow
pub has_lines-each_answer : (Holds : ℕ → List ℕ → Type 0) (v : AuditedValue) (o : AuditOptions) (all : Bool)
    (written : List ℕ) → IsAudited v o all written
    → ((printed : List Tree) (flow : ℕ) (a : FlowAnswer) → IsFlowAnswer v o printed flow a
    → Holds flow a.lines)
    → HasLinesOfEachFlow v o.json all Holds written
has_lines-each_answer Holds v o all written a holds = record {
  begin = begin_lines o (facts v.domain) (excluded v) v.ignored;
  lines = map (λ b. b.lines) a.answers;
  end = end_lines o v.domain.topology v.summary v.asked (excluded v) (is_whole v) all a.answers;
  count = length-map a.answers (λ (b : FlowAnswer). b.lines) ∙ a.are_answers.count;
  each = each_answer-each_lines Holds v o a.answers a.are_answers holds;
  spelled = audit_text-split_at_lines v o all written a;
}
