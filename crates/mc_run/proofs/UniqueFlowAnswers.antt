-- What an audit prints of each flow is determined by the domain.
use Rattle.std.proofs.Common.{◌≡◌, ℕ, suc, ◌+◌, Bool, true, false, cond, List, [], ◌∷◌, ◌++◌, length}
use Rattle.std.proofs.Common.{Some, refl, sym, ap, ap₂, subst, ◌∙◌, arith, filter, fold, take, ◌&&◌}
use Rattle.std.proofs.Common.{slice_get}
use Rattle.std.specs.Prelude.{flat_map, ⊤}
use Rattle.mc_tables.specs.Summary.{SummaryValue}
use Rattle.mc_cert.specs.Certificate.{Tree}
use Rattle.mc_theory.specs.Nets.{Net}
use Rattle.mc_forward.specs.Domains.{DomainValue, IsDomain, net_of, ttl_of}
use Rattle.mc_forward.specs.ListedTables.{facts}
use Rattle.mc_maker.specs.Examined.{is_certified}
use Rattle.mc_maker.specs.ExaminedFlights.{without_flights}
use Rattle.mc_maker.specs.declared.examination.Examined.{Examined}
use Rattle.mc_maker.specs.declared.examination.Examined.TheVariants as examined_as
use Rattle.mc_maker.specs.declared.examined_flights.ExaminedFlights.{ExaminedFlights}
use Rattle.mc_maker.specs.declared.examined_flights.ExaminedFlights.TheVariants.{Certified, FoundAtTtl255}
use Rattle.mc_maker.specs.declared.examined_flights.ExaminedFlights.TheVariants.{FoundAtFlowTtl}
use Rattle.mc_explain.specs.declared.causes.explanation.Certainty.{Certainty}
use Rattle.mc_json.specs.TreeKey.{tree_key}
use Rattle.mc_run.specs.FlowCounts.{FlowAnswer, are_right, count}
use Rattle.mc_run.specs.AuditedFiles.{AuditedValue, excluded, is_whole}
use Rattle.mc_run.specs.AuditRun.{IsFlowAnswer, trees_shown}
use Rattle.mc_explain.specs.ExplanationValues.{ExplanationValue}
use Rattle.mc_run.specs.AuditFlowText.{answer_lines, is_hidden, known_right, right_flow_lines}
use Rattle.mc_run.specs.AuditFlowText.{shown_trees_with, with_shown_tree}
use Rattle.mc_commands.specs.MakeRun.{IsExamined}
use Rattle.mc_cli.specs.declared.audit_options.AuditOptions.{AuditOptions}
use Rattle.mc_run.proofs.UniqueExamination.{HaveSameFlights, examined_flights-unique}
use Rattle.mc_run.proofs.UniqueExplanation.{IsSameExplanation, is_explanation-unique}
use Rattle.mc_run.proofs.UniqueFlowLines.{wrong_flow_lines-same_travel}

-- ---- the answer of a flow

-- Two answers have the same result, the same lines, and print the same trees.
pub record IsSameAnswer (o : AuditOptions) (a b : FlowAnswer) : Type 0 where
  pub lines : a.lines ≡ b.lines
  pub wanted : a.wanted ≡ b.wanted
  pub certified : is_certified a.examined ≡ is_certified b.examined
  pub right : a.right ≡ b.right
  pub shown_trees : (printed : List Tree)
      → shown_trees_with o a.net printed a.examined a.wanted
      ≡ shown_trees_with o b.net printed b.examined b.wanted

-- the answers by two results of an examination
answer_lines-same_flights : (o : AuditOptions) (whole : Bool) (d : DomainValue) (summary : List SummaryValue)
    (printed : List Tree) (flow : ℕ) (a b : ExaminedFlights) (x y : ExplanationValue) (wanted : List ℕ)
    → HaveSameFlights a b → IsSameExplanation x y
    → answer_lines o whole (facts d) summary printed flow (without_flights d flow a) x wanted
    ≡ answer_lines o whole (facts d) summary printed flow (without_flights d flow b) y wanted
answer_lines-same_flights o whole d summary printed flow (Certified xs) (Certified ys) x y wanted
    same explained =
    ap (λ (es : Tree). right_flow_lines o whole (facts d) printed flow es wanted) same
answer_lines-same_flights o whole d summary printed flow (FoundAtTtl255 a) (FoundAtTtl255 b) x y
    wanted same explained =
    wrong_flow_lines-same_travel o.json o.travels (facts d) summary flow 255 a b x y same explained
answer_lines-same_flights o whole d summary printed flow (FoundAtFlowTtl a b) (FoundAtFlowTtl c e)
    x y wanted same explained =
    wrong_flow_lines-same_travel o.json o.travels (facts d) summary flow (ttl_of d flow) b e x y
    same.1 explained
answer_lines-same_flights o whole d summary printed flow (Certified xs) (FoundAtTtl255 b) x y
    wanted same explained =
    absurd same
answer_lines-same_flights o whole d summary printed flow (Certified xs) (FoundAtFlowTtl b c) x y
    wanted same explained =
    absurd same
answer_lines-same_flights o whole d summary printed flow (FoundAtTtl255 a) (Certified ys) x y
    wanted same explained =
    absurd same
answer_lines-same_flights o whole d summary printed flow (FoundAtTtl255 a) (FoundAtFlowTtl b c) x
    y wanted same explained =
    absurd same
answer_lines-same_flights o whole d summary printed flow (FoundAtFlowTtl a b) (Certified ys) x y
    wanted same explained =
    absurd same
answer_lines-same_flights o whole d summary printed flow (FoundAtFlowTtl a b) (FoundAtTtl255 c) x
    y wanted same explained =
    absurd same

-- whether they are right, and the printed trees
is_certified-same_flights : (d : DomainValue) (flow : ℕ) (a b : ExaminedFlights) → HaveSameFlights a b
    → is_certified (without_flights d flow a) ≡ is_certified (without_flights d flow b)
is_certified-same_flights d flow (Certified xs) (Certified ys) same = refl
is_certified-same_flights d flow (FoundAtTtl255 a) (FoundAtTtl255 b) same = refl
is_certified-same_flights d flow (FoundAtFlowTtl a b) (FoundAtFlowTtl c e) same = refl
is_certified-same_flights d flow (Certified xs) (FoundAtTtl255 b) same = absurd same
is_certified-same_flights d flow (Certified xs) (FoundAtFlowTtl b c) same = absurd same
is_certified-same_flights d flow (FoundAtTtl255 a) (Certified ys) same = absurd same
is_certified-same_flights d flow (FoundAtTtl255 a) (FoundAtFlowTtl b c) same = absurd same
is_certified-same_flights d flow (FoundAtFlowTtl a b) (Certified ys) same = absurd same
is_certified-same_flights d flow (FoundAtFlowTtl a b) (FoundAtTtl255 c) same = absurd same

-- the trees that are printed after this flow
shown_trees_with-same_flights : (o : AuditOptions) (d : DomainValue) (flow : ℕ)
    (a b : ExaminedFlights) (wanted : List ℕ)
    (printed : List Tree) → HaveSameFlights a b
    → shown_trees_with o (net_of d flow) printed (without_flights d flow a) wanted
    ≡ shown_trees_with o (net_of d flow) printed (without_flights d flow b) wanted
shown_trees_with-same_flights o d flow (Certified xs) (Certified ys) wanted printed same =
    ap (λ (es : Tree). with_shown_tree o.json (is_hidden o.faults wanted) printed
    (tree_key (net_of d flow) es)) same
shown_trees_with-same_flights o d flow (FoundAtTtl255 a) (FoundAtTtl255 b) wanted printed same = refl
shown_trees_with-same_flights o d flow (FoundAtFlowTtl a b) (FoundAtFlowTtl c e) wanted printed same = refl
shown_trees_with-same_flights o d flow (Certified xs) (FoundAtTtl255 b) wanted printed same = absurd same
shown_trees_with-same_flights o d flow (Certified xs) (FoundAtFlowTtl b c) wanted printed same = absurd same
shown_trees_with-same_flights o d flow (FoundAtTtl255 a) (Certified ys) wanted printed same = absurd same
shown_trees_with-same_flights o d flow (FoundAtTtl255 a) (FoundAtFlowTtl b c) wanted printed same =
    absurd same
shown_trees_with-same_flights o d flow (FoundAtFlowTtl a b) (Certified ys) wanted printed same = absurd same
shown_trees_with-same_flights o d flow (FoundAtFlowTtl a b) (FoundAtTtl255 c) wanted printed same =
    absurd same

-- whether a flow is known to be right
known_right-same : (whole : Bool) (x y : Examined) (known other : Bool) → is_certified x ≡ is_certified y
    → known ≡ other → known_right whole x known ≡ known_right whole y other
known_right-same whole (examined_as.Certified xs) (examined_as.Certified ys) known other same is = refl
known_right-same whole (examined_as.Certified xs) (examined_as.Found ttl travel) known other same is =
    absurd cc
known_right-same whole (examined_as.Found ttl travel) (examined_as.Certified ys) known other same is =
    absurd cc
known_right-same whole (examined_as.Found ttl travel) (examined_as.Found at other_travel) known
    other same is =
    ap (λ (b : Bool). known_right whole (examined_as.Found ttl travel) b) is

-- after the same printed trees a flow has one answer, since its flights and its explanation are determined
same_answer-flow_answers : (v : AuditedValue) (o : AuditOptions) (printed : List Tree) (flow : ℕ)
    (a b : FlowAnswer)
    → IsDomain v.domain → IsFlowAnswer v o printed flow a → IsFlowAnswer v o printed flow b
    → IsSameAnswer o a b
same_answer-flow_answers v o printed flow a b ok p q =
    let d = v.domain in
    let examined = λ (x : Examined) (w : ExaminedFlights) (is : x ≡ without_flights d flow w)
    (e : IsExamined d flow x). subst (λ (y : Examined). IsExamined d flow y) is e in
    let flights = examined_flights-unique d flow p.flights q.flights p.has_flights q.has_flights
    (examined a.examined p.flights p.examined p.checked.examined)
    (examined b.examined q.flights q.examined q.checked.examined) in
    let explained = is_explanation-unique d v.summary (excluded v) (is_whole v) flow p.flights
    q.flights p.explanation
    q.explanation ok flights p.explained q.explained in
    let wanted : a.wanted ≡ b.wanted = p.wanted ∙ sym q.wanted in
    let certified : is_certified a.examined ≡ is_certified b.examined =
    ap is_certified p.examined ∙ is_certified-same_flights d flow p.flights q.flights flights
    ∙ ap is_certified (sym q.examined) in
    let lines = λ (x : Examined) (w : List ℕ) (y : ExplanationValue).
    answer_lines o (is_whole v) (facts d) v.summary printed flow x y w in
    record {
      lines = p.spelled
          ∙ ap₂ (λ (x : Examined) (w : List ℕ). lines x w p.explanation) p.examined wanted
          ∙ answer_lines-same_flights o (is_whole v) d v.summary printed flow p.flights q.flights
          p.explanation q.explanation b.wanted flights explained
          ∙ ap (λ (x : Examined). lines x b.wanted q.explanation) (sym q.examined)
          ∙ sym q.spelled;
      wanted = wanted;
      certified = certified;
      right = p.right ∙ known_right-same (is_whole v) a.examined b.examined p.explanation.certainty.known
          q.explanation.certainty.known certified (ap (λ (c : Certainty). c.known) explained.certainty)
          ∙ sym q.right;
      shown_trees = λ ts.
          ap (λ (n : Net). shown_trees_with o n ts a.examined a.wanted) p.net
          ∙ ap₂ (λ (x : Examined) (w : List ℕ). shown_trees_with o (net_of d flow) ts x w) p.examined wanted
          ∙ shown_trees_with-same_flights o d flow p.flights q.flights b.wanted ts flights
          ∙ ap₂ (λ (n : Net) (x : Examined). shown_trees_with o n ts x b.wanted) (sym q.net)
          (sym q.examined);
    }

-- ---- the answers of all flows

-- each flow has the same answer
abbrev pub HaveSameAnswers : AuditOptions → List FlowAnswer → List FlowAnswer → Type 0
HaveSameAnswers o [] [] = ⊤
HaveSameAnswers o (a ∷ xs) (b ∷ ys) = IsSameAnswer o a b × HaveSameAnswers o xs ys
HaveSameAnswers o _ _ = ⊥

-- the answers from flow k on, after these trees were printed
abbrev AreAnswersFrom : AuditedValue → AuditOptions → ℕ → List Tree → List FlowAnswer → Type 0
AreAnswersFrom v o k printed answers =
    (i : ℕ) (a : FlowAnswer) → slice_get answers i ≡ Some a
    → IsFlowAnswer v o
    (fold (λ (ts : List Tree) (b : FlowAnswer). shown_trees_with o b.net ts b.examined b.wanted) printed
    (take i answers)) (k + i) a

-- all answers are those from the first flow on
pub are_answers_from-first : (v : AuditedValue) (o : AuditOptions) (answers : List FlowAnswer)
    → ((flow : ℕ) (a : FlowAnswer) → slice_get answers flow ≡ Some a
    → IsFlowAnswer v o (trees_shown o (take flow answers)) flow a) → AreAnswersFrom v o 0 [] answers
are_answers_from-first v o answers each flow a there =
    let place : flow ≡ 0 + flow = omega arith in
    subst (λ (n : ℕ). IsFlowAnswer v o (trees_shown o (take flow answers)) n a) place (each flow a there)

-- without the first answer, the others are those from the next flow on
are_answers_from-next : (v : AuditedValue) (o : AuditOptions) (k : ℕ) (printed : List Tree) (a : FlowAnswer)
    (answers : List FlowAnswer) → AreAnswersFrom v o k printed (a ∷ answers)
    → AreAnswersFrom v o (suc k) (shown_trees_with o a.net printed a.examined a.wanted) answers
are_answers_from-next v o k printed a answers from i b there =
    let place : k + suc i ≡ suc k + i = omega arith in
    subst (λ (n : ℕ). IsFlowAnswer v o
    (fold (λ (ts : List Tree) (c : FlowAnswer). shown_trees_with o c.net ts c.examined c.wanted)
    (shown_trees_with o a.net printed a.examined a.wanted) (take i answers)) n b) place (from (suc i) b there)

-- two lists of answers for the flows of one domain agree, flow by flow
pub have_same_answers-flow_answers : (v : AuditedValue) (o : AuditOptions) (k : ℕ) (printed : List Tree)
    (xs ys : List FlowAnswer) → IsDomain v.domain → length xs ≡ length ys → AreAnswersFrom v o k printed xs
    → AreAnswersFrom v o k printed ys → HaveSameAnswers o xs ys
have_same_answers-flow_answers v o k printed [] [] ok size p q = tt
have_same_answers-flow_answers v o k printed [] (b ∷ ys) ok size p q = absurd (omega (arith, size))
have_same_answers-flow_answers v o k printed (a ∷ xs) [] ok size p q = absurd (omega (arith, size))
have_same_answers-flow_answers v o k printed (a ∷ xs) (b ∷ ys) ok size p q =
    let first = same_answer-flow_answers v o printed (k + 0) a b ok (p 0 a refl) (q 0 b refl) in
    let next = are_answers_from-next v o k printed a xs p in
    let more : AreAnswersFrom v o (suc k) (shown_trees_with o a.net printed a.examined a.wanted) ys =
    subst (λ (ts : List Tree). AreAnswersFrom v o (suc k) ts ys) (sym (first.shown_trees printed))
    (are_answers_from-next v o k printed b ys q) in (
      first,
      have_same_answers-flow_answers v o (suc k)
          (shown_trees_with o a.net printed a.examined a.wanted) xs ys ok
          (omega (arith, size)) next more,
    )

-- the same answers have the same lines
pub lines-same_answers : (o : AuditOptions) (xs ys : List FlowAnswer) → HaveSameAnswers o xs ys
    → flat_map (λ (a : FlowAnswer). a.lines) xs ≡ flat_map (λ (a : FlowAnswer). a.lines) ys
lines-same_answers o [] [] same = refl
lines-same_answers o [] (b ∷ ys) same = absurd same
lines-same_answers o (a ∷ xs) [] same = absurd same
lines-same_answers o (a ∷ xs) (b ∷ ys) same =
    ap₂ (λ (xs ys : List ℕ). xs ++ ys) same.0.lines (lines-same_answers o xs ys same.1)

-- the same answers are all right, or in both lists one isn't
pub are_right-same_answers : (o : AuditOptions) (xs ys : List FlowAnswer) → HaveSameAnswers o xs ys
    → are_right xs ≡ are_right ys
are_right-same_answers o [] [] same = refl
are_right-same_answers o [] (b ∷ ys) same = absurd same
are_right-same_answers o (a ∷ xs) [] same = absurd same
are_right-same_answers o (a ∷ xs) (b ∷ ys) same =
    ap₂ (λ (x y : Bool). x && y) same.0.certified (are_right-same_answers o xs ys same.1)

-- counts stay equal where both count an answer, or neither
count-cons_same : (x y : Bool) (a b : FlowAnswer) (xs ys : List FlowAnswer) → x ≡ y
    → length xs ≡ length ys → length (cond x (a ∷ xs) xs) ≡ length (cond y (b ∷ ys) ys)
count-cons_same true true a b xs ys same size = ap suc size
count-cons_same true false a b xs ys same size = absurd cc
count-cons_same false true a b xs ys same size = absurd cc
count-cons_same false false a b xs ys same size = size

-- the same answers have the same counts
pub count-same_answers : (o : AuditOptions) (p : FlowAnswer → Bool) (xs ys : List FlowAnswer)
    → ((a b : FlowAnswer) → IsSameAnswer o a b → p a ≡ p b) → HaveSameAnswers o xs ys
    → count p xs ≡ count p ys
count-same_answers o p [] [] tests same = refl
count-same_answers o p [] (b ∷ ys) tests same = absurd same
count-same_answers o p (a ∷ xs) [] tests same = absurd same
count-same_answers o p (a ∷ xs) (b ∷ ys) tests same =
    count-cons_same (p a) (p b) a b (filter p xs) (filter p ys) (tests a b same.0)
    (count-same_answers o p xs ys tests same.1)
