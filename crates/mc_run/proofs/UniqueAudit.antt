-- The text of an audit is determined by the domain, and by the folder's files.
use Rattle.std.proofs.Common.{◌≡◌, ℕ, ◌+◌, Bool, List, [], ◌++◌, length, Option, sym, ap, ap₂, subst, ◌∙◌}
use Rattle.std.proofs.Common.{◌&&◌}
use Rattle.std.specs.Prelude.{◌==◌, is_none}
use Rattle.mc_files.specs.Files.{FileText}
use Rattle.mc_tables.specs.Summary.{SummaryValue}
use Rattle.mc_topology.specs.Topology.{TopologyValue}
use Rattle.mc_forward.specs.Domains.{DomainValue, IsDomain}
use Rattle.mc_forward.specs.ListedTables.{facts}
use Rattle.mc_input.specs.ExcludedRouters.{files_with_exclusions}
use Rattle.mc_input.specs.AskedOfFiles.{UnansweredWantsValue, IsAskedOf}
use Rattle.mc_input.specs.SummariesOfFiles.{AreSummariesOf}
use Rattle.mc_input.proofs.UniqueDomain.{FilesMeanDomain-unique}
use Rattle.mc_maker.specs.declared.examination.Examined.TheVariants as examined_as
use Rattle.mc_run.specs.FlowCounts.{FlowAnswer, count, is_right, is_unknown, is_unwanted, is_wrong}
use Rattle.mc_run.specs.FlowCounts.{says_right, says_wrong}
use Rattle.mc_run.specs.AuditBegin.{begin_lines}
use Rattle.mc_run.specs.AuditEnd.{end_text_or_objects, end_lines, verdict_line}
use Rattle.mc_run.specs.AuditedFiles.{AuditedValue, LeftOutValue, MeansAudited, excluded, is_whole}
use Rattle.mc_run.specs.AuditRun.{IsAuditText, IsAudited, is_yes}
use Rattle.mc_cli.specs.declared.audit_options.AuditOptions.{AuditOptions}
use Rattle.mc_run.proofs.UniqueFlowAnswers.{HaveSameAnswers, are_answers_from-first}
use Rattle.mc_run.proofs.UniqueFlowAnswers.{are_right-same_answers, count-same_answers}
use Rattle.mc_run.proofs.UniqueFlowAnswers.{have_same_answers-flow_answers, lines-same_answers}

-- ---- the text

-- the lines after those of the flows
end_lines-same_answers : (v : AuditedValue) (o : AuditOptions) (xs ys : List FlowAnswer) → length xs
    ≡ length ys
    → HaveSameAnswers o xs ys → is_yes v xs ≡ is_yes v ys
    → end_lines o v.domain.topology v.summary v.asked (excluded v) (is_whole v) (is_yes v xs) xs
    ++ verdict_line o.json (is_yes v xs)
    ≡ end_lines o v.domain.topology v.summary v.asked (excluded v) (is_whole v) (is_yes v ys) ys
    ++ verdict_line o.json (is_yes v ys)
end_lines-same_answers v o xs ys flows same all =
    let end = λ (all : Bool) (n r w k u : ℕ).
    end_text_or_objects o v.domain.topology v.summary v.asked (excluded v) (is_whole v) all n r w k u
    ++ verdict_line o.json all in
    let right = count-same_answers o is_right xs ys (λ a b s. ap says_right s.right) same in
    let wrong = count-same_answers o is_wrong xs ys (λ a b s. ap says_wrong s.right) same in
    let unknown = count-same_answers o is_unknown xs ys
    (λ a b s. ap (λ (r : Option Bool). is_none r) s.right) same in
    let unwanted = count-same_answers o is_unwanted xs ys
    (λ a b s. ap₂ (λ (x : Bool) (w : List ℕ). x && (length w == 0)) s.certified s.wanted) same in
    ap (λ (all : Bool). end all (length xs) (count is_right xs) (count is_wrong xs) (count is_unknown xs)
    (count is_unwanted xs)) all
    ∙ ap (λ (n : ℕ). end (is_yes v ys) n (count is_right xs) (count is_wrong xs) (count is_unknown xs)
    (count is_unwanted xs)) flows
    ∙ ap₂ (λ (r w : ℕ). end (is_yes v ys) (length ys) r w (count is_unknown xs) (count is_unwanted xs))
    right wrong
    ∙ ap₂ (λ (k u : ℕ). end (is_yes v ys) (length ys) (count is_right ys) (count is_wrong ys) k u)
    unknown unwanted

-- an audit has one text and one answer
is_audited-unique : (v : AuditedValue) (o : AuditOptions) (all every : Bool) (text other : List ℕ)
    → IsDomain v.domain → IsAudited v o all text → IsAudited v o every other
    → (all ≡ every) × (text ≡ other)
is_audited-unique v o all every text other ok p q =
    let flows : length p.answers ≡ length q.answers =
    p.are_answers.count ∙ sym q.are_answers.count in
    let same = have_same_answers-flow_answers v o 0 [] p.answers q.answers ok flows
    (are_answers_from-first v o p.answers p.are_answers.each)
    (are_answers_from-first v o q.answers q.are_answers.each) in
    let all : is_yes v p.answers ≡ is_yes v q.answers =
    ap (λ (b : Bool). is_whole v && b) (are_right-same_answers o p.answers q.answers same) in
    let begin = begin_lines o (facts v.domain) (excluded v) v.ignored in (
      p.answer ∙ all ∙ sym q.answer,
      p.spelled
          ∙ ap₂ (λ (lines end : List ℕ). begin ++ (lines ++ end))
          (lines-same_answers o p.answers q.answers same)
          (end_lines-same_answers v o p.answers q.answers flows same all)
          ∙ sym q.spelled,
    )

-- ---- the files

-- One folder's files and one topology have at most one list of summaries.
abbrev HasOneListOfSummaries : Type 0
HasOneListOfSummaries =
    (all : Bool) (files : List FileText) (t : TopologyValue) (a b : List SummaryValue)
    → AreSummariesOf all files t a → AreSummariesOf all files t b → a ≡ b

-- one folder's files mean at most one of what hosts ask for
abbrev HasOneOfAsked : Type 0
HasOneOfAsked =
    (all : Bool) (ignored : List (ℕ × ℕ)) (files : List FileText) (d : DomainValue)
    (a b : UnansweredWantsValue)
    → IsDomain d → IsAskedOf all ignored files d a → IsAskedOf all ignored files d b → a ≡ b

-- one folder's files mean at most one domain to audit
means_audited-unique : HasOneListOfSummaries → HasOneOfAsked → (o : AuditOptions) (left : LeftOutValue)
    (files : List FileText)
    (v w : AuditedValue) → MeansAudited o left files v → MeansAudited o left files w → v ≡ w
means_audited-unique one_list one_asked o left files v w p q =
    let read = files_with_exclusions left.routers files in
    let domain = FilesMeanDomain-unique read v.domain w.domain p.means q.means in
    let summary = one_list o.unlisted read v.domain.topology v.summary w.summary p.summary
    (subst (λ (d : DomainValue). AreSummariesOf o.unlisted read d.topology w.summary) (sym domain)
    q.summary) in
    let asked = one_asked o.unlisted left.groups read v.domain v.asked w.asked p.means.rules p.asked
    (subst (λ (d : DomainValue). IsAskedOf o.unlisted left.groups read d w.asked) (sym domain) q.asked) in
    let without = p.without ∙ sym q.without in
    let ignored = p.ignored ∙ sym q.ignored in
    λ i. record {
      domain = domain i;
      summary = summary i;
      asked = asked i;
      without = without i;
      ignored = ignored i;
    }

-- one folder's files and one set of options have one text and one answer
pub is_audit_text-unique : HasOneListOfSummaries → HasOneOfAsked → (left : LeftOutValue)
    (files : List FileText) (o : AuditOptions)
    (all every : Bool) (text other : List ℕ) → IsAuditText o left files all text
    → IsAuditText o left files every other → (all ≡ every) × (text ≡ other)
is_audit_text-unique one_list one_asked left files o all every text other p q =
    let same = means_audited-unique one_list one_asked o left files q.domain p.domain q.means p.means in
    is_audited-unique p.domain o all every text other p.means.means.rules p.holds
    (subst (λ (v : AuditedValue). IsAudited v o every other) same q.holds)
